use Rattle.std.proofs.Common.{All, subst, sym}
use Rattle.std.proofs.lemmas.Result.{on_ok_weaker}
use Rattle.html_page.proofs.Pushed.{appended-inert}
use Rattle.html_page.specs.Inert.{IsInert}
use Rattle.html_page.proofs.escape.write_inert.Goals as goal

pub returns : goal.returns
returns g c =
    let was = g.W.Write.contents c.args.output.now in
    let is = g.W.Write.contents c.write_all.new.self in
    let inert = subst (All IsInert) (sym c.as_slice.ensures.value) c.in_ok-text.ensures in
    on_ok_weaker c.write_all.result (appended-inert was is c.as_slice.result.now inert) c.write_all.ensures.bytes
