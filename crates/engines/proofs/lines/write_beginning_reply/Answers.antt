use Rattle.std.proofs.Common.{OnOk, subst}
use Rattle.std.specs.Io.KnownBytes.{Appends}
use Rattle.engines.proofs.Noting.{begin-lines}
use Rattle.engines.proofs.lines.write_beginning_reply.Goals as goal

pub returns-clause-lines : goal.returns-clause-lines
returns-clause-lines g c =
    let was = g.W.Write.contents c.args.writer.now in
    let is = g.W.Write.contents c.write_reply.new.writer in
    let beginning = c.args.beginning.now in
    subst (λ lines. OnOk c.write_reply.result (Appends was is lines))
    (begin-lines beginning.tenant beginning.program c.args.run beginning.context.now c.args.reply.now) c.write_reply.ensures.lines
