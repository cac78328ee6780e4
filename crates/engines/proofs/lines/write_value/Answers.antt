use Rattle.std.proofs.Common.{[], ◌∷◌, ◌++◌}
use Rattle.std.proofs.lemmas.Result.{on_ok_weaker}
use Rattle.hex.specs.Hex.{encode_lower}
use Rattle.engines.specs.Lines.{location_text}
use Rattle.engines.proofs.Noting.{Appends-join}
use Rattle.engines.proofs.lines.write_value.Goals as goal

pub returns-clause-line : goal.returns-clause-line
returns-clause-line g c =
    let was = g.W.Write.contents c.args.writer.now in
    let positioned = g.W.Write.contents c.write_location.new.writer in
    let printed = g.W.Write.contents c.write_hex.new.writer in
    let is = g.W.Write.contents c.end_line.new.writer in
    let location = location_text c.in-HostLookup.tenant c.in-HostLookup.map c.in-HostLookup.key in
    let digits = encode_lower c.args.value.now in
    let both = Appends-join was positioned printed location digits c.in_ok-write_location.ensures.location c.in_ok-write_hex.ensures.digits in
    rw c.in-HostLookup.is (on_ok_weaker c.end_line.result (Appends-join was printed is (location ++ digits) (10 ∷ []) both) c.end_line.ensures.newline)
