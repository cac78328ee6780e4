use Rattle.std.proofs.Common.{◌≡◌, ◌*◌, true, sym, ◌∙◌, arith}
use Rattle.verifier.specs.Writes.{writes_from}
use Rattle.admission.specs.Reserve.{pages_asked}
use Rattle.admission.proofs.Counting.{none_pinned}
use Rattle.admission.proofs.need.may_write.Goals as goal

pub returns-then-writes-clause-number : goal.returns-then-writes-clause-number
returns-then-writes-clause-number c =
    let v = c.args.program.now in
    let number = c.pages_asked.ensures.number in
    let few = c.pages_asked.ensures.few in
    let counted = none_pinned (c.args.map * 256) (pages_asked v.subject c.args.map) (omega (arith, number, few, c.requires)) in
    let is : writes_from v 0 c.args.map ≡ true = sym c.writes.ensures ∙ c.if-writes.true in
    rw is (number ∙ sym counted)
