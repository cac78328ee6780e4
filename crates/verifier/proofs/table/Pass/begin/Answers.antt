use Rattle.std.proofs.Common.{◌∙◌}
use Rattle.verifier.proofs.Passes.{passed_start}
use Rattle.verifier.proofs.table.Pass.begin.Goals as goal

pub returns : goal.returns
returns c =
    rw c.start.ensures.start
    (passed_start c.args.candidate.now c.in_ok-new.field-0 c.in_ok-none_pending.field-0.items c.slots-slots.ensures.subject.text
    c.in_ok-new.ensures
    (c.in_ok-none_pending.ensures.len ∙ c.slots-slots.ensures.number)
    c.in_ok-none_pending.ensures.none)
