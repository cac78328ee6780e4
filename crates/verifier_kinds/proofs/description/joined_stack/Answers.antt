use Rattle.std.proofs.Common.{refl, arith, rules}
use Rattle.verifier_kinds.specs.declared.description.StackSlot.TheVariants.{Bytes}
use Rattle.verifier_kinds.specs.Descriptions.{join_of_slots}
use Rattle.verifier_kinds.proofs.Joins.{merged_by_index}
use Rattle.verifier_kinds.proofs.description.joined_stack.Goals as goal

pub returns : goal.returns
returns c =
    merged_by_index join_of_slots (Bytes 0) refl c.args.a.now c.args.b.now c.loop-k.stack (search rules) (search rules)
    (λ k h. c.loop-k.invariant.1 k (omega (arith, c.loop-k.invariant.0)))
