use Rattle.std.proofs.Common.{ℕ, ◌<◌, get_or}
use Rattle.verifier_kinds.specs.declared.description.StackSlot.TheVariants.{Bytes}
use Rattle.verifier_kinds.specs.Descriptions.{IsSlotBelow}
use Rattle.verifier_kinds.proofs.description.is_stack_below.Given as goal

abbrev pub invariant-loop-k : goal.invariant-loop-k
invariant-loop-k l = (n : ℕ) → n < l.k → IsSlotBelow (get_or l.a n (Bytes 0)) (get_or l.b n (Bytes 0))
