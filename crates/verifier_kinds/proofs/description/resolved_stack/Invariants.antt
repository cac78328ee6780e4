use Rattle.std.proofs.Common.{◌≡◌, ℕ, ◌<◌, length, get_or}
use Rattle.verifier_kinds.specs.declared.description.StackSlot.TheVariants.{Bytes}
use Rattle.verifier_kinds.specs.Descriptions.{resolved_slot}
use Rattle.verifier_kinds.proofs.description.resolved_stack.Given as goal

abbrev pub invariant-loop-k : goal.invariant-loop-k
invariant-loop-k l =
    (length l.stack ≡ 64) × ((n : ℕ) → n < l.k → get_or l.stack n (Bytes 0) ≡ resolved_slot l.call l.kind (get_or l.a n (Bytes 0)))
