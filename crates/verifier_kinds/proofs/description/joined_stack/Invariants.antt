use Rattle.std.proofs.Common.{◌≡◌, ℕ, ◌<◌, length, get_or}
use Rattle.verifier_kinds.specs.declared.description.StackSlot.TheVariants.{Bytes}
use Rattle.verifier_kinds.specs.Descriptions.{join_of_slots}
use Rattle.verifier_kinds.proofs.description.joined_stack.Given as goal

abbrev pub invariant-loop-k : goal.invariant-loop-k
invariant-loop-k l =
    (length l.stack ≡ 64) × ((n : ℕ) → n < l.k → get_or l.stack n (Bytes 0) ≡ join_of_slots (get_or l.a n (Bytes 0)) (get_or l.b n (Bytes 0)))
