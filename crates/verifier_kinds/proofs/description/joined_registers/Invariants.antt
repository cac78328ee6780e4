use Rattle.std.proofs.Common.{◌≡◌, ℕ, ◌<◌, length, get_or}
use Rattle.std.proofs.Common.{None}
use Rattle.verifier_kinds.specs.Descriptions.{join_of_registers}
use Rattle.verifier_kinds.proofs.description.joined_registers.Given as goal

abbrev pub invariant-loop-i : goal.invariant-loop-i
invariant-loop-i l =
    (length l.registers ≡ 11) × ((n : ℕ) → n < l.i → get_or l.registers n None ≡ join_of_registers (get_or l.a n None) (get_or l.b n None))
