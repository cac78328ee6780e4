use Rattle.std.proofs.Common.{◌≡◌, ℕ, ◌<◌, length, get_or, None}
use Rattle.std.specs.Prelude.{option_map}
use Rattle.verifier_kinds.specs.Descriptions.{resolved_kind}
use Rattle.verifier_kinds.proofs.description.resolved_registers.Given as goal

abbrev pub invariant-loop-i : goal.invariant-loop-i
invariant-loop-i l =
    (length l.registers ≡ 11) × ((n : ℕ) → n < l.i → get_or l.registers n None ≡ option_map (resolved_kind l.call l.kind) (get_or l.a n None))
