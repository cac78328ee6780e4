use Rattle.std.proofs.Common.{◌≡◌, ◌<◌, ℕ, true}
use Rattle.bpf_decode.specs.Text.{is_instruction}
use Rattle.lowering.specs.Covering.{IsCoveredAt}
use Rattle.lowering.proofs.cover.are_covered.Given as goal

abbrev pub invariant-loop-at : goal.invariant-loop-at
invariant-loop-at l = (s : ℕ) → s < l.at → is_instruction l.lowered s ≡ true → IsCoveredAt l.text l.lowered l.origins s
