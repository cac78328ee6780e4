use Rattle.std.proofs.Common.{◌≡◌, ◌<◌, ℕ, true}
use Rattle.bpf_decode.specs.Text.{is_instruction}
use Rattle.lowering.specs.Covering.{KeepsOriginAt}
use Rattle.lowering.proofs.cover.are_kept.Given as goal

abbrev pub invariant-loop-at : goal.invariant-loop-at
invariant-loop-at l = (s : ℕ) → s < l.at → is_instruction l.whole s ≡ true → KeepsOriginAt l.whole l.lowered l.far l.near l.origins s
