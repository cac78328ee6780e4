-- Comparisons of numbers of which only the low bits count.
use Rattle.std.proofs.Common.{◌≡◌, ℕ, ap}
use Rattle.bpf_decode.specs.declared.operation.Width.{Width}
use Rattle.bpf_decode.specs.declared.operation.Comparison.{Comparison}
use Rattle.insn_alu.specs.Arithmetic.{low}
use Rattle.insn_alu.specs.Comparisons.{compared, holds}
use Rattle.insn_alu.proofs.Halves.{low_of_small}
use Rattle.insn_alu.proofs.Small.{low_fits}

-- of the second operand only the low bits count
pub holds_of_low : (comparison : Comparison) (width : Width) (x y : ℕ) → holds comparison width x (low width y) ≡ holds comparison width x y
unfolding holds
holds_of_low comparison width x y =
    ap (compared comparison width (low width x)) (low_of_small width (low width y) (low_fits width y))
