-- The bytes of an aligned access in a slot of the stack.
use Rattle.std.proofs.Common.{◌≡◌, ℕ, ◌%◌, ◌<◌, arith}
use Rattle.std.proofs.Math.Pow.{pow_mono}
use Rattle.bpf_decode.specs.declared.operation.Size.{Size}
use Rattle.bpf_decode.specs.declared.operation.Size.TheVariants.{Byte, HalfWord, Word, DoubleWord}
use Rattle.bpf_decode.specs.Opcodes.{byte_count}
use Rattle.verifier.specs.Flow.{mask}

-- an aligned access lies in one slot
pub mask_fit : (at : ℕ) (size : Size) → at % byte_count size ≡ 0 → mask at size < 256
mask_fit at Byte e = omega (arith, pow_mono {i = at % 8} {j = 7} (omega arith))
mask_fit at HalfWord e = omega (arith, pow_mono {i = at % 8} {j = 6} (omega arith))
mask_fit at Word e = omega (arith, pow_mono {i = at % 8} {j = 4} (omega arith))
mask_fit at DoubleWord e = omega (arith, pow_mono {i = at % 8} {j = 0} (omega arith))
