use Rattle.std.proofs.Common.{◌%◌, ◌∙◌, ap}
use Rattle.insn_alu.specs.Arithmetic.{alu}
use Rattle.std.proofs.Math.Facts.{to_z-of_z}
use Rattle.bpf_decode.specs.declared.operation.Width.TheVariants.{Bits32}
use Rattle.insn_alu.proofs.Halves.{of_lows}
use Rattle.insn_alu.proofs.computed.Goals as goal

pub returns-in_default-Bits32 : goal.returns-in_default-Bits32
returns-in_default-Bits32 c =
    rw (c.in_default-Bits32.is-1) (c.from.ensures ∙ c.computed_32.ensures ∙ ap (λ k. alu c.args.code Bits32 k (c.args.a % 4294967296) (c.args.b % 4294967296)) (to_z-of_z c.ranges.offset)
    ∙ of_lows c.args.code c.args.offset c.args.a c.args.b c.in_default-Bits32.not-ToLittleEndian-0 c.in_default-Bits32.not-ToBigEndian-0 c.in_default-Bits32.not-SwapBytes-0)
