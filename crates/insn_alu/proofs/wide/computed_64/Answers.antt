use Rattle.std.proofs.Common.{◌∙◌, ap}
use Rattle.bpf_decode.specs.declared.operation.Width.TheVariants.{Bits64}
use Rattle.insn_alu.specs.Arithmetic.{quotient, remainder, moved}
use Rattle.std.proofs.Math.Facts.{to_z-of_z}
use Rattle.insn_alu.proofs.Halves.{division, division_leaves, number_moved}
use Rattle.insn_alu.proofs.wide.computed_64.Goals as goal

pub returns-in-Div : goal.returns-in-Div
returns-in-Div c = rw (c.in-Div.is, division Bits64 c.args.offset c.args.a c.args.b c.ranges.a.fits c.ranges.b.fits) (c.quotient.ensures ∙ ap (λ k. quotient Bits64 k c.args.a c.args.b) (to_z-of_z c.ranges.offset))

pub returns-in-Mod : goal.returns-in-Mod
returns-in-Mod c = rw (c.in-Mod.is, division_leaves Bits64 c.args.offset c.args.a c.args.b c.ranges.a.fits c.ranges.b.fits) (c.remainder.ensures ∙ ap (λ k. remainder Bits64 k c.args.a c.args.b) (to_z-of_z c.ranges.offset))

pub returns-in-Mov : goal.returns-in-Mov
returns-in-Mov c = rw (c.in-Mov.is, number_moved Bits64 c.args.offset c.args.a c.args.b c.ranges.b.fits) (c.moved.ensures ∙ ap (λ k. moved Bits64 k c.args.b) (to_z-of_z c.ranges.offset))
