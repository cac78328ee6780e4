use Rattle.std.proofs.Common.{rules, ◌≡◌, w32, ◌∙◌}
use Rattle.std.specs.Int.{cast_signed, cast_unsigned}
use Rattle.std.specs.Int.Signed.{quot_z}
use Rattle.insn_alu.proofs.Quotients.{quotient_32}
use Rattle.insn_alu.proofs.word.quotient.Goals as goal

pub returns-then-offset-eq1 : goal.returns-then-offset-eq1
returns-then-offset-eq1 c =
    let bits : c.cast_unsigned.result ≡ cast_unsigned w32 (quot_z (cast_signed w32 c.args.a) (cast_signed w32 c.args.b)) =
    c.cast_unsigned.ensures ∙ rw (c.wrapping_div.ensures, c.cast_signed.ensures, c.cast_signed-then-offset-eq1.ensures) (quotient_32 c.args.a c.args.b c.ranges.a.fits c.ranges.b.fits) in
    rw (bits) (search rules)
