use Rattle.std.proofs.Common.{rules, ◌≡◌, ℤ, pos, ◌∙◌, ◌-ℤ◌, true, FitsSigned, to_z, of_z, w64, sym, Err}
use Rattle.std.specs.Int.{cast_signed}
use Rattle.std.proofs.lemmas.Int.{to_z-of_z}
use Rattle.std.proofs.lemmas.Bool.{cond-true}
use Rattle.host_types.specs.Rules.{wrong_kind}
use Rattle.verifier_kinds.specs.Kinds.{is_constant, least_align}
use Rattle.verifier_kinds.specs.Arithmetic.{within_value}
use Rattle.verifier_kinds.proofs.Values.{subtracted_divided, near_signed, wide_difference}
use Rattle.verifier_kinds.proofs.arithmetic.moved_back_value.Goals as goal

-- the number by which it moves, in more bits
same_number : (wide number z : ℤ) → FitsSigned w64 number → wide ≡ to_z w64 (of_z w64 number) → number ≡ z → wide ≡ z
same_number wide number z fits p q = p ∙ to_z-of_z w64 number fits ∙ q

pub within_value-requires-clause-divided : goal.within_value-requires-clause-divided
within_value-requires-clause-divided c = λ n e.
    let back = same_number c.from-back.result c.cast_signed.result (cast_signed w64 c.args.by.low) (search rules) c.from-back.ensures c.cast_signed.ensures in
    let low = wide_difference c.args.offsets.low c.from.result c.from-back.result (cast_signed w64 c.args.by.low) c.from.ensures back (search rules) (near_signed c.args.by.low (search rules)) in
    rw c.least.ensures (subtracted_divided c.args.offsets c.args.by n c.requires.offsets.normal c.requires.by (sym low ∙ e))

pub returns-clause-result : goal.returns-clause-result
returns-clause-result c =
    let one : is_constant c.args.by ≡ true = search rules in
    let back = same_number c.from-back.result c.cast_signed.result (cast_signed w64 c.args.by.low) (search rules) c.from-back.ensures c.cast_signed.ensures in
    let low = wide_difference c.args.offsets.low c.from.result c.from-back.result (cast_signed w64 c.args.by.low) c.from.ensures back (search rules) (near_signed c.args.by.low (search rules)) in
    let high = wide_difference c.args.offsets.high c.from-2.result c.from-back.result (cast_signed w64 c.args.by.low) c.from-2.ensures back (search rules) (near_signed c.args.by.low (search rules)) in
    rw (cond-true (is_constant c.args.by) (within_value c.args.map (least_align c.args.offsets.align c.args.by.align) (pos c.args.offsets.low -ℤ cast_signed w64 c.args.by.low) (pos c.args.offsets.high -ℤ cast_signed w64 c.args.by.low)) (Err wrong_kind) one, ← low, ← high, ← c.least.ensures)
    c.within_value.ensures.result
