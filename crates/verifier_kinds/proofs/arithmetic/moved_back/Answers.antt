use Rattle.std.proofs.Common.{rules, ◌≡◌, ℤ, ap, arith, ◌∙◌, MatchResult, Result, Ok, Err, ℕ, ◌-ℤ◌, FitsSigned, to_z, of_z, w32, w64, true}
use Rattle.std.proofs.lemmas.Int.{ints, to_z-of_z}
use Rattle.std.specs.Int.{cast_signed}
use Rattle.verifier_kinds.specs.declared.kind.Kind.{Kind}
use Rattle.verifier_kinds.specs.Kinds.{is_constant}
use Rattle.verifier_kinds.specs.Arithmetic.{moved_back, within_offsets}
use Rattle.verifier_kinds.proofs.Moves.{moved_back_by_constant, offset_refused, far_away}
use Rattle.verifier_kinds.proofs.arithmetic.moved_back.Goals as goal

-- the difference of 64 bits
exact_difference : (offset wide number : ℤ) → FitsSigned w32 offset → FitsSigned w64 number → wide ≡ to_z w32 (of_z w32 offset) → to_z w64 (of_z w64 wide) -ℤ to_z w64 (of_z w64 number) ≡ offset -ℤ number
exact_difference offset wide number p q e =
    let same : wide ≡ offset = omega (arith, ints) in
    let whole : to_z w64 (of_z w64 wide) ≡ offset = omega (arith, ints) in
    let kept : to_z w64 (of_z w64 number) ≡ number = to_z-of_z w64 number q in
    cc

-- an answer to one question is the answer to another that is the same
same_answer : (r : Result ℤ ℕ) (asked answered : (ℤ → Kind) → Result Kind ℕ) → ((kind : ℤ → Kind) → asked kind ≡ answered kind)
    → MatchResult r (λ k. (kind : ℤ → Kind) → answered kind ≡ Ok (kind k)) (λ n. (kind : ℤ → Kind) → answered kind ≡ Err n)
    → MatchResult r (λ k. (kind : ℤ → Kind) → asked kind ≡ Ok (kind k)) (λ n. (kind : ℤ → Kind) → asked kind ≡ Err n)
same_answer (Ok k) asked answered same h = λ kind. same kind ∙ h kind
same_answer (Err n) asked answered same h = λ kind. same kind ∙ h kind

pub returns-in-Some-clause-result : goal.returns-in-Some-clause-result
returns-in-Some-clause-result c =
    let z : ℤ = to_z w64 (of_z w64 c.in-Some.difference) in
    let number : FitsSigned w64 c.cast_signed.result = search rules in
    let fits : FitsSigned w64 c.in-Some.difference = search rules in
    let one : is_constant c.args.by ≡ true = search rules in
    let exact = exact_difference c.args.offset c.from.result c.cast_signed.result c.ranges.offset number c.from.ensures in
    let difference = c.in-Some.ensures.1 in
    let kept = to_z-of_z w64 c.in-Some.difference fits in
    let is : c.args.offset -ℤ cast_signed w64 c.args.by.low ≡ z = cc in
    same_answer c.within_offsets.result (λ kind. moved_back kind c.args.rule c.args.offset c.args.by) (λ kind. within_offsets kind c.args.rule z)
    (λ kind. moved_back_by_constant kind c.args.rule c.args.offset c.args.by one ∙ ap (within_offsets kind c.args.rule) is)
    c.within_offsets.ensures.result

pub returns-in-None-clause-result : goal.returns-in-None-clause-result
returns-in-None-clause-result c = λ kind.
    let number : FitsSigned w64 c.cast_signed.result = search rules in
    let one : is_constant c.args.by ≡ true = search rules in
    let exact = exact_difference c.args.offset c.from.result c.cast_signed.result c.ranges.offset number c.from.ensures in
    let z : ℤ = to_z w64 (of_z w64 c.from.result) -ℤ to_z w64 (of_z w64 c.cast_signed.result) in
    let is : c.args.offset -ℤ cast_signed w64 c.args.by.low ≡ z = cc in
    moved_back_by_constant kind c.args.rule c.args.offset c.args.by one
    ∙ ap (within_offsets kind c.args.rule) is
    ∙ offset_refused kind c.args.rule z (far_away z c.in-None.ensures)
