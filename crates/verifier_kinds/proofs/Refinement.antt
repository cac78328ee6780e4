-- What a conditional jump says of dst: the ways that it lets through are normal, and have each number that goes there.
use Rattle.std.proofs.Common.{◌≡◌, ℕ, ◌+◌, ◌-◌, ◌/◌, ◌*◌, ◌%◌, ◌^◌, ◌<◌, ◌≤◌, ◌==◌, ◌∙◌, nat_lt, nat_le, min, max, Bool, true, false, not, if◌then◌else◌, Option, Some, None, IfSome, refl, sym, arith}
use Rattle.std.specs.Prelude.{option_map}
use Rattle.std.proofs.lemmas.Bool.{and_parts, cond_both, eqb-true, eqb-false, leb-true, leb-false, ltb-true, ltb-false}
use Rattle.bpf_decode.specs.declared.operation.Width.{Width}
use Rattle.bpf_decode.specs.declared.operation.Comparison.{Comparison}
use Rattle.bpf_decode.specs.declared.operation.Comparison.TheVariants.{Equal, NotEqual, Greater, GreaterOrEqual, Less, LessOrEqual}
use Rattle.insn_alu.specs.Arithmetic.{low, modulus}
use Rattle.insn_alu.specs.Comparisons.{compared, holds}
use Rattle.insn_alu.proofs.Halves.{low_of_small}
use Rattle.verifier_kinds.specs.declared.kind.Align.{Align}
use Rattle.verifier_kinds.specs.declared.kind.Align.TheVariants.{One, Two, Four, Eight}
use Rattle.verifier_kinds.specs.declared.kind.Range.{Range}
use Rattle.verifier_kinds.specs.declared.kind.Kind.{Kind}
use Rattle.verifier_kinds.specs.declared.kind.Kind.TheVariants.{Scalar}
use Rattle.verifier_kinds.specs.Kinds.{factor, rank, greatest_align, is_constant, IsIn, IsNormal, IsKind}
use Rattle.verifier_kinds.specs.Arithmetic.{between, normal_of}
use Rattle.verifier_kinds.specs.Refinement.{some_of, without_end, negated, kept_by, is_informative, refined, refined_kind}
use Rattle.verifier_kinds.proofs.Ranges.{first_divided, last_below}
use Rattle.verifier_kinds.proofs.Operands.{constant_number, in_normal_of, normal_of_is_normal}

-- ---- ranges of which nothing may be left

pub first_above : (d : Align) (low : ℕ) → low ≤ (low + (factor d - 1)) / factor d * factor d
first_above One low = omega arith
first_above Two low = omega arith
first_above Four low = omega arith
first_above Eight low = omega arith

-- nothing is left between ends that are the wrong way round
pub none_above : (low high : ℕ) (d : Align) → high < low → some_of (between low high d) ≡ None
none_above low high d h = grind (arith, first_above, last_below, cond_both, nat_le, leb-true)

-- an end at or below a multiple of the alignment is rounded up within 64 bits
multiple_fits : (d : Align) (end : ℕ) → end % factor d ≡ 0 → end < 2 ^ 64 → end + (factor d - 1) < 2 ^ 64
multiple_fits One end e h = omega arith
multiple_fits Two end e h = omega arith
multiple_fits Four end e h = omega arith
multiple_fits Eight end e h = omega arith

pub fits : (a : Range) (high : ℕ) → IsNormal a → high ≤ a.high → high + (factor a.align - 1) < 2 ^ 64
fits a high p h =
    let top : a.high + (factor a.align - 1) < 2 ^ 64 = multiple_fits a.align a.high p.high p.fits in
    omega arith

pub common_fits : (a b : Range) → IsNormal a → IsNormal b → min a.high b.high + (factor (greatest_align a.align b.align) - 1) < 2 ^ 64
common_fits a b p q =
    cond_both (nat_le (rank a.align) (rank b.align)) b.align a.align (λ d. min a.high b.high + (factor d - 1) < 2 ^ 64)
    (λ _. fits b (min a.high b.high) q (omega arith)) (λ _. fits a (min a.high b.high) p (omega arith))

-- what is left is normal
some_is_normal : (r : Range) → r.high < 2 ^ 64 → IfSome (some_of r) IsNormal
some_is_normal r h = grind (arith, first_above, last_below, cond_both, nat_le, leb-true, normal_of_is_normal, first_divided)

without_is_normal : (a : Range) (n : ℕ) → IsNormal a → IfSome (without_end a n) IsNormal
without_is_normal a n p =
    let fits = p.fits in
    some_is_normal (between (if a.low == n then a.low + 1 else a.low) (if a.high == n then a.high - 1 else a.high) a.align)
    (cond_both (a.high == n) (a.high - 1) a.high (λ h. h < 2 ^ 64) (λ _. omega arith) (λ _. fits))

pub kept_is_normal : (comparison : Comparison) (a b : Range) → IsNormal a → IsNormal b → IfSome (kept_by comparison a b) IsNormal
kept_is_normal Equal a b p q =
    let fits = p.fits in
    some_is_normal (between (max a.low b.low) (min a.high b.high) (greatest_align a.align b.align)) (omega arith)
kept_is_normal NotEqual a b p q =
    cond_both (is_constant b) (without_end a b.low) (Some a) (λ o. IfSome o IsNormal) (λ _. without_is_normal a b.low p) (λ _. p)
kept_is_normal Greater a b p q = some_is_normal (between (max a.low (b.low + 1)) a.high a.align) p.fits
kept_is_normal GreaterOrEqual a b p q = some_is_normal (between (max a.low b.low) a.high a.align) p.fits
kept_is_normal Less a b p q =
    let fits = p.fits in
    cond_both (b.high == 0) None (some_of (between a.low (min a.high (b.high - 1)) a.align)) (λ o. IfSome o IsNormal)
    (λ _. tt) (λ _. some_is_normal (between a.low (min a.high (b.high - 1)) a.align) (omega arith))
kept_is_normal LessOrEqual a b p q =
    let fits = p.fits in
    some_is_normal (between a.low (min a.high b.high) a.align) (omega arith)
kept_is_normal comparison a b p q = p

pub refined_is_normal : (comparison : Comparison) (width : Width) (taken : Bool) (a b : Range) → IsNormal a → IsNormal b → IfSome (refined comparison width taken a b) IsNormal
refined_is_normal comparison width taken a b p q = grind (arith, cond_both, kept_is_normal)

-- ---- each number that goes a way is left there

-- something is left, and has the number
abbrev pub Leaves : Option Range → ℕ → Type 0
Leaves o n = (r : Range) × (o ≡ Some r) × IsIn r n

some_leaves : (r : Range) (n : ℕ) → IsIn r n → Leaves (some_of r) n
some_leaves r n h =
    let within : IsIn (normal_of r) n = in_normal_of r n h in
    let low = within.low in
    let high = within.high in
    cond_both (nat_le (normal_of r).low (normal_of r).high) (Some (normal_of r)) None (λ o. Leaves o n)
    (λ _. (normal_of r, refl, within))
    (λ f. absurd (omega (arith, leb-false (normal_of r).low (normal_of r).high f)))

without_leaves : (a : Range) (n x : ℕ) → IsIn a x → (x ≡ n → ⊥) → Leaves (without_end a n) x
without_leaves a n x p other =
    let low = p.low in
    let high = p.high in
    some_leaves (between (if a.low == n then a.low + 1 else a.low) (if a.high == n then a.high - 1 else a.high) a.align) x (record {
      low = cond_both (a.low == n) (a.low + 1) a.low (λ l. l ≤ x) (λ t. omega (arith, other, eqb-true a.low n t)) (λ _. low);
      high = cond_both (a.high == n) (a.high - 1) a.high (λ h. x ≤ h) (λ t. omega (arith, other, eqb-true a.high n t)) (λ _. high);
      aligned = p.aligned;
    })

common_leaves : (a b : Range) (x : ℕ) → IsIn a x → IsIn b x → Leaves (kept_by Equal a b) x
common_leaves a b x p q =
    let low = p.low in
    let high = p.high in
    let other_low = q.low in
    let other_high = q.high in
    some_leaves (between (max a.low b.low) (min a.high b.high) (greatest_align a.align b.align)) x (record {
      low = omega arith;
      high = omega arith;
      aligned = cond_both (nat_le (rank a.align) (rank b.align)) b.align a.align (λ d. x % factor d ≡ 0) (λ _. q.aligned) (λ _. p.aligned);
    })

different_leaves : (a b : Range) (x y : ℕ) → IsIn a x → IsIn b y → (x ≡ y → ⊥) → Leaves (kept_by NotEqual a b) x
different_leaves a b x y p q other =
    cond_both (is_constant b) (without_end a b.low) (Some a) (λ o. Leaves o x)
    (λ t. without_leaves a b.low x p (λ e. other (e ∙ constant_number b y t q)))
    (λ _. (a, refl, p))

greater_leaves : (a b : Range) (x y : ℕ) → IsIn a x → IsIn b y → y < x → Leaves (kept_by Greater a b) x
greater_leaves a b x y p q h =
    let low = p.low in
    let other_low = q.low in
    some_leaves (between (max a.low (b.low + 1)) a.high a.align) x (record { low = omega arith; high = p.high; aligned = p.aligned })

greater_or_equal_leaves : (a b : Range) (x y : ℕ) → IsIn a x → IsIn b y → y ≤ x → Leaves (kept_by GreaterOrEqual a b) x
greater_or_equal_leaves a b x y p q h =
    let low = p.low in
    let other_low = q.low in
    some_leaves (between (max a.low b.low) a.high a.align) x (record { low = omega arith; high = p.high; aligned = p.aligned })

less_leaves : (a b : Range) (x y : ℕ) → IsIn a x → IsIn b y → x < y → Leaves (kept_by Less a b) x
less_leaves a b x y p q h =
    let high = p.high in
    let other_high = q.high in
    cond_both (b.high == 0) None (some_of (between a.low (min a.high (b.high - 1)) a.align)) (λ o. Leaves o x)
    (λ t. absurd (omega (arith, eqb-true b.high 0 t)))
    (λ _. some_leaves (between a.low (min a.high (b.high - 1)) a.align) x (record { low = p.low; high = omega arith; aligned = p.aligned }))

less_or_equal_leaves : (a b : Range) (x y : ℕ) → IsIn a x → IsIn b y → x ≤ y → Leaves (kept_by LessOrEqual a b) x
less_or_equal_leaves a b x y p q h =
    let high = p.high in
    let other_high = q.high in
    some_leaves (between a.low (min a.high b.high) a.align) x (record { low = p.low; high = omega arith; aligned = p.aligned })

not_true : (b : Bool) → not b ≡ true → b ≡ false
not_true true e = cc
not_true false e = refl

not_false : (b : Bool) → not b ≡ false → b ≡ true
not_false true e = refl
not_false false e = cc

-- each way of a comparison of numbers leaves those that go there
successor_leaves : (comparison : Comparison) (width : Width) (taken : Bool) (a b : Range) (x y : ℕ) → IsIn a x → IsIn b y → compared comparison width x y ≡ taken → Leaves (kept_by (if taken then comparison else negated comparison) a b) x
successor_leaves Equal width true a b x y p q e = common_leaves a b x p (rw (eqb-true x y e) q)
successor_leaves Equal width false a b x y p q e = different_leaves a b x y p q (eqb-false x y e)
successor_leaves NotEqual width true a b x y p q e = different_leaves a b x y p q (eqb-false x y (not_true (x == y) e))
successor_leaves NotEqual width false a b x y p q e = common_leaves a b x p (rw (eqb-true x y (not_false (x == y) e)) q)
successor_leaves Greater width true a b x y p q e = greater_leaves a b x y p q (ltb-true y x e)
successor_leaves Greater width false a b x y p q e = less_or_equal_leaves a b x y p q (omega (arith, ltb-false y x e))
successor_leaves GreaterOrEqual width true a b x y p q e = greater_or_equal_leaves a b x y p q (leb-true y x e)
successor_leaves GreaterOrEqual width false a b x y p q e = less_leaves a b x y p q (omega (arith, leb-false y x e))
successor_leaves Less width true a b x y p q e = less_leaves a b x y p q (ltb-true x y e)
successor_leaves Less width false a b x y p q e = greater_or_equal_leaves a b x y p q (omega (arith, ltb-false x y e))
successor_leaves LessOrEqual width true a b x y p q e = less_or_equal_leaves a b x y p q (leb-true x y e)
successor_leaves LessOrEqual width false a b x y p q e = greater_leaves a b x y p q (omega (arith, leb-false x y e))
successor_leaves comparison width true a b x y p q e = (a, refl, p)
successor_leaves comparison width false a b x y p q e = (a, refl, p)

-- where ranges are within the numbers of the width, their numbers are compared as they are
holds_of_answered : (comparison : Comparison) (width : Width) (x y : ℕ) → x < modulus width → y < modulus width → holds comparison width x y ≡ compared comparison width x y
unfolding holds
holds_of_answered comparison width x y xs ys = rw (low_of_small width x xs, low_of_small width y ys) refl

-- Refinement is sound: a number that goes a way is among those that are left there, so an empty way is never gone.
pub refined_sound : (comparison : Comparison) (width : Width) (taken : Bool) (a b : Range) (x y : ℕ) → IsNormal a → IsNormal b → IsIn a x → IsIn b y → holds comparison width x y ≡ taken → (r : Range) × (refined comparison width taken a b ≡ Some r) × IsIn r x
refined_sound comparison width taken a b x y normal_a normal_b p q e =
    let high = p.high in
    let other_high = q.high in
    cond_both (is_informative width a b) (kept_by (if taken then comparison else negated comparison) a b) (Some a) (λ o. Leaves o x)
    (λ t.
    let parts = and_parts (nat_lt a.high (modulus width)) (nat_lt b.high (modulus width)) t in
    let left : a.high < modulus width = ltb-true a.high (modulus width) parts.0 in
    let right : b.high < modulus width = ltb-true b.high (modulus width) parts.1 in
    let same : compared comparison width x y ≡ taken = sym (holds_of_answered comparison width x y (omega arith) (omega arith)) ∙ e in
    successor_leaves comparison width taken a b x y p q same)
    (λ _. (a, refl, p))

-- ---- kinds

-- what a conditional jump says of kinds is a kind of the verifier
pub refined_is_kind : (comparison : Comparison) (width : Width) (taken : Bool) (a b : Kind) → IsKind a → IsKind b → IfSome (refined_kind comparison width taken a b) IsKind
refined_is_kind comparison width taken (Scalar a) (Scalar b) p q = mapped (refined comparison width taken a b) (refined_is_normal comparison width taken a b p q)
  where
    mapped : (o : Option Range) → IfSome o IsNormal → IfSome (option_map Scalar o) IsKind
    mapped (Some r) h = h
    mapped None h = tt
refined_is_kind comparison width taken a b p q = p
