-- Pointers to the values of maps, which a number moves.
use Rattle.std.proofs.Common.{◌≡◌, ℕ, suc, ◌+◌, ◌-◌, ◌*◌, ◌%◌, ◌<◌, ◌≤◌, ◌^◌, ℤ, pos, negsuc, ◌+ℤ◌, ◌≤ℤ◌, inl, inr, ◌∙◌, nat_le, true, false, length, Option, Some, None, Ok, to_z, of_z, refl, sym, ap, subst, arith}
use Rattle.std.specs.Prelude.{◌-ℤ◌, IsSomeAnd}
use Rattle.std.specs.Int.{cast_signed, w64, w128}
use Rattle.std.proofs.lemmas.Int.{ints, to_z_pos, to_z-of_z}
use Rattle.std.proofs.Math.Facts.{to_z-neg}
use Rattle.std.proofs.lemmas.Bool.{cond_both, cond-true, cond-false, cases_Bool, cases_lt, eqb-true, leb-true}
use Rattle.std.proofs.lemmas.Nat.{mul-le}
use Rattle.std.proofs.lemmas.List.{get_or_past}
use Rattle.host_types.specs.declared.shape.Shape.{Shape}
use Rattle.host_types.specs.Shapes.{IsShape, stride_of}
use Rattle.verifier_kinds.specs.declared.kind.Align.{Align}
use Rattle.verifier_kinds.specs.declared.kind.Align.TheVariants.{One, Two, Four, Eight}
use Rattle.verifier_kinds.specs.declared.kind.Range.{Range}
use Rattle.verifier_kinds.specs.declared.kind.Offsets.{Offsets}
use Rattle.verifier_kinds.specs.declared.kind.Kind.{Kind}
use Rattle.verifier_kinds.specs.declared.kind.Kind.TheVariants.{MapValue}
use Rattle.verifier_kinds.specs.Kinds.{Setting, IsSetting, IsElement, IsByElement, IsIn, IsNormal, AreOffsets, factor, is_constant, least_align, normal, offsets_in, range_in, shape_at}
use Rattle.verifier_kinds.specs.Arithmetic.{signed_offset, within_value}
use Rattle.verifier_kinds.proofs.Operands.{constant_number}
use Rattle.verifier_kinds.proofs.Ranges.{divided_by_least_left, divided_by_least_right, in_normal, last_below, normal_is_normal, sum_divided}

-- ---- the offsets that a pointer may have

-- what is between the ends fulfils what offsets meet
pub are_offsets : (align : Align) (low high : ℕ) → low ≤ high → low % factor align ≡ 0 → high ≤ 131072 → AreOffsets (offsets_in (normal low high align))
are_offsets align low high ordered divided h = grind (arith, last_below, normal_is_normal)

pub kept_offsets : (align : Align) (low high : ℕ) (range : Range) (offsets : Offsets) → range ≡ normal low high align → offsets ≡ offsets_in range → low ≤ high → high ≤ 131072 → low % factor align ≡ 0 → AreOffsets offsets
kept_offsets align low high range offsets is made ordered h divided = subst AreOffsets (sym (made ∙ ap offsets_in is)) (are_offsets align low high ordered divided h)

-- the ends of a move that is taken
pub record IsTakenMove (m : ℕ) (align : Align) (from to : ℤ) (result : Kind) : Type 0 where
  pub first : ℕ
  pub last : ℕ
  pub low : from ≡ pos first
  pub high : to ≡ pos last
  pub small : last ≤ 131072
  pub is : result ≡ MapValue m (offsets_in (normal first last align))

pub move_is : (m : ℕ) (align : Align) (low high : ℤ) (result : Kind) → within_value m align low high ≡ Ok result → IsTakenMove m align low high result
move_is m align (pos low) (pos high) result e = grind (arith, cases_Bool, nat_le, inl, cond-true, leb-true, inr, cond-false)
move_is m align (pos low) (negsuc high) result e = cc
move_is m align (negsuc low) high result e = cc

-- ---- alignments

complement_divided : (d : Align) (y k : ℕ) → k + 1 + y ≡ 2 ^ 64 → y % factor d ≡ 0 → (k + 1) % factor d ≡ 0
complement_divided One y k e p = omega arith
complement_divided Two y k e p = omega arith
complement_divided Four y k e p = omega arith
complement_divided Eight y k e p = omega arith

difference_divided : (d : Align) (x y n : ℕ) → n + y ≡ x → x % factor d ≡ 0 → y % factor d ≡ 0 → n % factor d ≡ 0
difference_divided One x y n e p q = omega arith
difference_divided Two x y n e p q = omega arith
difference_divided Four x y n e p q = omega arith
difference_divided Eight x y n e p q = omega arith

-- the sum of numbers of two alignments, and their difference
both_sum : (a b : Align) (x y : ℕ) → x % factor a ≡ 0 → y % factor b ≡ 0 → (x + y) % factor (least_align a b) ≡ 0
both_sum a b x y p q = sum_divided (least_align a b) x y (divided_by_least_left a b x p) (divided_by_least_right a b y q)

both_difference : (a b : Align) (x y n : ℕ) → n + y ≡ x → x % factor a ≡ 0 → y % factor b ≡ 0 → n % factor (least_align a b) ≡ 0
both_difference a b x y n e p q = difference_divided (least_align a b) x y n e (divided_by_least_left a b x p) (divided_by_least_right a b y q)

-- ---- addresses

-- an address far from both ends
pub record IsFar (base : ℕ) : Type 0 where
  pub low : 65536 ≤ base
  pub high : base < 2 ^ 63

-- an address at an offset between two ends from another; each offset is 65536 more than it is
pub record IsAtOffset (low high : ℕ) (align : Align) (base n : ℕ) : Type 0 where
  pub offset : ℕ
  pub above : low ≤ offset
  pub below : offset ≤ high
  pub aligned : offset % factor align ≡ 0
  pub address : n + 65536 ≡ base + offset

up : (base x offset y : ℕ) → IsFar base → x + 65536 ≡ base + offset → offset + y ≤ 131072 → (x + y) % 2 ^ 64 + 65536 ≡ base + (offset + y)
up base x offset y far is small = grind (arith)

down : (base x offset y k new : ℕ) → IsFar base → x + 65536 ≡ base + offset → k + 1 + y ≡ 2 ^ 64 → new + (k + 1) ≡ offset → new ≤ 131072 → (x + y) % 2 ^ 64 + 65536 ≡ base + new
down base x offset y k new far is whole moved small = grind (arith)

-- moved up by a number below 2^63
added_up : (offsets : Offsets) (by : Range) (low high base x offset y : ℕ) → IsFar base → low ≤ offsets.low + by.low → offsets.high + by.high ≤ high → high ≤ 131072 → IsIn (range_in offsets) offset → IsIn by y → x + 65536 ≡ base + offset → IsAtOffset low high (least_align offsets.align by.align) base ((x + y) % 2 ^ 64)
added_up offsets by low high base x offset y far first last small p q is =
    let a = p.low in
    let b = p.high in
    let c = q.low in
    let d = q.high in
    record {
      offset = offset + y;
      above = omega arith;
      below = omega arith;
      aligned = both_sum offsets.align by.align offset y p.aligned q.aligned;
      address = up base x offset y far is (omega arith);
    }

-- moved by a constant that stands for one below 0
added_down : (offsets : Offsets) (by : Range) (low high base x offset y k : ℕ) → IsFar base → k + 1 + y ≡ 2 ^ 64 → low + (k + 1) ≡ offsets.low → high + (k + 1) ≡ offsets.high → high ≤ 131072 → IsIn (range_in offsets) offset → y % factor by.align ≡ 0 → x + 65536 ≡ base + offset → IsAtOffset low high (least_align offsets.align by.align) base ((x + y) % 2 ^ 64)
added_down offsets by low high base x offset y k far whole first last small p divided is =
    let a = p.low in
    let b = p.high in
    let new : ℕ = offset - (k + 1) in
    let back : new + (k + 1) ≡ offset = omega arith in
    record {
      offset = new;
      above = omega arith;
      below = omega arith;
      aligned = both_difference offsets.align by.align offset (k + 1) new back p.aligned (complement_divided by.align y k whole divided);
      address = down base x offset y k new far is whole back (omega arith);
    }

-- the number by which a constant moves
signed_constant : (by : Range) (n : ℕ) → is_constant by ≡ true → signed_offset by n ≡ cast_signed w64 n
signed_constant by n t = cond-true (is_constant by) (cast_signed w64 n) (pos n) t

pub signed_open : (by : Range) (n : ℕ) → is_constant by ≡ false → signed_offset by n ≡ pos n
signed_open by n f = cond-false (is_constant by) (cast_signed w64 n) (pos n) f

-- the numbers from 2^63 on stand for those below 0
pub negative : (y k : ℕ) → k + 1 + y ≡ 2 ^ 64 → k < 2 ^ 63 → cast_signed w64 y ≡ negsuc k
negative y k whole small = grind (arith, suc, to_z-neg)

-- the two ends of a constant
pub constant_high : (by : Range) (y : ℕ) → is_constant by ≡ true → IsIn by y → by.high ≡ y
constant_high by y one within = sym (eqb-true by.low by.high one) ∙ constant_number by y one within

-- a pointer that a number moves
pub value_added : (offsets : Offsets) (by : Range) (low high base x offset y : ℕ) → IsFar base → pos offsets.low +ℤ signed_offset by by.low ≡ pos low → pos offsets.high +ℤ signed_offset by by.high ≡ pos high → high ≤ 131072 → IsIn (range_in offsets) offset → IsIn by y → y < 2 ^ 64 → x + 65536 ≡ base + offset → IsAtOffset low high (least_align offsets.align by.align) base ((x + y) % 2 ^ 64)
value_added offsets by low high base x offset y far first last small p q ys is = elim (cases_Bool (is_constant by)) [
  | inr f ↦
      let least = signed_open by by.low f in
      let most = signed_open by by.high f in
      let from : pos offsets.low +ℤ pos by.low ≡ pos low = ap (λ z. pos offsets.low +ℤ z) (sym least) ∙ first in
      let to : pos offsets.high +ℤ pos by.high ≡ pos high = ap (λ z. pos offsets.high +ℤ z) (sym most) ∙ last in
      added_up offsets by low high base x offset y far (omega (arith, ints)) (omega (arith, ints)) small p q is
  | inl t ↦
      let one = constant_number by y t q in
      let end = constant_high by y t q in
      let least : signed_offset by by.low ≡ cast_signed w64 y = signed_constant by by.low t ∙ ap (cast_signed w64) one in
      let most : signed_offset by by.high ≡ cast_signed w64 y = signed_constant by by.high t ∙ ap (cast_signed w64) end in
      elim (cases_lt y (2 ^ 63)) [
        | inl less ↦
            let number : cast_signed w64 y ≡ pos y = to_z_pos w64 y less in
            let from : pos offsets.low +ℤ pos y ≡ pos low = ap (λ z. pos offsets.low +ℤ z) (sym (least ∙ number)) ∙ first in
            let to : pos offsets.high +ℤ pos y ≡ pos high = ap (λ z. pos offsets.high +ℤ z) (sym (most ∙ number)) ∙ last in
            added_up offsets by low high base x offset y far (omega (arith, ints)) (omega (arith, ints)) small p q is
        | inr more ↦
            let k : ℕ = 2 ^ 64 - suc y in
            let whole : k + 1 + y ≡ 2 ^ 64 = omega arith in
            let number : cast_signed w64 y ≡ negsuc k = negative y k whole (omega arith) in
            let from : pos offsets.low +ℤ negsuc k ≡ pos low = ap (λ z. pos offsets.low +ℤ z) (sym (least ∙ number)) ∙ first in
            let to : pos offsets.high +ℤ negsuc k ≡ pos high = ap (λ z. pos offsets.high +ℤ z) (sym (most ∙ number)) ∙ last in
            added_down offsets by low high base x offset y k far whole (omega (arith, ints)) (omega (arith, ints)) small p q.aligned is
      ]
]

-- moved back by a number below 2^63
back_down : (offsets : Offsets) (by : Range) (low high base x offset y : ℕ) → IsFar base → y < 2 ^ 63 → low + y ≡ offsets.low → high + y ≡ offsets.high → high ≤ 131072 → IsIn (range_in offsets) offset → y % factor by.align ≡ 0 → x + 65536 ≡ base + offset → IsAtOffset low high (least_align offsets.align by.align) base ((x + (2 ^ 64 - y)) % 2 ^ 64)
back_down offsets by low high base x offset y far fits first last small p divided is =
    let a = p.low in
    let b = p.high in
    let c = far.low in
    let d = far.high in
    let new : ℕ = offset - y in
    let back : new + y ≡ offset = omega arith in
    let few : new ≤ 131072 = omega arith in
    let sum : x + (2 ^ 64 - y) + 65536 ≡ base + new + 2 ^ 64 = omega arith in
    let same : (x + (2 ^ 64 - y)) % 2 ^ 64 + 2 ^ 64 ≡ x + (2 ^ 64 - y) = omega arith in
    record {
      offset = new;
      above = omega arith;
      below = omega arith;
      aligned = both_difference offsets.align by.align offset y new back p.aligned divided;
      address = omega arith;
    }

-- moved back by one that stands for one below 0
back_up : (offsets : Offsets) (by : Range) (low high base x offset y k : ℕ) → IsFar base → k + 1 + y ≡ 2 ^ 64 → low ≡ offsets.low + (k + 1) → high ≡ offsets.high + (k + 1) → high ≤ 131072 → IsIn (range_in offsets) offset → y % factor by.align ≡ 0 → x + 65536 ≡ base + offset → IsAtOffset low high (least_align offsets.align by.align) base ((x + (2 ^ 64 - y)) % 2 ^ 64)
back_up offsets by low high base x offset y k far whole first last small p divided is =
    let a = p.low in
    let b = p.high in
    let same : 2 ^ 64 - y ≡ k + 1 = omega arith in
    rw same (record {
      offset = offset + (k + 1);
      above = omega arith;
      below = omega arith;
      aligned = both_sum offsets.align by.align offset (k + 1) p.aligned (complement_divided by.align y k whole divided);
      address = up base x offset (k + 1) far is (omega arith);
    })

-- a pointer that a constant moves back
pub value_subtracted : (offsets : Offsets) (by : Range) (low high base x offset y : ℕ) → IsFar base → is_constant by ≡ true → pos offsets.low -ℤ cast_signed w64 by.low ≡ pos low → pos offsets.high -ℤ cast_signed w64 by.low ≡ pos high → high ≤ 131072 → IsIn (range_in offsets) offset → IsIn by y → y < 2 ^ 64 → x + 65536 ≡ base + offset → IsAtOffset low high (least_align offsets.align by.align) base ((x + (2 ^ 64 - y)) % 2 ^ 64)
value_subtracted offsets by low high base x offset y far t first last small p q ys is =
    let one : by.low ≡ y = constant_number by y t q in
    elim (cases_lt y (2 ^ 63)) [
      | inl less ↦
          let number : cast_signed w64 by.low ≡ pos y = ap (cast_signed w64) one ∙ to_z_pos w64 y less in
          let from : pos offsets.low -ℤ pos y ≡ pos low = ap (λ z. pos offsets.low -ℤ z) (sym number) ∙ first in
          let to : pos offsets.high -ℤ pos y ≡ pos high = ap (λ z. pos offsets.high -ℤ z) (sym number) ∙ last in
          back_down offsets by low high base x offset y far less (omega (arith, ints)) (omega (arith, ints)) small p q.aligned is
      | inr more ↦
          let k : ℕ = 2 ^ 64 - suc y in
          let whole : k + 1 + y ≡ 2 ^ 64 = omega arith in
          let number : cast_signed w64 by.low ≡ negsuc k = ap (cast_signed w64) one ∙ negative y k whole (omega arith) in
          let from : pos offsets.low -ℤ negsuc k ≡ pos low = ap (λ z. pos offsets.low -ℤ z) (sym number) ∙ first in
          let to : pos offsets.high -ℤ negsuc k ≡ pos high = ap (λ z. pos offsets.high -ℤ z) (sym number) ∙ last in
          back_up offsets by low high base x offset y k far whole (omega (arith, ints)) (omega (arith, ints)) small p q.aligned is
    ]

-- ---- elements

-- what is said of a value that is there, something else is said of too
pub some_and_with : {X : Type 0} (o : Option X) (P Q : X → Type 0) → ((x : X) → o ≡ Some x → P x → Q x) → IsSomeAnd o P → IsSomeAnd o Q
some_and_with None P Q f h = h
some_and_with (Some x) P Q f h = f x refl h

-- a map that is there has a shape within the limits, and its number is below 8
pub shape_there : (setting : Setting) (m : ℕ) (shape : Shape) → IsSetting setting → shape_at setting.shapes m ≡ Some shape → (m < 8) × IsShape shape
shape_there setting m shape h e = grind (arith, cases_lt, length, inl, inr, get_or_past)

scaled : (stride element entries : ℕ) → element < entries → stride * element ≤ stride * entries
scaled stride element entries h = mul-le stride element stride entries (omega arith) (omega arith)

-- an element lies far from both ends of the addresses
pub element_far : (setting : Setting) (m : ℕ) (shape : Shape) (n : ℕ) → IsSetting setting → shape_at setting.shapes m ≡ Some shape → IsElement shape m n → IsFar n
element_far setting m shape n h e element =
    let there = shape_there setting m shape h e in
    let few = there.0 in
    let paged = there.1.paged in
    let is = element.address in
    let within = scaled (stride_of shape) element.element shape.entries element.there in
    record { low = omega arith; high = omega arith }

-- a pointer at an offset that is kept is of the kind that is made
pub by_element_at : (shape : Shape) (m low high : ℕ) (align : Align) (base n : ℕ) → IsElement shape m base → IsAtOffset low high align base n → IsByElement (offsets_in (normal low high align)) shape m n
by_element_at shape m low high align base n element at = grind (arith, in_normal)

-- ---- ends in 128 bits

wide : (z : ℤ) → negsuc (2 ^ 65) ≤ℤ z → z ≤ℤ pos (2 ^ 65) → to_z w128 (of_z w128 z) ≡ z
wide z p q = grind (arith, to_z-of_z, negsuc, pos, ints)

-- a number that stands for itself, or for itself less 2^64
pub record IsNear (z : ℤ) : Type 0 where
  pub above : negsuc (2 ^ 64) ≤ℤ z
  pub below : z ≤ℤ pos (2 ^ 64)

pub near_signed : (n : ℕ) → n < 2 ^ 64 → IsNear (cast_signed w64 n)
near_signed n h = grind (arith, cases_lt, inl, to_z_pos, ints, inr, suc, negative)

pub near_number : (by : Range) (n : ℕ) → n < 2 ^ 64 → IsNear (signed_offset by n)
near_number by n h =
    cond_both (is_constant by) (cast_signed w64 n) (pos n) IsNear (λ _. near_signed n h) (λ _. record { above = omega (arith, ints); below = omega (arith, ints) })

-- sums and differences of such numbers and of offsets are exact
pub wide_sum : (low : ℕ) (a b z : ℤ) → a ≡ pos low → b ≡ z → low < 2 ^ 32 → IsNear z → to_z w128 (of_z w128 (to_z w128 (of_z w128 a) +ℤ to_z w128 (of_z w128 b))) ≡ pos low +ℤ z
wide_sum low a b z p q small near = grind (arith, to_z, of_z, pos, wide, ints)

pub wide_difference : (low : ℕ) (a b z : ℤ) → a ≡ pos low → b ≡ z → low < 2 ^ 32 → IsNear z → to_z w128 (of_z w128 (to_z w128 (of_z w128 a) -ℤ to_z w128 (of_z w128 b))) ≡ pos low -ℤ z
wide_difference low a b z p q small near = grind (arith, to_z, of_z, pos, wide, ints)

-- the ends of a range stand in order for what they stand for
pub signed_ordered : (by : Range) → by.low ≤ by.high → signed_offset by by.low ≤ℤ signed_offset by by.high
signed_ordered by h = grind (arith, cases_Bool, inl, eqb-true, ints, inr, signed_open)

-- the first offset after a move is a multiple of the least alignment
constant_added : (offsets : Offsets) (by : Range) (n y : ℕ) → y < 2 ^ 64 → offsets.low % factor offsets.align ≡ 0 → y % factor by.align ≡ 0 → pos offsets.low +ℤ cast_signed w64 y ≡ pos n → n % factor (least_align offsets.align by.align) ≡ 0
constant_added offsets by n y h p q e = grind (arith, cases_lt, inl, pos, to_z_pos, ints, both_sum, inr, suc, negsuc, negative, both_difference, complement_divided)

pub added_divided : (offsets : Offsets) (by : Range) (n : ℕ) → IsNormal (range_in offsets) → IsNormal by → pos offsets.low +ℤ signed_offset by by.low ≡ pos n → n % factor (least_align offsets.align by.align) ≡ 0
added_divided offsets by n p q e = elim (cases_Bool (is_constant by)) [
  | inl t ↦
      let ordered = q.ordered in
      let fits = q.fits in
      constant_added offsets by n by.low (omega arith) p.low q.low (ap (λ z. pos offsets.low +ℤ z) (sym (signed_constant by by.low t)) ∙ e)
  | inr f ↦
      let number : pos offsets.low +ℤ pos by.low ≡ pos n = ap (λ z. pos offsets.low +ℤ z) (sym (signed_open by by.low f)) ∙ e in
      let sum : n ≡ offsets.low + by.low = omega (arith, ints) in
      rw sum (both_sum offsets.align by.align offsets.low by.low p.low q.low)
]

pub subtracted_divided : (offsets : Offsets) (by : Range) (n : ℕ) → IsNormal (range_in offsets) → IsNormal by → pos offsets.low -ℤ cast_signed w64 by.low ≡ pos n → n % factor (least_align offsets.align by.align) ≡ 0
subtracted_divided offsets by n p q e = elim (cases_lt by.low (2 ^ 63)) [
  | inl less ↦
      let number : pos offsets.low -ℤ pos by.low ≡ pos n = ap (λ z. pos offsets.low -ℤ z) (sym (to_z_pos w64 by.low less)) ∙ e in
      both_difference offsets.align by.align offsets.low by.low n (omega (arith, ints)) p.low q.low
  | inr more ↦
      let ordered = q.ordered in
      let fits = q.fits in
      let k : ℕ = 2 ^ 64 - suc by.low in
      let whole : k + 1 + by.low ≡ 2 ^ 64 = omega arith in
      let number : pos offsets.low -ℤ negsuc k ≡ pos n = ap (λ z. pos offsets.low -ℤ z) (sym (negative by.low k whole (omega arith))) ∙ e in
      let sum : n ≡ offsets.low + (k + 1) = omega (arith, ints) in
      rw sum (both_sum offsets.align by.align offsets.low (k + 1) p.low (complement_divided by.align by.low k whole q.low))
]
