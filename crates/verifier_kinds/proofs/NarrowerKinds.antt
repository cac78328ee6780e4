-- Narrower kinds: of kinds that are under others, arithmetic and conditional jumps make kinds that are, also
-- where the others' offsets are `extra` more.
use Rattle.std.proofs.Common.{◌≡◌, ℕ, ◌+◌, ◌-◌, ◌%◌, ◌^◌, ◌<◌, ◌≤◌, ◌==◌, min, max, nat_lt, nat_le, ℤ, pos, negsuc, ◌+ℤ◌, ◌-ℤ◌, ◌≤ℤ◌, ◌<ℤ◌, Bool, true, false, inl, inr, Option, Some, None, Result, Ok, Err, refl, subst, arith}
use Rattle.std.specs.Prelude.{if◌then◌else◌, ◌&&◌}
use Rattle.std.specs.Int.{cast_signed, w64}
use Rattle.std.proofs.lemmas.Int.{ints, to_z_pos}
use Rattle.std.proofs.lemmas.Bool.{cases_Bool, cases_lt, cond_both, cond-true, cond-false, and_parts, and_from, eqb-true, eqb-false, le-leb, leb-true, lt-ltb, ltb-true}
use Rattle.std.proofs.Math.Nat.{le_trans}
use Rattle.host_types.specs.Rules.{wrong_kind, outside_map}
use Rattle.bpf_decode.specs.declared.operation.Width.{Width}
use Rattle.bpf_decode.specs.declared.operation.Width.TheVariants.{Bits32, Bits64}
use Rattle.bpf_decode.specs.declared.operation.AluCode.{AluCode}
use Rattle.bpf_decode.specs.declared.operation.AluCode.TheVariants.{Add, Sub}
use Rattle.bpf_decode.specs.declared.operation.Comparison.{Comparison}
use Rattle.bpf_decode.specs.declared.operation.Comparison.TheVariants.{Equal, NotEqual, Greater, GreaterOrEqual, Less, LessOrEqual}
use Rattle.bpf_decode.specs.Opcodes.{is}
use Rattle.insn_alu.specs.Arithmetic.{reads_dst}
use Rattle.verifier_kinds.specs.declared.kind.Align.{Align}
use Rattle.verifier_kinds.specs.declared.kind.Range.{Range}
use Rattle.verifier_kinds.specs.declared.kind.Offsets.{Offsets}
use Rattle.verifier_kinds.specs.declared.kind.Kind.{Kind}
use Rattle.verifier_kinds.specs.declared.kind.Kind.TheVariants.{Scalar, Context, Stack, MapValue, MaybeValue}
use Rattle.verifier_kinds.specs.Kinds.{factor, rank, least_align, greatest_align, is_constant, normal, range_in, offsets_in, IsNormal, IsNormalKind, IsWithin}
use Rattle.verifier_kinds.specs.Arithmetic.{between, range_of, displaced, signed_offset, within_value, displaced_value, kind_of, kind_with_dst, moved_number, copied, arith_by}
use Rattle.verifier_kinds.specs.Wide.{raised, within_value_at, displaced_value_at, kind_of_at, kind_with_dst_at, arith_by_at, IsWideKind}
use Rattle.verifier_kinds.specs.Refinement.{some_of, without_end, kept_by, refined}
use Rattle.verifier_kinds.proofs.Ranges.{first_divided, last_below}
use Rattle.verifier_kinds.proofs.Order.{within_trans}
use Rattle.verifier_kinds.proofs.Under.{raised_divided, raised_normal, IsKindUnder}
use Rattle.verifier_kinds.proofs.Refinement.{first_above}
use Rattle.verifier_kinds.proofs.RowLaws.{at_least_one, not_zero}
use Rattle.verifier_kinds.proofs.Values.{added_divided, subtracted_divided, signed_open, signed_ordered}
use Rattle.verifier_kinds.proofs.Narrower.{below_greatest_left, rank_least, rank_greatest, normal_narrows, normal_within, same_constant, range_narrows}

-- ---- answers

-- Of two questions the first answers at least as much as the second: it breaks no rule where that breaks
-- none, and what it answers is below.
abbrev pub IsResultBelow : {X : Type 0} → (X → X → Type 0) → Result X ℕ → Result X ℕ → Type 0
IsResultBelow below r (Err n) = Unit {0}
IsResultBelow below (Ok x) (Ok y) = below x y
IsResultBelow below (Err m) (Ok y) = ⊥

-- an answer is below itself where all that it may be is
pub result_below_self : {X : Type 0} (below : X → X → Type 0) (r : Result X ℕ) → ((x : X) → below x x) → IsResultBelow below r r
result_below_self below (Ok x) self = self x
result_below_self below (Err n) self = tt

-- ---- pointers

-- where two pointers that are moved alike may be
pub displaced_alike : (P : Kind → Kind → Type 0) (kind : ℤ → Kind) (rule : ℕ) (code : AluCode) (width : Width) (offset : ℤ) (by : Range) → ((z : ℤ) → P (kind z) (kind z)) → IsResultBelow P (displaced kind rule code width offset by) (displaced kind rule code width offset by)
displaced_alike P kind rule code width offset by self = grind (arith, cond_both, negsuc, pos)

-- a pointer is moved by constants alone, and a range within one is the same
displaced_narrows : (extra : ℕ) (kind : ℤ → Kind) (rule : ℕ) (code : AluCode) (width : Width) (offset : ℤ) (by wide : Range) → ((z : ℤ) → IsKindUnder extra (kind z) (kind z)) → IsNormal by → IsNormal wide → IsWithin by wide → IsResultBelow (IsKindUnder extra) (displaced kind rule code width offset by) (displaced kind rule code width offset wide)
displaced_narrows extra kind rule code width offset by wide self p q w = elim (cases_Bool (is_constant wide)) [
  | inl t ↦ rw (same_constant by wide p q w t) (displaced_alike (IsKindUnder extra) kind rule code width offset wide self)
  | inr f ↦ rw (refused kind rule code width offset wide f) tt
]
  where
    refused : (kind : ℤ → Kind) (rule : ℕ) (code : AluCode) (width : Width) (offset : ℤ) (by : Range) → is_constant by ≡ false → displaced kind rule code width offset by ≡ Err wrong_kind
    refused kind rule Add Bits64 offset by f = cond-false (is_constant by) _ _ f
    refused kind rule Sub Bits64 offset by f = cond-false (is_constant by) _ _ f
    refused kind rule code width offset by f = refl

-- the ends of a pointer to a value that a number moves, and those of a wider one
ends_narrow : (extra m : ℕ) (d e : Align) (low high wide_low wide_high : ℤ) → extra % 8 ≡ 0 → wide_low ≤ℤ (pos extra +ℤ low) → low ≤ℤ high → (pos extra +ℤ high) ≤ℤ wide_high → rank e ≤ rank d → ((n : ℕ) → low ≡ pos n → n % factor d ≡ 0) → IsResultBelow (IsKindUnder extra) (within_value m d low high) (within_value_at extra m e wide_low wide_high)
ends_narrow extra m d e (pos low) (pos high) (pos wide_low) (pos wide_high) whole p ordered q h divided =
    let low_order : wide_low ≤ extra + low = omega (arith, ints) in
    let order : low ≤ high = omega (arith, ints) in
    let high_order : extra + high ≤ wide_high = omega (arith, ints) in
    cond_both (nat_le extra wide_low && nat_le wide_high (extra + 131072)) (Ok (MapValue m (offsets_in (normal wide_low wide_high e)))) (Err outside_map) (IsResultBelow (IsKindUnder extra) (within_value m d (pos low) (pos high)))
    (λ t.
    let small : wide_high ≤ extra + 131072 = leb-true wide_high (extra + 131072) (and_parts (nat_le extra wide_low) (nat_le wide_high (extra + 131072)) t).1 in
    let narrow : IsWithin (normal (extra + low) (extra + high) d) (normal wide_low wide_high e) =
    normal_narrows (between (extra + low) (extra + high) d) (between wide_low wide_high e) (extra + low)
    (record { low = omega arith; high = omega arith; aligned = raised_divided extra low d whole (divided low refl) })
    (record { low = low_order; high = high_order; aligned = h }) in
    rw (cond-true (nat_le high 131072) (Ok (MapValue m (offsets_in (normal low high d)))) (Err outside_map) (le-leb high 131072 (omega arith))) (
      offsets_in (normal low high d),
      refl,
      subst (λ r. IsWithin r (normal wide_low wide_high e)) (raised_normal extra low high d whole) narrow,
    ))
    (λ _. tt)
ends_narrow extra m d e (pos low) (negsuc high) (pos wide_low) (pos wide_high) whole p ordered q h divided = absurd (omega (arith, ints))
ends_narrow extra m d e (negsuc low) high (pos wide_low) (pos wide_high) whole p ordered q h divided =
    cond_both (nat_le extra wide_low && nat_le wide_high (extra + 131072)) (Ok (MapValue m (offsets_in (normal wide_low wide_high e)))) (Err outside_map) (IsResultBelow (IsKindUnder extra) (within_value m d (negsuc low) high))
    (λ t.
    let least : extra ≤ wide_low = leb-true extra wide_low (and_parts (nat_le extra wide_low) (nat_le wide_high (extra + 131072)) t).0 in
    absurd (omega (arith, ints)))
    (λ _. tt)
ends_narrow extra m d e low high (pos wide_low) (negsuc wide_high) whole p ordered q h divided = tt
ends_narrow extra m d e low high (negsuc wide_low) wide_high whole p ordered q h divided = tt

-- where a wider one ends past what a pointer may have, nothing is asked of the other
ends_past : (extra m : ℕ) (e : Align) (r : Result Kind ℕ) (wide_low wide_high : ℤ) → pos (extra + 131072) <ℤ wide_high → IsResultBelow (IsKindUnder extra) r (within_value_at extra m e wide_low wide_high)
ends_past extra m e r (pos wide_low) (pos wide_high) far = grind (arith, cond_both, nat_le, ints, leb-true, and_parts)
ends_past extra m e r (pos wide_low) (negsuc wide_high) far = tt
ends_past extra m e r (negsuc wide_low) wide_high far = tt

-- what a number moves by is between the ends of a wider range, where that is no constant and moves less than 2^63
open_low : (by : Range) (n : ℕ) → n < 2 ^ 63 → signed_offset by n ≡ pos n
open_low by n h = cond_both (is_constant by) (cast_signed w64 n) (pos n) (λ z. z ≡ pos n) (λ _. to_z_pos w64 n h) (λ _. refl)

-- A pointer to a value that a number moves. A range that isn't constant and has numbers from 2^63 on moves a
-- wider one past its limit, wherever the other may be.
added_narrows : (extra m : ℕ) (offsets outer : Offsets) (by wide : Range) → extra % 8 ≡ 0 → IsNormal (range_in offsets) → IsNormal by → IsNormal wide → IsWithin (range_in (raised extra offsets)) (range_in outer) → IsWithin by wide → IsResultBelow (IsKindUnder extra) (displaced_value m Add Bits64 offsets by) (displaced_value_at extra m Add Bits64 outer wide)
added_narrows extra m offsets outer by wide whole p q wide_q w by_w = elim (cases_Bool (is_constant wide)) [
  | inl t ↦
      let same : by ≡ wide = same_constant by wide q wide_q by_w t in
      let w_low = w.low in
      let w_high = w.high in
      let ordered = p.ordered in
      rw same
      (ends_narrow extra m (least_align offsets.align wide.align) (least_align outer.align wide.align)
      (pos offsets.low +ℤ signed_offset wide wide.low) (pos offsets.high +ℤ signed_offset wide wide.high)
      (pos outer.low +ℤ signed_offset wide wide.low) (pos outer.high +ℤ signed_offset wide wide.high)
      whole
      (sum_above outer.low offsets.low (signed_offset wide wide.low) w_low)
      (sums_order offsets.low offsets.high (signed_offset wide wide.low) (signed_offset wide wide.high) ordered (signed_ordered wide wide_q.ordered))
      (sum_below offsets.high outer.high (signed_offset wide wide.high) w_high)
      (rank_least outer.align wide.align offsets.align wide.align w.aligned (omega arith))
      (λ n is. added_divided offsets wide n p wide_q is))
  | inr f ↦ elim (cases_lt wide.high (2 ^ 63)) [
    | inl less ↦
        let by_low = by_w.low in
        let by_high = by_w.high in
        let by_ordered = q.ordered in
        let w_low = w.low in
        let w_high = w.high in
        let ordered = p.ordered in
        let low : signed_offset by by.low ≡ pos by.low = open_low by by.low (omega arith) in
        let high : signed_offset by by.high ≡ pos by.high = open_low by by.high (omega arith) in
        let wide_low : signed_offset wide wide.low ≡ pos wide.low = signed_open wide wide.low f in
        let wide_high : signed_offset wide wide.high ≡ pos wide.high = signed_open wide wide.high f in
        ends_narrow extra m (least_align offsets.align by.align) (least_align outer.align wide.align)
        (pos offsets.low +ℤ signed_offset by by.low) (pos offsets.high +ℤ signed_offset by by.high)
        (pos outer.low +ℤ signed_offset wide wide.low) (pos outer.high +ℤ signed_offset wide wide.high)
        whole
        (rw (low, wide_low) (omega (arith, ints)))
        (rw (low, high) (omega (arith, ints)))
        (rw (high, wide_high) (omega (arith, ints)))
        (rank_least outer.align wide.align offsets.align by.align w.aligned by_w.aligned)
        (λ n is. added_divided offsets by n p q is)
    | inr more ↦
        let w_high = w.high in
        let wide_high : signed_offset wide wide.high ≡ pos wide.high = signed_open wide wide.high f in
        let far : pos (extra + 131072) <ℤ (pos outer.high +ℤ signed_offset wide wide.high) = rw wide_high (omega (arith, ints)) in
        ends_past extra m (least_align outer.align wide.align) (displaced_value m Add Bits64 offsets by) (pos outer.low +ℤ signed_offset wide wide.low) (pos outer.high +ℤ signed_offset wide wide.high) far
  ]
]
  where
    sum_above : (a b : ℕ) (z : ℤ) → a ≤ extra + b → (pos a +ℤ z) ≤ℤ (pos extra +ℤ (pos b +ℤ z))
    sum_above a b z h = omega (arith, ints)

    sum_below : (a b : ℕ) (z : ℤ) → extra + a ≤ b → (pos extra +ℤ (pos a +ℤ z)) ≤ℤ (pos b +ℤ z)
    sum_below a b z h = omega (arith, ints)

    sums_order : (a b : ℕ) (y z : ℤ) → a ≤ b → y ≤ℤ z → (pos a +ℤ y) ≤ℤ (pos b +ℤ z)
    sums_order a b y z h k = omega (arith, ints)

-- and one that a constant moves back
subtracted_narrows : (extra m : ℕ) (offsets outer : Offsets) (by wide : Range) → extra % 8 ≡ 0 → IsNormal (range_in offsets) → IsNormal by → IsNormal wide → IsWithin (range_in (raised extra offsets)) (range_in outer) → IsWithin by wide → IsResultBelow (IsKindUnder extra) (displaced_value m Sub Bits64 offsets by) (displaced_value_at extra m Sub Bits64 outer wide)
subtracted_narrows extra m offsets outer by wide whole p q wide_q w by_w = elim (cases_Bool (is_constant wide)) [
  | inl t ↦
      let same : by ≡ wide = same_constant by wide q wide_q by_w t in
      let z : ℤ = cast_signed w64 wide.low in
      rw (same, t)
      (ends_narrow extra m (least_align offsets.align wide.align) (least_align outer.align wide.align)
      (pos offsets.low -ℤ z) (pos offsets.high -ℤ z) (pos outer.low -ℤ z) (pos outer.high -ℤ z)
      whole
      (difference_above outer.low offsets.low z w.low)
      (difference_order offsets.low offsets.high z p.ordered)
      (difference_below offsets.high outer.high z w.high)
      (rank_least outer.align wide.align offsets.align wide.align w.aligned (omega arith))
      (λ n is. subtracted_divided offsets wide n p wide_q is))
  | inr f ↦ rw f tt
]
  where
    difference_above : (a b : ℕ) (z : ℤ) → a ≤ extra + b → (pos a -ℤ z) ≤ℤ (pos extra +ℤ (pos b -ℤ z))
    difference_above a b z h = omega (arith, ints)

    difference_below : (a b : ℕ) (z : ℤ) → extra + a ≤ b → (pos extra +ℤ (pos a -ℤ z)) ≤ℤ (pos b -ℤ z)
    difference_below a b z h = omega (arith, ints)

    difference_order : (a b : ℕ) (z : ℤ) → a ≤ b → (pos a -ℤ z) ≤ℤ (pos b -ℤ z)
    difference_order a b z h = omega (arith, ints)

value_narrows : (extra m : ℕ) (code : AluCode) (width : Width) (offsets outer : Offsets) (by wide : Range) → extra % 8 ≡ 0 → IsNormal (range_in offsets) → IsNormal by → IsNormal wide → IsWithin (range_in (raised extra offsets)) (range_in outer) → IsWithin by wide → IsResultBelow (IsKindUnder extra) (displaced_value m code width offsets by) (displaced_value_at extra m code width outer wide)
value_narrows extra m Add Bits64 offsets outer by wide whole p q wide_q w by_w = added_narrows extra m offsets outer by wide whole p q wide_q w by_w
value_narrows extra m Sub Bits64 offsets outer by wide whole p q wide_q w by_w = subtracted_narrows extra m offsets outer by wide whole p q wide_q w by_w
value_narrows extra m code width offsets outer by wide whole p q wide_q w by_w = tt

-- ---- arithmetic

-- One kind is under another whose offsets are `extra` more, and the ranges of both are normal, but for the
-- offsets of the other.
pub record IsKindNarrower (extra : ℕ) (a b : Kind) : Type 0 where
  pub whole : extra % 8 ≡ 0
  pub below : IsKindUnder extra a b
  pub smaller : IsNormalKind a
  pub larger : IsWideKind b

kinds_narrow : (extra : ℕ) (code : AluCode) (width : Width) (offset : ℤ) (a b c d : Kind) → IsKindNarrower extra a c → IsKindNarrower extra b d → IsResultBelow (IsKindUnder extra) (kind_of code width offset a b) (kind_of_at extra code width offset c d)
kinds_narrow extra code width offset a b (Scalar c) (Scalar d) p q =
    let (x, left, within) = p.below in
    let (y, right, also) = q.below in
    let x_normal : IsNormal x = subst IsNormalKind left p.smaller in
    let y_normal : IsNormal y = subst IsNormalKind right q.smaller in
    rw (left, right) (range_of code width offset x y, refl, range_narrows code width offset x y c d x_normal y_normal p.larger q.larger within also)
kinds_narrow extra code width offset a b (Context k) (Scalar d) p q =
    let (y, right, also) = q.below in
    let y_normal : IsNormal y = subst IsNormalKind right q.smaller in
    rw (p.below, right) (displaced_narrows extra Context 16 code width k y d (λ z. refl) y_normal q.larger also)
kinds_narrow extra code width offset a b (Stack k) (Scalar d) p q =
    let (y, right, also) = q.below in
    let y_normal : IsNormal y = subst IsNormalKind right q.smaller in
    rw (p.below, right) (displaced_narrows extra Stack 17 code width k y d (λ z. refl) y_normal q.larger also)
kinds_narrow extra code width offset a b (MapValue m outer) (Scalar d) p q = grind (arith, value_narrows)
kinds_narrow extra code width offset a b (MaybeValue m id) d p q = tt
kinds_narrow extra code width offset a b c (MaybeValue m id) p q = tt
kinds_narrow extra code width offset a b c d p q = tt

-- one thing that is known is under another, and the ranges of both are normal
abbrev pub IsKnownNarrower : ℕ → Option Kind → Option Kind → Type 0
IsKnownNarrower extra a None = Unit {0}
IsKnownNarrower extra a (Some outer) = (inner : Kind) × (a ≡ Some inner) × IsKindNarrower extra inner outer

with_dst_narrows : (extra : ℕ) (code : AluCode) (width : Width) (offset : ℤ) (a c : Option Kind) (b d : Kind) → IsKnownNarrower extra a c → IsKindNarrower extra b d → IsResultBelow (IsKindUnder extra) (kind_with_dst code width offset a b) (kind_with_dst_at extra code width offset c d)
with_dst_narrows extra code width offset a None b d p q = tt
with_dst_narrows extra code width offset a (Some c) b d (x, is, narrow) q = rw is (kinds_narrow extra code width offset x b c d narrow q)

moved_narrows : (extra : ℕ) (width : Width) (offset : ℤ) (b d : Kind) → IsKindNarrower extra b d → IsResultBelow (IsKindUnder extra) (moved_number width offset b) (moved_number width offset d)
moved_narrows extra width offset b (Scalar d) q = grind (arith, range_narrows)
moved_narrows extra width offset b (MaybeValue m id) q = tt
moved_narrows extra width offset b d q = tt

copied_narrows : (extra : ℕ) (width : Width) (offset : ℤ) (b d : Kind) → IsKindNarrower extra b d → IsResultBelow (IsKindUnder extra) (copied width offset b) (copied width offset d)
copied_narrows extra Bits32 offset b d q = moved_narrows extra Bits32 offset b d q
copied_narrows extra Bits64 offset b d q = grind (arith, true, false, moved_narrows)

-- arithmetic on kinds that are under others makes kinds that are; only code that reads dst asks for it
pub arithmetic_narrows : (extra : ℕ) (code : AluCode) (width : Width) (offset : ℤ) (a c : Option Kind) (b d : Kind) → IsKnownNarrower extra a c → IsKindNarrower extra b d → IsResultBelow (IsKindUnder extra) (arith_by code width offset a b) (arith_by_at extra code width offset c d)
arithmetic_narrows extra code width offset a c b d p q = by_test (reads_dst code)
  where
    by_test : (t : Bool) → IsResultBelow (IsKindUnder extra) (if t then kind_with_dst code width offset a b else copied width offset b) (if t then kind_with_dst_at extra code width offset c d else copied width offset d)
    by_test true = with_dst_narrows extra code width offset a c b d p q
    by_test false = copied_narrows extra width offset b d q

-- ---- what a conditional jump gives

-- what is left of one range lies within what is left of another
abbrev pub IsLeftWithin : Option Range → Option Range → Type 0
IsLeftWithin None wide = Unit {0}
IsLeftWithin (Some r) (Some wide) = IsWithin r wide
IsLeftWithin (Some r) None = ⊥

some_narrows : (a b : Range) → IsWithin a b → IsLeftWithin (some_of a) (some_of b)
some_narrows a b w = grind (arith, first_above, last_below, cond_both, nat_le, leb-true, first_divided, normal_narrows, cond-true, le-leb)

-- what is left of a range lies within each range around it
some_within : (a b : Range) → IsWithin a b → IsLeftWithin (some_of a) (Some b)
some_within a b w = grind (arith, cond_both, nat_le, normal_within)

-- a range without one of its ends
abbrev shorter : Range → ℕ → Range
shorter a n = between (if a.low == n then a.low + 1 else a.low) (if a.high == n then a.high - 1 else a.high) a.align

shorter_within : (a : Range) (n : ℕ) → IsWithin (shorter a n) a
shorter_within a n = grind (arith, cond_both)

shorter_narrows : (a b : Range) (n : ℕ) → IsWithin a b → IsWithin (shorter a n) (shorter b n)
shorter_narrows a b n w = grind (arith, cond_both, eqb-true, eqb-false)

-- what a comparison leaves of a range lies within it
kept_within : (comparison : Comparison) (a b c : Range) → IsWithin a c → IsLeftWithin (kept_by comparison a b) (Some c)
kept_within Equal a b c w = grind (arith, some_within, max, min, le_trans, below_greatest_left)
kept_within NotEqual a b c w =
    cond_both (is_constant b) (without_end a b.low) (Some a) (λ o. IsLeftWithin o (Some c))
    (λ _. some_within (shorter a b.low) c (within_trans (shorter a b.low) a c (shorter_within a b.low) w)) (λ _. w)
kept_within Greater a b c w = grind (arith, some_within, max)
kept_within GreaterOrEqual a b c w = grind (arith, some_within, max)
kept_within Less a b c w = grind (arith, cond_both, min, some_within)
kept_within LessOrEqual a b c w = grind (arith, some_within, min)
kept_within comparison a b c w = w

-- what it leaves of ranges within others lies within what it leaves of those
kept_narrows : (comparison : Comparison) (a b c d : Range) → IsNormal b → IsNormal d → IsWithin a c → IsWithin b d → IsLeftWithin (kept_by comparison a b) (kept_by comparison c d)
kept_narrows Equal a b c d p q w v =
    let low = w.low in
    let high = w.high in
    let other_low = v.low in
    let other_high = v.high in
    some_narrows (between (max a.low b.low) (min a.high b.high) (greatest_align a.align b.align)) (between (max c.low d.low) (min c.high d.high) (greatest_align c.align d.align)) (record {
      low = omega arith;
      high = omega arith;
      aligned = rank_greatest c.align d.align a.align b.align w.aligned v.aligned;
    })
kept_narrows NotEqual a b c d p q w v =
    cond_both (is_constant d) (without_end c d.low) (Some c) (IsLeftWithin (kept_by NotEqual a b))
    (λ t.
    rw (same_constant b d p q v t, cond-true (is_constant d) (without_end a d.low) (Some a) t)
    (some_narrows (shorter a d.low) (shorter c d.low) (shorter_narrows a c d.low w)))
    (λ _. kept_within NotEqual a b c w)
kept_narrows Greater a b c d p q w v =
    let low = w.low in
    let other_low = v.low in
    some_narrows (between (max a.low (b.low + 1)) a.high a.align) (between (max c.low (d.low + 1)) c.high c.align) (record { low = omega arith; high = w.high; aligned = w.aligned })
kept_narrows GreaterOrEqual a b c d p q w v =
    let low = w.low in
    let other_low = v.low in
    some_narrows (between (max a.low b.low) a.high a.align) (between (max c.low d.low) c.high c.align) (record { low = omega arith; high = w.high; aligned = w.aligned })
kept_narrows Less a b c d p q w v =
    let high = w.high in
    let other_high = v.high in
    cond_both (b.high == 0) None (some_of (between a.low (min a.high (b.high - 1)) a.align)) (λ o. IsLeftWithin o (kept_by Less c d))
    (λ _. tt)
    (λ f.
    let more : (d.high == 0) ≡ false = not_zero d.high (omega (arith, at_least_one b.high f)) in
    rw (cond-false (d.high == 0) None (some_of (between c.low (min c.high (d.high - 1)) c.align)) more)
    (some_narrows (between a.low (min a.high (b.high - 1)) a.align) (between c.low (min c.high (d.high - 1)) c.align) (record { low = w.low; high = omega arith; aligned = w.aligned })))
kept_narrows LessOrEqual a b c d p q w v =
    let high = w.high in
    let other_high = v.high in
    some_narrows (between a.low (min a.high b.high) a.align) (between c.low (min c.high d.high) c.align) (record { low = w.low; high = omega arith; aligned = w.aligned })
kept_narrows comparison a b c d p q w v = w

-- what a way of a comparison leaves of ranges within others lies within what it leaves of those
pub refined_narrows : (comparison : Comparison) (width : Width) (taken : Bool) (a b c d : Range) → IsNormal b → IsNormal d → IsWithin a c → IsWithin b d → IsLeftWithin (refined comparison width taken a b) (refined comparison width taken c d)
refined_narrows comparison width taken a b c d p q w v = grind (arith, cond_both, and_parts, nat_lt, ltb-true, true, and_from, lt-ltb, cond-true, kept_narrows, kept_within)
