-- Narrower ranges: of ranges that lie within others, arithmetic makes ranges that do.
use Rattle.std.proofs.Common.{◌≡◌, ℕ, ◌+◌, ◌-◌, ◌*◌, ◌/◌, ◌%◌, ◌^◌, ◌<◌, ◌≤◌, ◌==◌, ◌&&◌, min, max, nat_lt, nat_le, suc, ℤ, true, false, inl, inr, arith}
use Rattle.std.specs.Prelude.{if◌then◌else◌}
use Rattle.std.specs.Int.{leading_zeros, w64}
use Rattle.std.proofs.lemmas.Bool.{cond_both, cond-true, cond-false, and_parts, eq-eqb, eqb-true, eqb-false, le-leb, leb-true, leb-false, lt-ltb, ltb-true, cases_lt}
use Rattle.std.proofs.lemmas.Nat.{mul-le, leading_length, shr_le, pow_pos}
use Rattle.std.proofs.Math.Nat.{div-le_self, le_trans, pow-suc}
use Rattle.std.proofs.Math.Pow.{pow_mono}
use Rattle.bpf_decode.specs.declared.operation.Width.{Width}
use Rattle.bpf_decode.specs.declared.operation.Width.TheVariants.{Bits64}
use Rattle.bpf_decode.specs.declared.operation.AluCode.{AluCode}
use Rattle.bpf_decode.specs.declared.operation.AluCode.TheVariants.{Add, Sub, Mul, Div, Or, And, Lsh, Rsh, Neg, Mod, Xor, Mov, Arsh, ToLittleEndian, ToBigEndian, SwapBytes}
use Rattle.bpf_decode.specs.Opcodes.{is}
use Rattle.insn_alu.specs.Arithmetic.{alu, modulus, count}
use Rattle.insn_alu.proofs.Small.{bits_small}
use Rattle.verifier_kinds.specs.declared.kind.Align.{Align}
use Rattle.verifier_kinds.specs.declared.kind.Align.TheVariants.{One, Two, Four, Eight}
use Rattle.verifier_kinds.specs.declared.kind.Range.{Range}
use Rattle.verifier_kinds.specs.Kinds.{factor, rank, of_rank, times_power, least_align, greatest_align, align_of, is_constant, constant, IsIn, IsNormal, IsWithin}
use Rattle.verifier_kinds.specs.Arithmetic.{between, all, normal_of, range_taken, unless_wrapped, sum_of, difference_of, product_of, quotient_of, remainder_of, and_of, ones_from, or_of, xor_of, shifted_left, left_shift_of, right_by, right_shift_of, greatest_of_bits, swapped_range, row, computed_range, range_of}
use Rattle.verifier_kinds.proofs.Ranges.{first_below, first_divided, last_above, last_below, last_divided, divided_less}
use Rattle.verifier_kinds.proofs.Meaning.{in_above}
use Rattle.verifier_kinds.proofs.Operands.{in_all, in_normal_of, all_is_normal, taken_below, modulus_positive, zero_divided}
use Rattle.verifier_kinds.proofs.RowLaws.{quotient_order, at_least_one, not_zero}
use Rattle.verifier_kinds.proofs.Joins.{least_below_left, least_below_right}
use Rattle.verifier_kinds.proofs.Computed.{in_row_of_ends}
use Rattle.verifier_kinds.proofs.Refinement.{first_above}
use Rattle.verifier_kinds.proofs.Order.{within_self}

-- ---- alignments

-- of those that divide a number the one that it is given says most
pub greatest_divides : (d : Align) (n : ℕ) → n % factor d ≡ 0 → rank d ≤ rank (align_of n)
greatest_divides One n e = omega arith
greatest_divides Two n e = grind (arith, cond_both, eqb-false)
greatest_divides Four n e = grind (arith, cond_both, eqb-false)
greatest_divides Eight n e =
    cond_both (n % 8 == 0) Eight _ (λ a. 3 ≤ rank a) (λ _. omega arith) (λ f. absurd (eqb-false (n % 8) 0 f e))

rank_most : (d : Align) → rank d ≤ 3
rank_most One = omega arith
rank_most Two = omega arith
rank_most Four = omega arith
rank_most Eight = omega arith

pub rank_least : (a b c d : Align) → rank a ≤ rank c → rank b ≤ rank d → rank (least_align a b) ≤ rank (least_align c d)
rank_least a b c d p q = grind (arith, cond_both, nat_le, le_trans, least_below_left, least_below_right)

pub below_greatest_left : (a b : Align) → rank a ≤ rank (greatest_align a b)
below_greatest_left a b =
    cond_both (nat_le (rank a) (rank b)) b a (λ x. rank a ≤ rank x) (λ t. leb-true (rank a) (rank b) t) (λ _. omega arith)

below_greatest_right : (a b : Align) → rank b ≤ rank (greatest_align a b)
below_greatest_right a b =
    cond_both (nat_le (rank a) (rank b)) b a (λ x. rank b ≤ rank x) (λ _. omega arith) (λ f. omega (arith, leb-false (rank a) (rank b) f))

pub rank_greatest : (a b c d : Align) → rank a ≤ rank c → rank b ≤ rank d → rank (greatest_align a b) ≤ rank (greatest_align c d)
rank_greatest a b c d p q = grind (arith, cond_both, nat_le, le_trans, below_greatest_right, below_greatest_left)

rank_of_exponent : (n : ℕ) → rank (of_rank n) ≡ min n 3
rank_of_exponent n = grind (arith, cond_both, min, eqb-true, eqb-false)

rank_raised : (a b : Align) (m n : ℕ) → rank a ≤ rank b → m ≤ n → rank (times_power a m) ≤ rank (times_power b n)
rank_raised a b m n p q = grind (arith, min, rank_of_exponent)

raised_more : (a : Align) (m : ℕ) → rank a ≤ rank (times_power a m)
raised_more a m = grind (arith, rank_most, min, rank_of_exponent)

-- ---- ranges within others

-- the range of one number lies within each range that has it
pub constant_within : (b : Range) (n : ℕ) → IsIn b n → IsWithin (constant n) b
constant_within b n h = record { low = h.low; high = h.high; aligned = greatest_divides b.align n h.aligned }

-- the alignment of a normal range says no less than that of one around it
alignments_narrow : (d e : Align) (first last wide_first wide_last : ℕ) → wide_first ≤ first → first ≤ last → last ≤ wide_last → rank e ≤ rank d → first % factor e ≡ 0 → rank (if wide_first == wide_last then align_of wide_first else e) ≤ rank (if first == last then align_of first else d)
alignments_narrow d e first last wide_first wide_last low ordered high h divided = grind (arith, cond_both, eqb-true, cond-true, eq-eqb, greatest_divides)

-- a range with a number that lies within another does so once both are normal
pub normal_narrows : (a b : Range) (n : ℕ) → IsIn a n → IsWithin a b → IsWithin (normal_of a) (normal_of b)
normal_narrows a b n h w = grind (arith, first_below, last_above, first_above, last_below, divided_less, first_divided, last_divided, alignments_narrow)

-- a normal range that lies within another does so once that is normal
normal_keeps : (a b : Range) → IsNormal a → IsWithin a b → IsWithin a (normal_of b)
normal_keeps a b p w = grind (arith, first_below, divided_less, last_above, cond_both, eqb-true)

-- and a range within another, once it is normal itself
pub normal_within : (a b : Range) → IsWithin a b → IsWithin (normal_of a) b
normal_within a b w = grind (arith, first_above, last_below, cond_both, greatest_divides, divided_less, first_divided)

-- a range within a constant is that constant
pub same_constant : (a b : Range) → IsNormal a → IsNormal b → IsWithin a b → is_constant b ≡ true → a ≡ b
same_constant a b p q w t = grind (arith, eqb-true)

-- ---- what a width takes

-- of two ranges of a width, both normal, the first lies within the second
pub record IsRangeNarrower (width : Width) (a b : Range) : Type 0 where
  pub within : IsWithin a b
  pub smaller : IsNormal a
  pub larger : IsNormal b
  pub below : b.high < modulus width

all_narrows : (width : Width) (d e : Align) → rank e ≤ rank d → IsWithin (all width d) (all width e)
all_narrows width d e h = record { low = omega arith; high = omega arith; aligned = h }

pub taken_is_normal : (width : Width) (r : Range) → IsNormal r → IsNormal (range_taken width r)
taken_is_normal width r p = cond_both (nat_lt r.high (modulus width)) r _ IsNormal (λ _. p) (λ _. all_is_normal width r.align)

taken_within : (width : Width) (a b : Range) → IsNormal a → IsWithin a b → IsWithin (range_taken width a) (range_taken width b)
taken_within width a b p w =
    let high = w.high in
    cond_both (nat_lt b.high (modulus width)) b _ (λ r. IsWithin (range_taken width a) r)
    (λ t.
    let below : b.high < modulus width = ltb-true b.high (modulus width) t in
    rw (cond-true (nat_lt a.high (modulus width)) a (normal_of (all width a.align)) (lt-ltb a.high (modulus width) (omega arith))) w)
    (λ _.
    cond_both (nat_lt a.high (modulus width)) a _ (λ r. IsWithin r (normal_of (all width b.align)))
    (λ t.
    let below : a.high < modulus width = ltb-true a.high (modulus width) t in
    normal_keeps a (all width b.align) p (record { low = omega arith; high = omega arith; aligned = w.aligned }))
    (λ _. normal_narrows (all width a.align) (all width b.align) 0 (in_all width a.align 0 (modulus_positive width) (zero_divided a.align)) (all_narrows width a.align b.align w.aligned)))

pub taken_narrows : (width : Width) (a b : Range) → IsNormal a → IsNormal b → IsWithin a b → IsRangeNarrower width (range_taken width a) (range_taken width b)
taken_narrows width a b p q w = grind (arith, taken_within, taken_is_normal, taken_below)

-- ---- the rows of arithmetic

-- what lies within all numbers of a width
unless_within_all : (width : Width) (from to : ℕ) (d e : Align) → rank e ≤ rank d → IsWithin (unless_wrapped width from to d) (all width e)
unless_within_all width from to d e h = grind (arith, cond_both, nat_lt, ltb-true, all_narrows)

unless_narrows : (width : Width) (from to wide_from wide_to : ℕ) (d e : Align) → wide_from ≤ from → to ≤ wide_to → rank e ≤ rank d → IsWithin (unless_wrapped width from to d) (unless_wrapped width wide_from wide_to e)
unless_narrows width from to wide_from wide_to d e p q h = grind (arith, cond_both, nat_lt, ltb-true, cond-true, lt-ltb, unless_within_all)

sum_narrows : (width : Width) (a b c d : Range) → IsRangeNarrower width a c → IsRangeNarrower width b d → IsWithin (sum_of width a b) (sum_of width c d)
sum_narrows width a b c d p q =
    unless_narrows width (a.low + b.low) (a.high + b.high) (c.low + d.low) (c.high + d.high) (least_align a.align b.align) (least_align c.align d.align)
    (omega (arith, p.within.low, q.within.low)) (omega (arith, p.within.high, q.within.high)) (rank_least c.align d.align a.align b.align p.within.aligned q.within.aligned)

difference_narrows : (width : Width) (a b c d : Range) → IsRangeNarrower width a c → IsRangeNarrower width b d → IsWithin (difference_of width a b) (difference_of width c d)
difference_narrows width a b c d p q =
    let a_low = p.within.low in
    let a_high = p.within.high in
    let b_low = q.within.low in
    let b_high = q.within.high in
    let small = p.below in
    let least : rank (least_align c.align d.align) ≤ rank (least_align a.align b.align) = rank_least c.align d.align a.align b.align p.within.aligned q.within.aligned in
    cond_both (nat_le d.high c.low) _ _ (λ r. IsWithin (difference_of width a b) r)
    (λ t.
    let order : d.high ≤ c.low = leb-true d.high c.low t in
    rw (cond-true (nat_le b.high a.low) (between (a.low - b.high) (a.high - b.low) (least_align a.align b.align)) (all width (least_align a.align b.align)) (le-leb b.high a.low (omega arith)))
    (record { low = omega arith; high = omega arith; aligned = least }))
    (λ _.
    cond_both (nat_le b.high a.low) _ _ (λ r. IsWithin r (all width (least_align c.align d.align)))
    (λ _. record { low = omega arith; high = omega arith; aligned = least })
    (λ _. all_narrows width (least_align a.align b.align) (least_align c.align d.align) least))

product_narrows : (width : Width) (a b c d : Range) → IsRangeNarrower width a c → IsRangeNarrower width b d → IsWithin (product_of width a b) (product_of width c d)
product_narrows width a b c d p q =
    unless_narrows width (a.low * b.low) (a.high * b.high) (c.low * d.low) (c.high * d.high) (times_power a.align (rank b.align)) (times_power c.align (rank d.align))
    (mul-le c.low d.low a.low b.low p.within.low q.within.low) (mul-le a.high b.high c.high d.high p.within.high q.within.high)
    (rank_raised c.align a.align (rank d.align) (rank b.align) p.within.aligned q.within.aligned)

-- where the lower end of a range isn't 0, that of each range within it isn't
positive_within : (width : Width) (b d : Range) → IsRangeNarrower width b d → (d.low == 0) ≡ false → (b.low == 0) ≡ false
positive_within width b d q f = grind (arith, at_least_one, not_zero)

quotient_narrows : (width : Width) (a b c d : Range) → IsRangeNarrower width a c → IsRangeNarrower width b d → IsWithin (quotient_of a b) (quotient_of c d)
quotient_narrows width a b c d p q =
    let a_high = p.within.high in
    let b_low = q.within.low in
    let b_ordered = q.smaller.ordered in
    cond_both (d.low == 0) _ _ (λ r. IsWithin (quotient_of a b) r)
    (λ _.
    cond_both (b.low == 0) _ _ (λ r. IsWithin r (between 0 c.high One))
    (λ _. record { low = omega arith; high = a_high; aligned = omega arith })
    (λ _. record { low = omega arith; high = omega (arith, div-le_self a.high b.low); aligned = omega arith }))
    (λ f.
    let least : 0 < d.low = at_least_one d.low f in
    rw (cond-false (b.low == 0) (between 0 a.high One) (between (a.low / b.high) (a.high / b.low) One) (positive_within width b d q f))
    (record {
      low = quotient_order c.low d.high a.low b.high p.within.low q.within.high (omega arith);
      high = quotient_order a.high b.low c.high d.low p.within.high q.within.low least;
      aligned = omega arith;
    }))

remainder_narrows : (width : Width) (a b c d : Range) → IsRangeNarrower width a c → IsRangeNarrower width b d → IsWithin (remainder_of a b) (remainder_of c d)
remainder_narrows width a b c d p q = grind (arith, cond_both, min, cond-false, positive_within)

and_narrows : (width : Width) (a b c d : Range) → IsRangeNarrower width a c → IsRangeNarrower width b d → IsWithin (and_of a b) (and_of c d)
and_narrows width a b c d p q =
    let a_high = p.within.high in
    let b_high = q.within.high in
    record { low = omega arith; high = omega arith; aligned = rank_greatest c.align d.align a.align b.align p.within.aligned q.within.aligned }

-- more bits are needed for larger numbers
bits_order : (m n x y : ℕ) → x ≤ y → y < 2 ^ n → 2 ^ m ≤ 2 * x + 1 → m ≤ n
bits_order m n x y h fits least = elim (cases_lt n m) [
  | inr done ↦ done
  | inl more ↦
      let k : ℕ = m - suc n in
      let same : m ≡ suc n + k = omega arith in
      let grown : 2 ^ suc n ≤ 2 ^ m = pow_mono (omega arith) in
      let twice : 2 ^ suc n ≡ 2 ^ n * 2 = pow-suc 2 n in
      absurd (omega arith)
]

ones_order : (x y : ℕ) → x ≤ y → y < 2 ^ 64 → ones_from x ≤ ones_from y
ones_order x y h fits =
    let (m, x_whole, x_below, x_least) = leading_length 64 x (omega arith) in
    let (n, y_whole, y_below, y_least) = leading_length 64 y fits in
    let x_bits : 64 - leading_zeros w64 x ≡ m = omega (arith, x_whole) in
    let y_bits : 64 - leading_zeros w64 y ≡ n = omega (arith, y_whole) in
    let order : 2 ^ m ≤ 2 ^ n = pow_mono (bits_order m n x y h y_below x_least) in
    rw (x_bits, y_bits) (omega arith)

-- so the bits of two numbers of which either may be the larger end no earlier
bits_narrow : (width : Width) (a b c d : Range) → IsRangeNarrower width a c → IsRangeNarrower width b d → ones_from (max a.high b.high) ≤ ones_from (max c.high d.high)
bits_narrow width a b c d p q = grind (arith, ones_order, max)

or_narrows : (width : Width) (a b c d : Range) → IsRangeNarrower width a c → IsRangeNarrower width b d → IsWithin (or_of a b) (or_of c d)
or_narrows width a b c d p q =
    let a_low = p.within.low in
    let b_low = q.within.low in
    record { low = omega arith; high = bits_narrow width a b c d p q; aligned = rank_least c.align d.align a.align b.align p.within.aligned q.within.aligned }

xor_narrows : (width : Width) (a b c d : Range) → IsRangeNarrower width a c → IsRangeNarrower width b d → IsWithin (xor_of a b) (xor_of c d)
xor_narrows width a b c d p q =
    record { low = omega arith; high = bits_narrow width a b c d p q; aligned = rank_least c.align d.align a.align b.align p.within.aligned q.within.aligned }

left_by_narrows : (width : Width) (bits : ℕ) (a c : Range) → IsWithin a c → IsWithin (shifted_left width bits a) (shifted_left width bits c)
left_by_narrows width bits a c w = grind (arith, unless_narrows, mul-le, rank_raised)

left_shift_narrows : (width : Width) (a b c d : Range) → IsRangeNarrower width a c → IsRangeNarrower width b d → IsWithin (left_shift_of width a b) (left_shift_of width c d)
left_shift_narrows width a b c d p q =
    cond_both (is_constant d) _ _ (λ r. IsWithin (left_shift_of width a b) r)
    (λ t.
    rw (same_constant b d q.smaller q.larger q.within t, cond-true (is_constant d) (shifted_left width (count width d.low) a) (all width a.align) t)
    (left_by_narrows width (count width d.low) a c p.within))
    (λ _.
    cond_both (is_constant b) _ _ (λ r. IsWithin r (all width c.align))
    (λ _. unless_within_all width (a.low * 2 ^ count width b.low) (a.high * 2 ^ count width b.low) (times_power a.align (count width b.low)) c.align
    (le_trans p.within.aligned (raised_more a.align (count width b.low))))
    (λ _. all_narrows width a.align c.align p.within.aligned))

right_by_narrows : (bits : ℕ) (a c : Range) → IsWithin a c → IsWithin (right_by bits a) (right_by bits c)
right_by_narrows bits a c w = grind (arith, pow_pos, quotient_order)

right_shift_narrows : (width : Width) (a b c d : Range) → IsRangeNarrower width a c → IsRangeNarrower width b d → IsWithin (right_shift_of width a b) (right_shift_of width c d)
right_shift_narrows width a b c d p q =
    let a_high = p.within.high in
    cond_both (is_constant d) _ _ (λ r. IsWithin (right_shift_of width a b) r)
    (λ t.
    rw (same_constant b d q.smaller q.larger q.within t, cond-true (is_constant d) (right_by (count width d.low) a) (between 0 a.high One) t)
    (right_by_narrows (count width d.low) a c p.within))
    (λ _.
    cond_both (is_constant b) _ _ (λ r. IsWithin r (between 0 c.high One))
    (λ _. record { low = omega arith; high = omega (arith, shr_le a.high (count width b.low)); aligned = omega arith })
    (λ _. record { low = omega arith; high = a_high; aligned = omega arith }))

swap_narrows : (width : Width) (b d : Range) → IsRangeNarrower width b d → IsWithin (swapped_range b) (swapped_range d)
swap_narrows width b d q =
    cond_both (is_constant d) _ _ (λ r. IsWithin (swapped_range b) r)
    (λ t.
    rw (same_constant b d q.smaller q.larger q.within t, cond-true (is_constant d) (between 0 (greatest_of_bits d.low) One) (all Bits64 One) t)
    (within_self (between 0 (greatest_of_bits d.low) One)))
    (λ _.
    cond_both (is_constant b) _ _ (λ r. IsWithin r (all Bits64 One))
    (λ _. record { low = omega arith; high = omega (arith, bits_small b.low); aligned = omega arith })
    (λ _. within_self (all Bits64 One)))

-- and with an offset all is left open
unless_offset : (width : Width) (offset : ℤ) (r wide : Range) → IsWithin r wide → IsWithin (if is offset 0 then r else all width One) (if is offset 0 then wide else all width One)
unless_offset width offset r wide h = grind (arith, true, false, within_self)

-- what a row makes of ranges lies within what it makes of wider ones
row_narrows : (code : AluCode) (width : Width) (offset : ℤ) (a b c d : Range) → IsRangeNarrower width a c → IsRangeNarrower width b d → IsWithin (row code width offset a b) (row code width offset c d)
unfolding row
row_narrows Add width offset a b c d p q = sum_narrows width a b c d p q
row_narrows Sub width offset a b c d p q = difference_narrows width a b c d p q
row_narrows Mul width offset a b c d p q = product_narrows width a b c d p q
row_narrows Div width offset a b c d p q = unless_offset width offset (quotient_of a b) (quotient_of c d) (quotient_narrows width a b c d p q)
row_narrows Or width offset a b c d p q = or_narrows width a b c d p q
row_narrows And width offset a b c d p q = and_narrows width a b c d p q
row_narrows Lsh width offset a b c d p q = left_shift_narrows width a b c d p q
row_narrows Rsh width offset a b c d p q = right_shift_narrows width a b c d p q
row_narrows Neg width offset a b c d p q = within_self (all width One)
row_narrows Mod width offset a b c d p q = unless_offset width offset (remainder_of a b) (remainder_of c d) (remainder_narrows width a b c d p q)
row_narrows Xor width offset a b c d p q = xor_narrows width a b c d p q
row_narrows Mov width offset a b c d p q = unless_offset width offset b d q.within
row_narrows Arsh width offset a b c d p q = within_self (all width One)
row_narrows ToLittleEndian width offset a b c d p q = swap_narrows width b d q
row_narrows ToBigEndian width offset a b c d p q = swap_narrows width b d q
row_narrows SwapBytes width offset a b c d p q = swap_narrows width b d q

-- ---- what is computed

-- what the machine computes of the lower ends is a number of the row, also of that of wider ranges
ends_in_row : (code : AluCode) (width : Width) (offset : ℤ) (a b c d : Range) → IsRangeNarrower width a c → IsRangeNarrower width b d → IsIn (row code width offset a b) (alu code width offset a.low b.low)
ends_in_row code width offset a b c d p q = grind (arith, in_row_of_ends)

computed_narrows : (code : AluCode) (width : Width) (offset : ℤ) (a b c d : Range) → IsRangeNarrower width a c → IsRangeNarrower width b d → IsWithin (computed_range code width offset a b) (computed_range code width offset c d)
computed_narrows code width offset a b c d p q =
    let number : ℕ = alu code width offset a.low b.low in
    let has : IsIn (row code width offset a b) number = ends_in_row code width offset a b c d p q in
    let narrow : IsWithin (row code width offset a b) (row code width offset c d) = row_narrows code width offset a b c d p q in
    cond_both (is_constant c && is_constant d) _ _ (λ r. IsWithin (computed_range code width offset a b) r)
    (λ t.
    let ones = and_parts (is_constant c) (is_constant d) t in
    rw (same_constant a c p.smaller p.larger p.within ones.0, same_constant b d q.smaller q.larger q.within ones.1, cond-true (is_constant c && is_constant d) (constant (alu code width offset c.low d.low)) (normal_of (row code width offset c d)) t)
    (within_self (constant (alu code width offset c.low d.low))))
    (λ _.
    cond_both (is_constant a && is_constant b) _ _ (λ r. IsWithin r (normal_of (row code width offset c d)))
    (λ _. constant_within (normal_of (row code width offset c d)) number
    (in_normal_of (row code width offset c d) number (in_above (row code width offset a b) (row code width offset c d) number narrow has)))
    (λ _. normal_narrows (row code width offset a b) (row code width offset c d) number has narrow))

-- what arithmetic makes of ranges lies within what it makes of wider ones
pub range_narrows : (code : AluCode) (width : Width) (offset : ℤ) (a b c d : Range) → IsNormal a → IsNormal b → IsNormal c → IsNormal d → IsWithin a c → IsWithin b d → IsWithin (range_of code width offset a b) (range_of code width offset c d)
range_narrows code width offset a b c d pa pb pc pd p q = grind (arith, computed_narrows, taken_narrows)
