-- The table of arithmetic on ranges: each row has what the machine computes of two numbers of the width.
use Rattle.std.proofs.Common.{◌≡◌, ℕ, zero, suc, ◌+◌, ◌-◌, ◌*◌, ◌/◌, ◌%◌, ◌^◌, ◌<◌, ◌≤◌, ◌==◌, ◌∙◌, min, max, nat_lt, nat_le, ℤ, pos, true, false, refl, sym, ap, subst, arith}
use Rattle.std.proofs.lemmas.Bool.{cond_both, cond-false, eqb-true, eqb-false, ltb-true, leb-true}
use Rattle.std.proofs.lemmas.Bool.Decides.{nat_tests}
use Rattle.std.proofs.lemmas.Nat.{pow-add, mul-le, le-div, and_le_l, and_le_r, and_comm, and_mod, or_lt, xor_lt, or_mod, xor_mod, le_or_l, le_or_r, leading_length, shr_le, pow_pos, mod_below, leading_le, div-mul-add}
use Rattle.std.proofs.Math.Nat.{div-mul-le_self, div-le_self, le_trans}
use Rattle.std.proofs.Math.Pow.{pow_mono}
use Rattle.std.specs.Int.{leading_zeros, w64}
use Rattle.std.specs.Int.Bits.{bit_and, bit_or, bit_xor, and_zero_l}
use Rattle.bpf_decode.specs.declared.operation.Width.{Width}
use Rattle.bpf_decode.specs.declared.operation.Width.TheVariants.{Bits32, Bits64}
use Rattle.bpf_decode.specs.declared.operation.AluCode.TheVariants.{Add, Sub, Mul, Div, Or, And, Lsh, Rsh, Mod, Xor, Mov}
use Rattle.bpf_decode.specs.Opcodes.{is}
use Rattle.insn_alu.specs.Arithmetic.{alu, low, modulus, quotient, remainder}
use Rattle.insn_alu.proofs.Halves.{low_of_small}
use Rattle.insn_alu.proofs.Small.{low_fits}
use Rattle.verifier_kinds.specs.declared.kind.Align.{Align}
use Rattle.verifier_kinds.specs.declared.kind.Align.TheVariants.{One, Two, Four, Eight}
use Rattle.verifier_kinds.specs.declared.kind.Range.{Range}
use Rattle.verifier_kinds.specs.Kinds.{factor, rank, of_rank, times_power, least_align, is_constant, IsIn}
use Rattle.verifier_kinds.specs.Arithmetic.{unless_wrapped, sum_of, difference_of, product_of, quotient_of, remainder_of, and_of, ones_from, or_of, xor_of, shifted_left, left_shift_of, right_by, right_shift_of}
use Rattle.verifier_kinds.proofs.Ranges.{divided_by_least_left, divided_by_least_right, sum_divided}
use Rattle.verifier_kinds.proofs.Joins.{same_offset}
use Rattle.verifier_kinds.proofs.Operands.{in_all, low_divided}

-- ---- sums and differences

-- numbers that fit a width stay as they are, others have its low bits
in_unless_wrapped : (width : Width) (from to : ℕ) (d : Align) (n : ℕ) → from ≤ n → n ≤ to → n % factor d ≡ 0 → IsIn (unless_wrapped width from to d) (low width n)
in_unless_wrapped width from to d n p q e = grind (arith, nat_tests, cond_both, nat_lt, ltb-true, low_of_small, in_all, low_fits, low_divided)

both_divided : (a b : Range) (x y : ℕ) → x % factor a.align ≡ 0 → y % factor b.align ≡ 0 → (x + y) % factor (least_align a.align b.align) ≡ 0
both_divided a b x y p q =
    sum_divided (least_align a.align b.align) x y
    (divided_by_least_left a.align b.align x p) (divided_by_least_right a.align b.align y q)

pub in_sum : (width : Width) (offset : ℤ) (a b : Range) (x y : ℕ) → IsIn a x → IsIn b y → IsIn (sum_of width a b) (alu Add width offset x y)
unfolding alu
in_sum width offset a b x y p q =
    let left_low = p.low in
    let left_high = p.high in
    let right_low = q.low in
    let right_high = q.high in
    in_unless_wrapped width (a.low + b.low) (a.high + b.high) (least_align a.align b.align) (x + y) (omega arith) (omega arith) (both_divided a b x y p.aligned q.aligned)

difference_divided : (d : Align) (x y : ℕ) → x % factor d ≡ 0 → y % factor d ≡ 0 → (x - y) % factor d ≡ 0
difference_divided One x y p q = omega arith
difference_divided Two x y p q = omega arith
difference_divided Four x y p q = omega arith
difference_divided Eight x y p q = omega arith

modulus_divided : (width : Width) (d : Align) → modulus width % factor d ≡ 0
modulus_divided Bits32 One = refl
modulus_divided Bits32 Two = refl
modulus_divided Bits32 Four = refl
modulus_divided Bits32 Eight = refl
modulus_divided Bits64 One = refl
modulus_divided Bits64 Two = refl
modulus_divided Bits64 Four = refl
modulus_divided Bits64 Eight = refl

difference_small : (width : Width) (x y : ℕ) → y ≤ x → x < modulus width → low width (x + (modulus width - y)) ≡ x - y
difference_small Bits32 x y h fits = omega arith
difference_small Bits64 x y h fits = omega arith

pub in_difference : (width : Width) (offset : ℤ) (a b : Range) (x y : ℕ) → IsIn a x → IsIn b y → x < modulus width → y < modulus width → IsIn (difference_of width a b) (alu Sub width offset x y)
unfolding alu
in_difference width offset a b x y p q xs ys =
    let left_low = p.low in
    let left_high = p.high in
    let right_low = q.low in
    let right_high = q.high in
    let d : Align = least_align a.align b.align in
    let left : x % factor d ≡ 0 = divided_by_least_left a.align b.align x p.aligned in
    let right : y % factor d ≡ 0 = divided_by_least_right a.align b.align y q.aligned in
    rw (low_of_small width x xs, low_of_small width y ys)
    (cond_both (nat_le b.high a.low) _ _ (λ r. IsIn r (low width (x + (modulus width - y))))
    (λ t.
    let less : b.high ≤ a.low = leb-true b.high a.low t in
    rw (difference_small width x y (omega arith) xs)
    (record { low = omega arith; high = omega arith; aligned = difference_divided d x y left right }))
    (λ _. in_all width d (low width (x + (modulus width - y))) (low_fits width (x + (modulus width - y)))
    (low_divided width d (x + (modulus width - y)) (sum_divided d x (modulus width - y) left (difference_divided d (modulus width) y (modulus_divided width d) right)))))

-- ---- products and shifts

-- an alignment is its power of 2
factor_is : (d : Align) → factor d ≡ 2 ^ rank d
factor_is One = refl
factor_is Two = refl
factor_is Four = refl
factor_is Eight = refl

multiple : (d : Align) (n : ℕ) → n % factor d ≡ 0 → (m : ℕ) × (n ≡ 2 ^ rank d * m)
multiple One n e = (n, omega arith)
multiple Two n e = (n / 2, omega arith)
multiple Four n e = (n / 4, omega arith)
multiple Eight n e = (n / 8, omega arith)

divided_multiple : (d : Align) (m : ℕ) → (2 ^ rank d * m) % factor d ≡ 0
divided_multiple One m = omega arith
divided_multiple Two m = omega arith
divided_multiple Four m = omega arith
divided_multiple Eight m = omega arith

-- a multiple of a power of 2 is divided by each alignment of no more
power_divided : (d : Align) (n m : ℕ) → rank d ≤ n → (2 ^ n * m) % factor d ≡ 0
power_divided d n m h =
    let k : ℕ = n - rank d in
    let same : n ≡ rank d + k = omega arith in
    let power : 2 ^ n ≡ 2 ^ rank d * 2 ^ k = ap (λ i. 2 ^ i) same ∙ pow-add 2 (rank d) k in
    let product : 2 ^ n * m ≡ 2 ^ rank d * (2 ^ k * m) = rw power (omega arith) in
    rw product (divided_multiple d (2 ^ k * m))

rank_of_rank : (n : ℕ) → rank (of_rank n) ≤ n
rank_of_rank n = grind (arith, nat_tests, cond_both, eqb-true, eqb-false)

product_of_multiples : (i j x y u v : ℕ) → x ≡ 2 ^ i * u → y ≡ 2 ^ j * v → x * y ≡ 2 ^ (i + j) * (u * v)
product_of_multiples i j x y u v p q = rw (p, q, pow-add 2 i j) (omega arith)

product_divided : (a b : Align) (x y : ℕ) → x % factor a ≡ 0 → y % factor b ≡ 0 → (x * y) % factor (times_power a (rank b)) ≡ 0
product_divided a b x y p q =
    let (u, left) = multiple a x p in
    let (v, right) = multiple b y q in
    rw (product_of_multiples (rank a) (rank b) x y u v left right) (power_divided (times_power a (rank b)) (rank a + rank b) (u * v) (rank_of_rank (rank a + rank b)))

shift_of_multiple : (i k x u : ℕ) → x ≡ 2 ^ i * u → x * 2 ^ k ≡ 2 ^ (i + k) * u
shift_of_multiple i k x u p = rw (p, pow-add 2 i k) (omega arith)

shift_divided : (a : Align) (k x : ℕ) → x % factor a ≡ 0 → (x * 2 ^ k) % factor (times_power a k) ≡ 0
shift_divided a k x p =
    let (u, left) = multiple a x p in
    rw (shift_of_multiple (rank a) k x u left) (power_divided (times_power a k) (rank a + k) u (rank_of_rank (rank a + k)))

still_divided : (a : Align) (k x : ℕ) → x % factor a ≡ 0 → (x * 2 ^ k) % factor a ≡ 0
still_divided a k x p =
    let (u, left) = multiple a x p in
    rw (shift_of_multiple (rank a) k x u left) (power_divided a (rank a + k) u (omega arith))

pub in_product : (width : Width) (offset : ℤ) (a b : Range) (x y : ℕ) → IsIn a x → IsIn b y → IsIn (product_of width a b) (alu Mul width offset x y)
unfolding alu
in_product width offset a b x y p q =
    in_unless_wrapped width (a.low * b.low) (a.high * b.high) (times_power a.align (rank b.align)) (x * y)
    (mul-le a.low b.low x y p.low q.low) (mul-le x y a.high b.high p.high q.high) (product_divided a.align b.align x y p.aligned q.aligned)

in_left_by : (width : Width) (bits : ℕ) (a : Range) (x : ℕ) → IsIn a x → IsIn (shifted_left width bits a) (low width (x * 2 ^ bits))
in_left_by width bits a x p =
    in_unless_wrapped width (a.low * 2 ^ bits) (a.high * 2 ^ bits) (times_power a.align bits) (x * 2 ^ bits)
    (mul-le a.low (2 ^ bits) x (2 ^ bits) p.low (omega arith)) (mul-le x (2 ^ bits) a.high (2 ^ bits) p.high (omega arith)) (shift_divided a.align bits x p.aligned)

pub in_left_shift : (width : Width) (offset : ℤ) (a b : Range) (x y : ℕ) → IsIn a x → (is_constant b ≡ true → b.low ≡ y) → IsIn (left_shift_of width a b) (alu Lsh width offset x y)
unfolding alu
in_left_shift width offset a b x y p one = grind (arith, nat_tests, cond_both, in_left_by, in_all, low_fits, low_divided, still_divided)

-- ---- divisions and right shifts

-- a quotient isn't less where the first number isn't and the second isn't more
pub quotient_order : (x y a c : ℕ) → x ≤ a → c ≤ y → 0 < c → x / y ≤ a / c
quotient_order x y a c p q positive = grind (arith, nat_tests, le-div, le_trans, mul-le, div-mul-le_self)

pub not_zero : (n : ℕ) → 0 < n → (n == 0) ≡ false
not_zero n h = grind (arith, nat_tests)

pub at_least_one : (n : ℕ) → (n == 0) ≡ false → 0 < n
at_least_one n f = grind (arith, nat_tests)

quotient_at_most : (width : Width) (x y : ℕ) → quotient width (pos 0) x y ≤ x
quotient_at_most width x y = cond_both (y == 0) 0 (x / y) (λ n. n ≤ x) (λ _. omega arith) (λ _. div-le_self x y)

quotient_is : (width : Width) (x y : ℕ) → 0 < y → quotient width (pos 0) x y ≡ x / y
quotient_is width x y h = cond-false (y == 0) 0 (x / y) (not_zero y h)

in_plain_quotient : (width : Width) (a b : Range) (x y : ℕ) → IsIn a x → IsIn b y → IsIn (quotient_of a b) (quotient width (pos 0) x y)
in_plain_quotient width a b x y p q = grind (arith, nat_tests, cond_both, pos, le_trans, quotient_at_most, at_least_one, quotient_is, quotient_order)

pub in_quotient : (width : Width) (offset : ℤ) (a b : Range) (x y : ℕ) → is offset 0 ≡ true → IsIn a x → IsIn b y → x < modulus width → y < modulus width → IsIn (quotient_of a b) (alu Div width offset x y)
unfolding alu
in_quotient width offset a b x y t p q xs ys =
    rw (low_of_small width x xs, low_of_small width y ys, same_offset offset (pos 0) t) (in_plain_quotient width a b x y p q)

rest_at_most : (x y : ℕ) → x % y ≤ x
rest_at_most x zero = omega arith
rest_at_most x (suc y) = omega arith

remainder_at_most : (width : Width) (x y : ℕ) → remainder width (pos 0) x y ≤ x
remainder_at_most width x y = cond_both (y == 0) x (x % y) (λ n. n ≤ x) (λ _. omega arith) (λ _. rest_at_most x y)

remainder_is : (width : Width) (x y : ℕ) → 0 < y → remainder width (pos 0) x y ≡ x % y
remainder_is width x y h = cond-false (y == 0) x (x % y) (not_zero y h)

in_plain_remainder : (width : Width) (a b : Range) (x y : ℕ) → IsIn a x → IsIn b y → IsIn (remainder_of a b) (remainder width (pos 0) x y)
in_plain_remainder width a b x y p q = grind (arith, nat_tests, pos, remainder_at_most, cond_both, min, at_least_one, remainder_is, mod_below, rest_at_most)

pub in_remainder : (width : Width) (offset : ℤ) (a b : Range) (x y : ℕ) → is offset 0 ≡ true → IsIn a x → IsIn b y → x < modulus width → y < modulus width → IsIn (remainder_of a b) (alu Mod width offset x y)
unfolding alu
in_remainder width offset a b x y t p q xs ys =
    rw (low_of_small width x xs, low_of_small width y ys, same_offset offset (pos 0) t) (in_plain_remainder width a b x y p q)

in_right_by : (bits : ℕ) (a : Range) (x : ℕ) → IsIn a x → IsIn (right_by bits a) (x / 2 ^ bits)
in_right_by bits a x p = grind (arith, nat_tests, pow_pos, quotient_order)

pub in_right_shift : (width : Width) (offset : ℤ) (a b : Range) (x y : ℕ) → IsIn a x → (is_constant b ≡ true → b.low ≡ y) → x < modulus width → IsIn (right_shift_of width a b) (alu Rsh width offset x y)
unfolding alu
in_right_shift width offset a b x y p one xs = grind (arith, nat_tests, low_of_small, cond_both, in_right_by, le_trans, shr_le)

-- ---- bits

and_divided : (k x y : ℕ) → x % 2 ^ k ≡ 0 → bit_and x y % 2 ^ k ≡ 0
and_divided k x y e = and_mod x y k ∙ ap (λ n. bit_and n (y % 2 ^ k)) e ∙ and_zero_l (y % 2 ^ k)

or_divided : (k x y : ℕ) → x % 2 ^ k ≡ 0 → y % 2 ^ k ≡ 0 → bit_or x y % 2 ^ k ≡ 0
or_divided k x y p q = or_mod x y k ∙ ap (λ n. bit_or n (y % 2 ^ k)) p ∙ ap (bit_or 0) q

xor_divided : (k x y : ℕ) → x % 2 ^ k ≡ 0 → y % 2 ^ k ≡ 0 → bit_xor x y % 2 ^ k ≡ 0
xor_divided k x y p q = xor_mod x y k ∙ ap (λ n. bit_xor n (y % 2 ^ k)) p ∙ ap (bit_xor 0) q

by_power : (d : Align) (n : ℕ) → n % factor d ≡ 0 → n % 2 ^ rank d ≡ 0
by_power d n e = subst (λ f. n % f ≡ 0) (factor_is d) e

by_factor : (d : Align) (n : ℕ) → n % 2 ^ rank d ≡ 0 → n % factor d ≡ 0
by_factor d n e = subst (λ f. n % f ≡ 0) (sym (factor_is d)) e

pub in_and : (width : Width) (offset : ℤ) (a b : Range) (x y : ℕ) → IsIn a x → IsIn b y → x < modulus width → y < modulus width → IsIn (and_of a b) (alu And width offset x y)
unfolding alu
in_and width offset a b x y p q xs ys = grind (arith, nat_tests, low_of_small, and_le_l, and_le_r, cond_both, nat_le, and_comm, by_factor, and_divided, by_power)

-- numbers whose bits are those of others have no more of them than the larger one
bits_from : (n : ℕ) → n < 2 ^ 64 → (m : ℕ) × (64 - leading_zeros w64 n ≡ m) × (n < 2 ^ m)
bits_from n h =
    let (m, whole, below, least) = leading_length 64 n h in
    (m, omega (arith, whole), below)

or_at_most : (n x y : ℕ) → n < 2 ^ 64 → x ≤ n → y ≤ n → bit_or x y ≤ ones_from n
or_at_most n x y h p q =
    let (m, bits, below) = bits_from n h in
    rw bits (omega (arith, or_lt m x y (omega arith) (omega arith)))

xor_at_most : (n x y : ℕ) → n < 2 ^ 64 → x ≤ n → y ≤ n → bit_xor x y ≤ ones_from n
xor_at_most n x y h p q =
    let (m, bits, below) = bits_from n h in
    rw bits (omega (arith, xor_lt m x y (omega arith) (omega arith)))

pub ones_small : (n : ℕ) → ones_from n < 2 ^ 64
ones_small n =
    let fewer : 64 - leading_zeros w64 n ≤ 64 = omega arith in
    omega (arith, pow_mono fewer, pow_pos (64 - leading_zeros w64 n))

pub in_or : (width : Width) (offset : ℤ) (a b : Range) (x y : ℕ) → IsIn a x → IsIn b y → x < modulus width → y < modulus width → a.high < 2 ^ 64 → b.high < 2 ^ 64 → IsIn (or_of a b) (alu Or width offset x y)
unfolding alu
in_or width offset a b x y p q xs ys left right = grind (arith, nat_tests, low_of_small, le_or_l, le_or_r, or_at_most, max, by_factor, or_divided, by_power, divided_by_least_left, divided_by_least_right)

pub in_xor : (width : Width) (offset : ℤ) (a b : Range) (x y : ℕ) → IsIn a x → IsIn b y → x < modulus width → y < modulus width → a.high < 2 ^ 64 → b.high < 2 ^ 64 → IsIn (xor_of a b) (alu Xor width offset x y)
unfolding alu
in_xor width offset a b x y p q xs ys left right = grind (arith, nat_tests, low_of_small, xor_at_most, max, by_factor, xor_divided, by_power, divided_by_least_left, divided_by_least_right)

-- ---- moves

pub in_move : (width : Width) (offset : ℤ) (b : Range) (x y : ℕ) → is offset 0 ≡ true → IsIn b y → y < modulus width → IsIn b (alu Mov width offset x y)
unfolding alu
in_move width offset b x y t q ys = rw (low_of_small width y ys, same_offset offset (pos 0) t) q

-- ---- numbers whose bits are all ones

-- all ones of 64 bits, shifted
pub ones_shifted : (n : ℕ) → 18446744073709551615 / 2 ^ leading_zeros w64 n ≡ ones_from n
ones_shifted n = shifted (leading_zeros w64 n) (leading_le 64 n)
  where
    shifted : (z : ℕ) → z ≤ 64 → 18446744073709551615 / 2 ^ z ≡ 2 ^ (64 - z) - 1
    shifted z h =
        let q : ℕ = 2 ^ z in
        let p : ℕ = 2 ^ (64 - z) - 1 in
        let positive : 0 < q = pow_pos z in
        let more : 2 ^ (64 - z) ≡ p + 1 = omega (arith, pow_pos (64 - z)) in
        let sum : 64 - z + z ≡ 64 = omega arith in
        let whole : (p + 1) * q ≡ 18446744073709551616 = ap (λ n. n * q) (sym more) ∙ sym (pow-add 2 (64 - z) z) ∙ ap (λ n. 2 ^ n) sum in
        let parts : 18446744073709551615 ≡ p * q + (q - 1) = omega arith in
        ap (λ n. n / q) parts ∙ div-mul-add p q (q - 1) (omega arith)
