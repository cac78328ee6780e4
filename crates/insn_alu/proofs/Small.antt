-- How large the results of arithmetic are, and that with 32 bits the low half of the second operand counts.
use Rattle.std.proofs.Common.{Bool, inl, inr, ◌≡◌, ◌∙◌, ℕ, zero, suc, ◌+◌, ◌-◌, ◌*◌, ◌%◌, ◌^◌, ◌<◌, ◌≤◌, ◌==◌, ℤ, pos, negsuc, true, false, if◌then◌else◌, refl, sym, ap, arith}
use Rattle.std.proofs.Math.Nat.{div-le_self, le_trans}
use Rattle.std.proofs.Math.Facts.{sfits_to_z}
use Rattle.std.proofs.lemmas.Nat.{and_le_l, or_lt, xor_lt, shr_le}
use Rattle.std.proofs.lemmas.Bool.{cond_both, cases_Bool}
use Rattle.std.specs.Int.{cast_signed, int_shr, swap_bytes, w8, w16, w32, w64}
use Rattle.std.specs.Int.Bits.{bit_or, bit_xor}
use Rattle.std.specs.Int.Signed.{quot_z, rem_z}
use Rattle.bpf_decode.specs.declared.operation.Width.{Width}
use Rattle.bpf_decode.specs.declared.operation.Width.TheVariants.{Bits32, Bits64}
use Rattle.bpf_decode.specs.declared.operation.AluCode.{AluCode}
use Rattle.bpf_decode.specs.declared.operation.AluCode.TheVariants.{Add, Sub, Mul, Div, Or, And, Lsh, Rsh, Neg, Mod, Xor, Mov, Arsh, ToLittleEndian, ToBigEndian, SwapBytes}
use Rattle.bpf_decode.specs.Opcodes.{is}
use Rattle.insn_alu.specs.Arithmetic.{alu, low, modulus, signed, unsigned, count, quotient, remainder, moved, cut_to, swapped, is_swap}
use Rattle.insn_alu.proofs.Halves.{of_lows}
use Rattle.insn_alu.proofs.Quotients.{size_of, negated_size, quotient_size, size_64, size_32}

-- the low bits of a number are a number of the width
pub low_fits : (width : Width) (n : ℕ) → low width n < modulus width
low_fits Bits32 n = omega arith
low_fits Bits64 n = omega arith

-- half of the numbers of a width
abbrev half : Width → ℕ
half Bits32 = 2147483648
half Bits64 = 9223372036854775808

unsigned_fits : (width : Width) (z : ℤ) → size_of z ≤ half width → unsigned width z < modulus width
unsigned_fits Bits32 (pos n) h = omega arith
unsigned_fits Bits32 (negsuc n) h = omega arith
unsigned_fits Bits64 (pos n) h = omega arith
unsigned_fits Bits64 (negsuc n) h = omega arith

signed_size : (width : Width) (n : ℕ) → n < modulus width → size_of (signed width n) ≤ half width
signed_size Bits32 n h = size_32 (cast_signed w32 n) (sfits_to_z (record { fits = h }))
signed_size Bits64 n h = size_64 (cast_signed w64 n) (sfits_to_z (record { fits = h }))

rest_size : (a b : ℕ) → a % b ≤ a
rest_size a zero = omega arith
rest_size a (suc b) = omega arith

remainder_size : (x y : ℤ) → size_of (rem_z x y) ≤ size_of x
remainder_size (pos a) (pos b) = rest_size a b
remainder_size (pos a) (negsuc b) = rest_size a (suc b)
remainder_size (negsuc a) (pos b) = negated_size (suc a % b) (suc a) (rest_size (suc a) b)
remainder_size (negsuc a) (negsuc b) = negated_size (suc a % suc b) (suc a) (rest_size (suc a) (suc b))

shifted_size : (x : ℤ) (k : ℕ) → size_of (int_shr x k) ≤ size_of x
shifted_size (pos a) k = shr_le a k
shifted_size (negsuc a) k = omega (arith, shr_le a k)

-- the bits of a number that was read as a signed one of 8, 16 or 32 bits
extended_fits_8 : (width : Width) (n : ℕ) → n < 256 → unsigned width (cast_signed w8 n) < modulus width
extended_fits_8 Bits32 n h = grind arith
extended_fits_8 Bits64 n h = grind arith

extended_fits_16 : (width : Width) (n : ℕ) → n < 65536 → unsigned width (cast_signed w16 n) < modulus width
extended_fits_16 Bits32 n h = grind arith
extended_fits_16 Bits64 n h = grind arith

extended_fits_32 : (width : Width) (n : ℕ) → n < 4294967296 → unsigned width (cast_signed w32 n) < modulus width
extended_fits_32 Bits32 n h = grind arith
extended_fits_32 Bits64 n h = grind arith

quotient_fits : (width : Width) (offset : ℤ) (a b : ℕ) → a < modulus width → quotient width offset a b < modulus width
quotient_fits width offset a b h =
    cond_both (b == 0) 0 _ (λ n. n < modulus width) (λ _. omega (arith, h)) (λ _.
    cond_both (is offset 1) _ _ (λ n. n < modulus width)
    (λ _. unsigned_fits width (quot_z (signed width a) (signed width b)) (le_trans (quotient_size (signed width a) (signed width b)) (signed_size width a h)))
    (λ _. omega (arith, div-le_self a b)))

remainder_fits : (width : Width) (offset : ℤ) (a b : ℕ) → a < modulus width → remainder width offset a b < modulus width
remainder_fits width offset a b h =
    cond_both (b == 0) a _ (λ n. n < modulus width) (λ _. h) (λ _.
    cond_both (is offset 1) _ _ (λ n. n < modulus width)
    (λ _. unsigned_fits width (rem_z (signed width a) (signed width b)) (le_trans (remainder_size (signed width a) (signed width b)) (signed_size width a h)))
    (λ _. omega (arith, rest_size a b)))

moved_fits : (width : Width) (offset : ℤ) (b : ℕ) → b < modulus width → moved width offset b < modulus width
moved_fits width offset b h =
    cond_both (is offset 8) _ _ (λ n. n < modulus width) (λ _. extended_fits_8 width (b % 256) (omega arith)) (λ _.
    cond_both (is offset 16) _ _ (λ n. n < modulus width) (λ _. extended_fits_16 width (b % 65536) (omega arith)) (λ _.
    cond_both (is offset 32) _ _ (λ n. n < modulus width) (λ _. extended_fits_32 width (b % 4294967296) (omega arith)) (λ _. h)))

or_fits : (width : Width) (a b : ℕ) → a < modulus width → b < modulus width → bit_or a b < modulus width
or_fits Bits32 a b p q = or_lt 32 a b p q
or_fits Bits64 a b p q = or_lt 64 a b p q

xor_fits : (width : Width) (a b : ℕ) → a < modulus width → b < modulus width → bit_xor a b < modulus width
xor_fits Bits32 a b p q = xor_lt 32 a b p q
xor_fits Bits64 a b p q = xor_lt 64 a b p q

shifted_fits : (width : Width) (a k : ℕ) → a < modulus width → unsigned width (int_shr (signed width a) k) < modulus width
shifted_fits width a k h = unsigned_fits width (int_shr (signed width a) k) (le_trans (shifted_size (signed width a) k) (signed_size width a h))

-- what arithmetic computes is a number of the width
pub alu_in_width : (code : AluCode) (width : Width) (offset : ℤ) (a b : ℕ) → is_swap code ≡ false → alu code width offset a b < modulus width
unfolding alu
alu_in_width Add width offset a b h = low_fits width (a + b)
alu_in_width Sub width offset a b h = low_fits width (low width a + (modulus width - low width b))
alu_in_width Mul width offset a b h = low_fits width (a * b)
alu_in_width Div width offset a b h = quotient_fits width offset (low width a) (low width b) (low_fits width a)
alu_in_width Or width offset a b h = or_fits width (low width a) (low width b) (low_fits width a) (low_fits width b)
alu_in_width And width offset a b h = omega (arith, and_le_l (low width a) (low width b), low_fits width a)
alu_in_width Lsh width offset a b h = low_fits width (a * 2 ^ count width b)
alu_in_width Rsh width offset a b h = omega (arith, shr_le (low width a) (count width b), low_fits width a)
alu_in_width Neg width offset a b h = low_fits width (modulus width - low width a)
alu_in_width Mod width offset a b h = remainder_fits width offset (low width a) (low width b) (low_fits width a)
alu_in_width Xor width offset a b h = xor_fits width (low width a) (low width b) (low_fits width a) (low_fits width b)
alu_in_width Mov width offset a b h = moved_fits width offset (low width b) (low_fits width b)
alu_in_width Arsh width offset a b h = shifted_fits width (low width a) (count width b) (low_fits width a)
alu_in_width ToLittleEndian width offset a b h = cc
alu_in_width ToBigEndian width offset a b h = cc
alu_in_width SwapBytes width offset a b h = cc

-- a width has no more than 64 bits
pub width_small : (width : Width) (n : ℕ) → n < modulus width → n < 2 ^ 64
width_small Bits32 n h = omega arith
width_small Bits64 n h = omega arith

swapped_16_fits : (n : ℕ) → swap_bytes w16 n < 2 ^ 16
swapped_16_fits n = omega arith

swapped_32_fits : (n : ℕ) → swap_bytes w32 n < 2 ^ 32
swapped_32_fits n = omega arith

swapped_64_fits : (n : ℕ) → swap_bytes w64 n < 2 ^ 64
swapped_64_fits n = omega arith

-- the greatest number of 16, 32 or 64 bits
abbrev pub greatest_of_bits : ℕ → ℕ
greatest_of_bits bits =
    if bits == 16 then 65535 else (
    if bits == 32 then 4294967295 else 18446744073709551615)

cut_at_most : (bits a : ℕ) → a < 2 ^ 64 → cut_to bits a ≤ greatest_of_bits bits
cut_at_most bits a h = by_bits (bits == 16) (bits == 32)
  where
    by_bits : (p q : Bool) → (if p then a % 65536 else (if q then a % 4294967296 else a)) ≤ (if p then 65535 else (if q then 4294967295 else 18446744073709551615))
    by_bits true q = omega arith
    by_bits false true = omega arith
    by_bits false false = omega (arith, h)

swapped_at_most : (bits a : ℕ) → swapped bits a ≤ greatest_of_bits bits
swapped_at_most bits a = by_bits (bits == 16) (bits == 32)
  where
    by_bits : (p q : Bool) → (if p then swap_bytes w16 (a % 65536) else (if q then swap_bytes w32 (a % 4294967296) else swap_bytes w64 a)) ≤ (if p then 65535 else (if q then 4294967295 else 18446744073709551615))
    by_bits true q = omega (arith, swapped_16_fits (a % 65536))
    by_bits false true = omega (arith, swapped_32_fits (a % 4294967296))
    by_bits false false = omega (arith, swapped_64_fits a)

-- a byte swap computes a number of its width
pub swap_at_most : (code : AluCode) (width : Width) (offset : ℤ) (a b : ℕ) → is_swap code ≡ true → a < 2 ^ 64 → alu code width offset a b ≤ greatest_of_bits b
unfolding alu
swap_at_most ToLittleEndian width offset a b h fits = cut_at_most b a fits
swap_at_most ToBigEndian width offset a b h fits = swapped_at_most b a
swap_at_most SwapBytes width offset a b h fits = swapped_at_most b a
swap_at_most code width offset a b h fits = cc

pub bits_small : (bits : ℕ) → greatest_of_bits bits < 2 ^ 64
bits_small bits =
    cond_both (bits == 16) 65535 _ (λ n. n < 2 ^ 64) (λ _. omega arith) (λ _.
    cond_both (bits == 32) 4294967295 18446744073709551615 (λ n. n < 2 ^ 64) (λ _. omega arith) (λ _. omega arith))

-- what arithmetic computes has 64 bits
pub alu_small : (code : AluCode) (width : Width) (offset : ℤ) (a b : ℕ) → a < 2 ^ 64 → alu code width offset a b < 2 ^ 64
alu_small code width offset a b h = elim (cases_Bool (is_swap code)) [
  | inl swap ↦ omega (arith, swap_at_most code width offset a b swap h, bits_small b)
  | inr other ↦ width_small width (alu code width offset a b) (alu_in_width code width offset a b other)
]

-- with 32 bits only the low halves count, but in byte swaps
of_low_halves : (code : AluCode) (offset : ℤ) (a b : ℕ) → is_swap code ≡ false → alu code Bits32 offset (a % 4294967296) (b % 4294967296) ≡ alu code Bits32 offset a b
of_low_halves code offset a b other =
    of_lows code offset a b
    (λ same. let swap : is_swap code ≡ true = ap is_swap same in cc)
    (λ same. let swap : is_swap code ≡ true = ap is_swap same in cc)
    (λ same. let swap : is_swap code ≡ true = ap is_swap same in cc)

of_low_half : (code : AluCode) (offset : ℤ) (a b : ℕ) → is_swap code ≡ false → alu code Bits32 offset a (b % 4294967296) ≡ alu code Bits32 offset a b
of_low_half code offset a b other =
    let once : b % 4294967296 % 4294967296 ≡ b % 4294967296 = omega arith in
    sym (of_low_halves code offset a (b % 4294967296) other) ∙ ap (alu code Bits32 offset (a % 4294967296)) once ∙ of_low_halves code offset a b other

-- Of the second operand the bits of the width count; that of a byte swap is one of its widths.
pub alu_of_low : (code : AluCode) (width : Width) (offset : ℤ) (a b : ℕ) → b < 2 ^ 64 → (is_swap code ≡ true → b < modulus width) → alu code width offset a (low width b) ≡ alu code width offset a b
alu_of_low code Bits64 offset a b h swap = ap (alu code Bits64 offset a) (omega arith)
alu_of_low code Bits32 offset a b h swap = elim (cases_Bool (is_swap code)) [
  | inl is_one ↦ let small : b < 4294967296 = swap is_one in ap (alu code Bits32 offset a) (omega arith)
  | inr other ↦ of_low_half code offset a b other
]

-- of both operands the bits of the width count, but in byte swaps
pub alu_of_lows : (code : AluCode) (width : Width) (offset : ℤ) (a b : ℕ) → is_swap code ≡ false → a < 2 ^ 64 → b < 2 ^ 64 → alu code width offset (low width a) (low width b) ≡ alu code width offset a b
alu_of_lows code Bits32 offset a b other p q = of_low_halves code offset a b other
alu_of_lows code Bits64 offset a b other p q =
    let first : a % 18446744073709551616 ≡ a = omega arith in
    let second : b % 18446744073709551616 ≡ b = omega arith in
    rw (first, second) refl
