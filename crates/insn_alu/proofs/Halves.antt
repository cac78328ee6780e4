-- Arithmetic on numbers that are small enough, and on the low halves of numbers.
use Rattle.std.proofs.Common.{◌≡◌, ℕ, ◌*◌, ◌%◌, ◌^◌, ◌<◌, ℤ, refl, sym, ap, arith}
use Rattle.std.proofs.lemmas.Nat.{mul-mod}
use Rattle.bpf_decode.specs.declared.operation.Width.{Width}
use Rattle.bpf_decode.specs.declared.operation.Width.TheVariants.{Bits32, Bits64}
use Rattle.bpf_decode.specs.declared.operation.AluCode.{AluCode}
use Rattle.bpf_decode.specs.declared.operation.AluCode.TheVariants.{Add, Sub, Mul, Div, Or, And, Lsh, Rsh, Neg, Mod, Xor, Mov, Arsh, ToLittleEndian, ToBigEndian, SwapBytes}
use Rattle.insn_alu.specs.Arithmetic.{alu, low, modulus, quotient, remainder, moved}

-- a number of the width has no other bits
pub low_of_small : (width : Width) (n : ℕ) → n < modulus width → low width n ≡ n
low_of_small Bits32 n h = omega arith
low_of_small Bits64 n h = omega arith

-- a division of two numbers of the width
pub division : (width : Width) (offset : ℤ) (a b : ℕ) → a < modulus width → b < modulus width → alu Div width offset a b ≡ quotient width offset a b
unfolding alu
division width offset a b p q = rw (low_of_small width a p, low_of_small width b q) refl

-- what is left by it
pub division_leaves : (width : Width) (offset : ℤ) (a b : ℕ) → a < modulus width → b < modulus width → alu Mod width offset a b ≡ remainder width offset a b
unfolding alu
division_leaves width offset a b p q = rw (low_of_small width a p, low_of_small width b q) refl

-- a move of a number of the width
pub number_moved : (width : Width) (offset : ℤ) (a b : ℕ) → b < modulus width → alu Mov width offset a b ≡ moved width offset b
unfolding alu
number_moved width offset a b q = rw (low_of_small width b q) refl

low_of_low : (n : ℕ) → n % 4294967296 % 4294967296 ≡ n % 4294967296
low_of_low n = omega arith

count_of_low : (n : ℕ) → n % 4294967296 % 32 ≡ n % 32
count_of_low n = omega arith

product_of_lows : (a b : ℕ) → (a % 4294967296 * (b % 4294967296)) % 4294967296 ≡ (a * b) % 4294967296
product_of_lows a b = sym (mul-mod a b 4294967296)

product_of_low : (a b : ℕ) → (a % 4294967296 * b) % 4294967296 ≡ (a * b) % 4294967296
product_of_low a b = rw (mul-mod (a % 4294967296) b 4294967296, low_of_low a, ← mul-mod a b 4294967296) refl

-- with 32 bits only the low halves count
pub of_lows : (code : AluCode) (offset : ℤ) (a b : ℕ) → (code ≡ ToLittleEndian → ⊥) → (code ≡ ToBigEndian → ⊥) → (code ≡ SwapBytes → ⊥) → alu code Bits32 offset (a % 4294967296) (b % 4294967296) ≡ alu code Bits32 offset a b
unfolding alu
of_lows Add offset a b p q r = omega arith
of_lows Sub offset a b p q r = rw (low_of_low a, low_of_low b) refl
of_lows Mul offset a b p q r = product_of_lows a b
of_lows Div offset a b p q r = rw (low_of_low a, low_of_low b) refl
of_lows Or offset a b p q r = rw (low_of_low a, low_of_low b) refl
of_lows And offset a b p q r = rw (low_of_low a, low_of_low b) refl
of_lows Lsh offset a b p q r = rw (count_of_low b) (product_of_low a (2 ^ (b % 32)))
of_lows Rsh offset a b p q r = rw (low_of_low a, count_of_low b) refl
of_lows Neg offset a b p q r = rw (low_of_low a) refl
of_lows Mod offset a b p q r = rw (low_of_low a, low_of_low b) refl
of_lows Xor offset a b p q r = rw (low_of_low a, low_of_low b) refl
of_lows Mov offset a b p q r = ap (moved Bits32 offset) (low_of_low b)
of_lows Arsh offset a b p q r = rw (low_of_low a, count_of_low b) refl
of_lows ToLittleEndian offset a b p q r = absurd (p refl)
of_lows ToBigEndian offset a b p q r = absurd (q refl)
of_lows SwapBytes offset a b p q r = absurd (r refl)
