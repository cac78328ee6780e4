-- The bits of a signed quotient: they are read back as they were written.
use Rattle.std.proofs.Common.{◌≡◌, ◌∙◌, ap, ℕ, suc, zero, ◌/◌, ◌^◌, ◌<◌, ◌≤◌, ℤ, pos, negsuc, neg_ℤ, FitsSigned, arith}
use Rattle.std.proofs.Math.Nat.{div-le_self, le_trans}
use Rattle.std.proofs.Math.Facts.{sfits_to_z}
use mir.Val.{bits}
use Rattle.std.specs.Int.{Width, w32, w64, cast_signed, cast_unsigned, int_wrapping_div}
use Rattle.std.specs.Int.Signed.{quot_z}
use Rattle.std.proofs.lemmas.Int.{of_z-to_z}

-- how large a signed number is
abbrev pub size_of : ℤ → ℕ
size_of (pos n) = n
size_of (negsuc n) = suc n

pub negated_size : (q a : ℕ) → q ≤ a → size_of (neg_ℤ (pos q)) ≤ a
negated_size zero a h = h
negated_size (suc q) a h = h

-- a quotient isn't larger than what is divided
pub quotient_size : (x y : ℤ) → size_of (quot_z x y) ≤ size_of x
quotient_size (pos a) (pos b) = div-le_self a b
quotient_size (pos a) (negsuc b) = negated_size (a / suc b) a (div-le_self a (suc b))
quotient_size (negsuc a) (pos b) = negated_size (suc a / b) (suc a) (div-le_self (suc a) b)
quotient_size (negsuc a) (negsuc b) = div-le_self (suc a) (suc b)

pub size_64 : (z : ℤ) → FitsSigned w64 z → size_of z ≤ 9223372036854775808
size_64 (pos n) h = omega arith
size_64 (negsuc n) h = omega arith

pub size_32 : (z : ℤ) → FitsSigned w32 z → size_of z ≤ 2147483648
size_32 (pos n) h = omega arith
size_32 (negsuc n) h = omega arith

below_64 : (z : ℤ) → size_of z ≤ 9223372036854775808 → cast_unsigned w64 z < 2 ^ 64
below_64 (pos n) h = omega arith
below_64 (negsuc n) h = omega arith

below_32 : (z : ℤ) → size_of z ≤ 2147483648 → cast_unsigned w32 z < 2 ^ 32
below_32 (pos n) h = omega arith
below_32 (negsuc n) h = omega arith

-- the bits of a quotient, where they are bits of the width, stay as they were written, however often they are read
quotient_read : (w : Width) (a b : ℕ) → a < 2 ^ bits w → b < 2 ^ bits w → cast_unsigned w (quot_z (cast_signed w a) (cast_signed w b)) < 2 ^ bits w
    → cast_unsigned w (cast_signed w (cast_unsigned w (int_wrapping_div w (cast_signed w (cast_unsigned w (cast_signed w a))) (cast_signed w (cast_unsigned w (cast_signed w b)))))) ≡ cast_unsigned w (quot_z (cast_signed w a) (cast_signed w b))
quotient_read w a b p q fits =
    rw (of_z-to_z w a p, of_z-to_z w b q)
    (ap (λ k. cast_unsigned w (cast_signed w k)) back ∙ back)
  where
    back : cast_unsigned w (int_wrapping_div w (cast_signed w a) (cast_signed w b)) ≡ cast_unsigned w (quot_z (cast_signed w a) (cast_signed w b))
    back = of_z-to_z w (cast_unsigned w (quot_z (cast_signed w a) (cast_signed w b))) fits

pub quotient_64 : (a b : ℕ) → a < 2 ^ 64 → b < 2 ^ 64 → cast_unsigned w64 (cast_signed w64 (cast_unsigned w64 (int_wrapping_div w64 (cast_signed w64 (cast_unsigned w64 (cast_signed w64 a))) (cast_signed w64 (cast_unsigned w64 (cast_signed w64 b)))))) ≡ cast_unsigned w64 (quot_z (cast_signed w64 a) (cast_signed w64 b))
quotient_64 a b p q = quotient_read w64 a b p q (below_64 (quot_z (cast_signed w64 a) (cast_signed w64 b)) (le_trans (quotient_size (cast_signed w64 a) (cast_signed w64 b)) (size_64 (cast_signed w64 a) (sfits_to_z (record { fits = p })))))

pub quotient_32 : (a b : ℕ) → a < 2 ^ 32 → b < 2 ^ 32 → cast_unsigned w32 (cast_signed w32 (cast_unsigned w32 (int_wrapping_div w32 (cast_signed w32 (cast_unsigned w32 (cast_signed w32 a))) (cast_signed w32 (cast_unsigned w32 (cast_signed w32 b)))))) ≡ cast_unsigned w32 (quot_z (cast_signed w32 a) (cast_signed w32 b))
quotient_32 a b p q = quotient_read w32 a b p q (below_32 (quot_z (cast_signed w32 a) (cast_signed w32 b)) (le_trans (quotient_size (cast_signed w32 a) (cast_signed w32 b)) (size_32 (cast_signed w32 a) (sfits_to_z (record { fits = p })))))
