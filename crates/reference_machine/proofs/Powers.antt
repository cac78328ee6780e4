-- How large a number of few bytes is, and which bytes it has.
use Rattle.std.proofs.Common.{◌≡◌, ℕ, zero, suc, ◌+◌, ◌*◌, ◌/◌, ◌%◌, ◌^◌, ◌<◌, ◌≤◌, arith, ap, sym, ◌∙◌, refl, lit<}
use Rattle.std.proofs.Math.Nat.{pow-le-pow_right, pow-suc, div-one, div-div-eq-div-mul, mul-le-mul_left}
use Rattle.std.specs.Int.{w64, byte_at, bytes_low_first, to_le_bytes}
use Rattle.host_types.specs.Bytes.{bytes_of}

-- a byte below a number of n bytes makes a number of one byte more
one_more : (byte number n : ℕ) → byte < 256 → number < 256 ^ n → byte + 256 * number < 256 ^ suc n
one_more byte number n low fits =
    let up : 256 * suc number ≤ 256 * 256 ^ n = mul-le-mul_left 256 fits in
    let power : 256 ^ suc n ≡ 256 ^ n * 256 = pow-suc 256 n in
    omega (arith, up, power)

-- a byte below a number of at most seven bytes makes a number of one byte more, and of 64 bits
pub one_more_byte : (byte number n : ℕ) → byte < 256 → n ≤ 7 → number < 256 ^ n → (byte + 256 * number < 256 ^ (n + 1)) × (byte + 256 * number < 2 ^ 64)
one_more_byte byte number n low few fits =
    let more = one_more byte number n low fits in
    let pos : zero < 256 = lit< tt in
    let below : suc n ≤ 8 = omega arith in
    let whole : 256 ^ suc n ≤ 256 ^ 8 = pow-le-pow_right pos below in
    let same : n + 1 ≡ suc n = omega arith in
    (rw same more, omega (arith, more, whole))

-- a byte of a number by its location
byte_is : (i n : ℕ) → byte_at i n ≡ n / 256 ^ i % 256
byte_is zero n = ap (λ (y : ℕ). y % 256) (sym (div-one n))
byte_is (suc i) n = refl

-- the bytes from a location on are those of what stands above the bytes before
bytes_from : (k i n : ℕ) → bytes_low_first i k n ≡ bytes_of k (n / 256 ^ i)
unfolding bytes_of
bytes_from zero i n = refl
bytes_from (suc k) i n =
    let above : n / 256 ^ i / 256 ≡ n / 256 ^ suc i = div-div-eq-div-mul n (256 ^ i) 256 ∙ ap (λ (d : ℕ). n / d) (sym (pow-suc 256 i)) in
    let tail = bytes_from k (suc i) n in
    rw (above, byte_is i n, tail) refl

-- the bytes that std gives of a number of 64 bits
pub le_bytes_are : (n : ℕ) → to_le_bytes w64 n ≡ bytes_of 8 n
le_bytes_are n = bytes_from 8 0 n ∙ ap (bytes_of 8) (div-one n)
