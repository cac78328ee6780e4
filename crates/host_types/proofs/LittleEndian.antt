-- Numbers and their bytes.
use Rattle.std.specs.Prelude.{◌≡◌, ℕ, zero, suc, ◌+◌, ◌*◌, ◌/◌, ◌%◌, ◌^◌, ◌<◌, List, [], ◌∷◌, length, All, refl}
use Rattle.std.specs.Int.{byte_at, bytes_low_first}
use Rattle.std.proofs.Common.{arith, ap, sym, ◌∙◌}
use Rattle.std.proofs.Math.Nat.{div-one, div-div-eq-div-mul, pow-suc}
use Rattle.std.proofs.lemmas.List.Elements.{All-cons, All-nil, All-head, All-tail}
use Rattle.host_types.specs.Bytes.{number_of, bytes_of}

-- n bytes of a number
pub length-bytes_of : (n number : ℕ) → length (bytes_of n number) ≡ n
unfolding bytes_of
length-bytes_of zero number = refl
length-bytes_of (suc n) number = ap suc (length-bytes_of n (number / 256))

-- each byte is below 256
pub bytes_of-small : (n number : ℕ) → All (λ byte. byte < 256) (bytes_of n number)
unfolding bytes_of
bytes_of-small zero number = All-nil (λ byte. byte < 256)
bytes_of-small (suc n) number = All-cons (λ byte. byte < 256) (number % 256) (bytes_of n (number / 256)) (omega arith) (bytes_of-small n (number / 256))

-- bytes of a number that fits in them give it back
pub number_of-bytes_of : (n number : ℕ) → number < 256 ^ n → number_of (bytes_of n number) ≡ number
unfolding number_of bytes_of
number_of-bytes_of zero number h = omega arith
number_of-bytes_of (suc n) number h = let rest = number_of-bytes_of n (number / 256) (omega arith) in omega arith

-- the number of n bytes is below 256 to the power n
pub number_of-small : (bytes : List ℕ) → All (λ byte. byte < 256) bytes → number_of bytes < 256 ^ length bytes
unfolding number_of
number_of-small [] h = omega arith
number_of-small (byte ∷ bytes) h =
    let first = All-head (λ byte. byte < 256) byte bytes h in
    let rest = number_of-small bytes (All-tail (λ byte. byte < 256) byte bytes h) in
    let more : byte + 256 * number_of bytes < 256 ^ suc (length bytes) = omega arith in
    more

-- a byte of a number, by its index
byte_at-pow : (k x : ℕ) → byte_at k x ≡ x / 256 ^ k % 256
byte_at-pow zero x = ap (λ (y : ℕ). y % 256) (sym (div-one x))
byte_at-pow (suc k) x = refl

-- the n bytes of a number from byte i
bytes_low_first-shifted : (i n x : ℕ) → bytes_low_first i n x ≡ bytes_of n (x / 256 ^ i)
unfolding bytes_of
bytes_low_first-shifted i zero x = refl
bytes_low_first-shifted i (suc n) x =
    let shift : x / 256 ^ suc i ≡ x / 256 ^ i / 256 =
    ap (λ (p : ℕ). x / p) (pow-suc 256 i) ∙ sym (div-div-eq-div-mul x (256 ^ i) 256) in
    let rest = bytes_low_first-shifted (suc i) n x in
    rw (byte_at-pow i x, rest, shift) refl

-- the lowest n bytes of a number, as std names them
pub bytes_low_first-bytes_of : (n x : ℕ) → bytes_low_first 0 n x ≡ bytes_of n x
bytes_low_first-bytes_of n x = bytes_low_first-shifted 0 n x ∙ ap (bytes_of n) (div-one x)

-- the lowest two and four bytes of a number don't depend on what is above them
pub bytes_of-two : (x : ℕ) → bytes_of 2 (x % 65536) ≡ bytes_of 2 x
unfolding bytes_of
bytes_of-two x =
    let a : x % 65536 % 256 ≡ x % 256 = omega arith in
    let b : x % 65536 / 256 % 256 ≡ x / 256 % 256 = omega arith in
    rw (a, b) refl

pub bytes_of-four : (x : ℕ) → bytes_of 4 (x % 4294967296) ≡ bytes_of 4 x
unfolding bytes_of
bytes_of-four x =
    let a : x % 4294967296 % 256 ≡ x % 256 = omega arith in
    let b : x % 4294967296 / 256 % 256 ≡ x / 256 % 256 = omega arith in
    let c : x % 4294967296 / 256 / 256 % 256 ≡ x / 256 / 256 % 256 = omega arith in
    let d : x % 4294967296 / 256 / 256 / 256 % 256 ≡ x / 256 / 256 / 256 % 256 = omega arith in
    rw (a, b, c, d) refl
