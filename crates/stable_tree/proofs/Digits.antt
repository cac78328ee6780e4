-- What halving makes of the number of binary digits.
use Rattle.std.proofs.Common.{◌≡◌, ℕ, zero, suc, ◌+◌, ◌*◌, ◌^◌, ◌/◌, ◌<◌, ◌≤◌, refl, arith}
use Rattle.stable_tree.specs.Digits.{digits, digits_within}

none-within : (most : ℕ) → digits_within most 0 ≡ 0
unfolding digits_within
none-within zero = refl
none-within (suc most) = refl

never-halved : (n : ℕ) → digits_within 0 n ≡ 0
unfolding digits_within
never-halved n = refl

more-within : (most n : ℕ) → digits_within (suc most) (suc n) ≡ suc (digits_within most (suc n / 2))
unfolding digits_within
more-within most n = refl

-- a number that is greater, halved as often or oftener, has no fewer
digits_within-grows : (least most m n : ℕ) → least ≤ most → m ≤ n → digits_within least m ≤ digits_within most n
digits_within-grows zero most m n le less = let none = never-halved m in omega (arith, none)
digits_within-grows (suc least) zero m n le less = absurd (omega (arith, le))
digits_within-grows (suc least) (suc most) zero n le less = let none = none-within (suc least) in omega (arith, none)
digits_within-grows (suc least) (suc most) (suc m) zero le less = absurd (omega (arith, less))
digits_within-grows (suc least) (suc most) (suc m) (suc n) le less =
    let rest = digits_within-grows least most (suc m / 2) (suc n / 2) (omega (arith, le)) (omega (arith, less)) in
    let one = more-within least m in
    let other = more-within most n in
    omega (arith, rest, one, other)

pub digits-grows : (m n : ℕ) → m ≤ n → digits m ≤ digits n
digits-grows m n le = digits_within-grows m n m n le le

-- a half has one digit fewer
pub digits-half : (m n : ℕ) → 0 < n → m ≤ n / 2 → digits m + 1 ≤ digits n
digits-half m zero some half = absurd (omega (arith, some))
digits-half m (suc n) some half =
    let rest = digits_within-grows m n m (suc n / 2) (omega (arith, half)) half in
    let one = more-within n n in
    omega (arith, rest, one)

pub digits-some : (n : ℕ) → 0 < n → 1 ≤ digits n
digits-some n some = let one = digits-half 0 n some (omega arith) in omega (arith, one)

-- a look at each halving, and one more where there is something to look at
pub looked-twice : (n slot before between after : ℕ) → between ≤ before + digits n → after ≤ between + 1 → (n ≤ slot → after ≡ between) → slot ≤ n → after ≤ before + 2 * digits n
looked-twice zero slot before between after halved one none within = let same = none (omega arith) in omega (arith, halved, same)
looked-twice (suc n) slot before between after halved one none within = let some = digits-some (suc n) (omega arith) in omega (arith, halved, one, some)

-- a number is below the power of two that its digits make
below-within : (most n : ℕ) → n ≤ most → n < 2 ^ digits_within most n
unfolding digits_within
below-within zero zero le = omega arith
below-within zero (suc n) le = absurd (omega (arith, le))
below-within (suc most) zero le = omega arith
below-within (suc most) (suc n) le =
    let rest = below-within most (suc n / 2) (omega (arith, le)) in
    let twice : 2 ^ suc (digits_within most (suc n / 2)) ≡ 2 ^ digits_within most (suc n / 2) + 2 ^ digits_within most (suc n / 2) = grind arith in
    omega (arith, rest, twice)

pub below-digits : (n : ℕ) → n < 2 ^ digits n
below-digits n = below-within n n (omega arith)
