-- Bytes folded into a fingerprint sixteen at once: joined two by two to digits of larger bases, by vectors.
use Rattle.std.proofs.Common.{◌≡◌, ℕ, zero, suc, ◌+◌, ◌*◌, ◌<◌, ◌%◌, ◌^◌, List, [], ◌∷◌, ◌++◌, length, fold, replicate, slice_index_or, refl, sym, ap, ◌∙◌, arith, w8, w32, Fits}
use lib.Lanes.{zip2, dots, Each1}
use borrow.Rule.Simd.Lanes.{act2}
use borrow.Table.Row.{s_int}
use mir.Syntax.{wrap_add, wrap_mul}
use Rattle.host_types.specs.Pages.{folded}
use Rattle.frame_arena.specs.Digits.{digit_pairs}

-- ---- lists by cuts of four

-- what holds of each list of four numbers and n others holds of each list as long
of_four : (n : ℕ) (P : List ℕ → Type 0) → ((a b c d : ℕ) (ys : List ℕ) → length ys ≡ n → P (a ∷ b ∷ c ∷ d ∷ ys)) → (xs : List ℕ) → length xs ≡ 4 + n → P xs
of_four n P holds [] e = absurd (omega (arith, e))
of_four n P holds (a ∷ []) e = absurd (omega (arith, e))
of_four n P holds (a ∷ b ∷ []) e = absurd (omega (arith, e))
of_four n P holds (a ∷ b ∷ c ∷ []) e = absurd (omega (arith, e))
of_four n P holds (a ∷ b ∷ c ∷ d ∷ ys) e = holds a b c d ys (omega (arith, e))

of_eight : (n : ℕ) (P : List ℕ → Type 0) → ((a b c d e g h i : ℕ) (ys : List ℕ) → length ys ≡ n → P (a ∷ b ∷ c ∷ d ∷ e ∷ g ∷ h ∷ i ∷ ys)) → (xs : List ℕ) → length xs ≡ 8 + n → P xs
of_eight n P holds xs long =
    of_four (4 + n) P (λ a b c d. of_four n (λ ys. P (a ∷ b ∷ c ∷ d ∷ ys)) (λ e g h i. holds a b c d e g h i)) xs (omega (arith, long))

-- ---- four digits by two products of bytes

-- the same four weights for each four bytes
abbrev weights : ℕ → List ℕ → List ℕ
weights zero four = []
weights (suc n) four = four ++ weights n four

abbrev sum32 : ℕ → ℕ → ℕ
sum32 = act2 wrap_add (s_int w32) (s_int w32) (s_int w32)

abbrev product32 : ℕ → ℕ → ℕ
product32 = act2 wrap_mul (s_int w32) (s_int w32) (s_int w32)

-- four bytes in one lane: nothing wraps
one_lane : (a b c d : ℕ) → a < 256 → b < 256 → c < 256 → d < 256
    → sum32 (product32 (a * 31 + b * 1 + (c * 0 + d * 0)) 961) (a * 0 + b * 0 + (c * 31 + d * 1)) ≡ (a * 31 + b) * 961 + (c * 31 + d)
one_lane a b c d a_fits b_fits c_fits d_fits = omega arith

pub lanes-digit_pairs : (n : ℕ) (xs : List ℕ) → length xs ≡ 4 * n → Each1 (Fits w8) xs
    → zip2 sum32 (zip2 product32 (dots xs (weights n (31 ∷ 1 ∷ 0 ∷ 0 ∷ []))) (replicate n 961)) (dots xs (weights n (0 ∷ 0 ∷ 31 ∷ 1 ∷ []))) ≡ digit_pairs 961 (digit_pairs 31 xs)
lanes-digit_pairs zero [] e fits = refl
lanes-digit_pairs zero (a ∷ xs) e fits = absurd (omega (arith, e))
lanes-digit_pairs (suc n) [] e fits = absurd (omega (arith, e))
lanes-digit_pairs (suc n) (a ∷ []) e fits = absurd (omega (arith, e))
lanes-digit_pairs (suc n) (a ∷ b ∷ []) e fits = absurd (omega (arith, e))
lanes-digit_pairs (suc n) (a ∷ b ∷ c ∷ []) e fits = absurd (omega (arith, e))
lanes-digit_pairs (suc n) (a ∷ b ∷ c ∷ d ∷ xs) e fits =
    let rest = lanes-digit_pairs n xs (omega (arith, e)) fits.1.1.1.1 in
    rw (one_lane a b c d fits.0.fits fits.1.0.fits fits.1.1.0.fits fits.1.1.1.0.fits, rest) refl

-- ---- a fingerprint with digits of a larger base folded in

-- the number of eight digits to base 31
abbrev digit : (a b c d e g h i : ℕ) → ℕ
digit a b c d e g h i = ((a * 31 + b) * 961 + (c * 31 + d)) * 923521 + ((e * 31 + g) * 961 + (h * 31 + i))

-- four bytes
four : (f a b c d : ℕ) → folded (folded (folded (folded f a) b) c) d ≡ (923521 * f + ((a * 31 + b) * 961 + (c * 31 + d))) % 2 ^ 64
four f a b c d = omega arith

-- a digit after another, to base 31^4
twice : (f s t : ℕ) → (923521 * ((923521 * f + s) % 2 ^ 64) + t) % 2 ^ 64 ≡ (852891037441 * f + (s * 923521 + t)) % 2 ^ 64
twice f s t = omega arith

-- eight bytes
eight : (f a b c d e g h i : ℕ) → fold folded f (a ∷ b ∷ c ∷ d ∷ e ∷ g ∷ h ∷ i ∷ []) ≡ (852891037441 * f + digit a b c d e g h i) % 2 ^ 64
eight f a b c d e g h i =
    let s : ℕ = (a * 31 + b) * 961 + (c * 31 + d) in
    let t : ℕ = (e * 31 + g) * 961 + (h * 31 + i) in
    four (folded (folded (folded (folded f a) b) c) d) e g h i
    ∙ ap (λ (x : ℕ). (923521 * x + t) % 2 ^ 64) (four f a b c d)
    ∙ twice f s t

-- a digit after another, to base 31^8, as the code adds them
following : (f s t : ℕ) → (852891037441 * ((852891037441 * f + s) % 2 ^ 64) + t) % 2 ^ 64 ≡ (f * 12662688596514954753 % 2 ^ 64 + (s * 852891037441 % 2 ^ 64 + t) % 2 ^ 64) % 2 ^ 64
following f s t = omega arith

-- the digits to base 31^8 of bytes
abbrev eights : List ℕ → List ℕ
eights xs = digit_pairs 923521 (digit_pairs 961 (digit_pairs 31 xs))

-- the last eight bytes of a list
last-eight : (f : ℕ) (xs : List ℕ) → length xs ≡ 8 → fold folded f xs ≡ (852891037441 * f + slice_index_or (eights xs) 0 0) % 2 ^ 64
last-eight f xs long =
    of_eight 0 (λ xs. fold folded f xs ≡ (852891037441 * f + slice_index_or (eights xs) 0 0) % 2 ^ 64) no_more xs long
  where
    no_more : (a b c d e g h i : ℕ) (ys : List ℕ) → length ys ≡ 0 → fold folded f (a ∷ b ∷ c ∷ d ∷ e ∷ g ∷ h ∷ i ∷ ys) ≡ (852891037441 * f + slice_index_or (eights (a ∷ b ∷ c ∷ d ∷ e ∷ g ∷ h ∷ i ∷ ys)) 0 0) % 2 ^ 64
    no_more a b c d e g h i [] none = eight f a b c d e g h i
    no_more a b c d e g h i (y ∷ ys) none = absurd (omega (arith, none))

pub fold-sixteen : (f : ℕ) (xs : List ℕ) → length xs ≡ 16
    → (f * 12662688596514954753 % 2 ^ 64 + (slice_index_or (eights xs) 0 0 * 852891037441 % 2 ^ 64 + slice_index_or (eights xs) 1 0) % 2 ^ 64) % 2 ^ 64 ≡ fold folded f xs
fold-sixteen f xs long =
    of_eight 8 (λ xs. (f * 12662688596514954753 % 2 ^ 64 + (slice_index_or (eights xs) 0 0 * 852891037441 % 2 ^ 64 + slice_index_or (eights xs) 1 0) % 2 ^ 64) % 2 ^ 64 ≡ fold folded f xs)
    (λ a b c d e g h i ys more.
    let t : ℕ = slice_index_or (eights ys) 0 0 in
    sym (last-eight (fold folded f (a ∷ b ∷ c ∷ d ∷ e ∷ g ∷ h ∷ i ∷ [])) ys more
    ∙ ap (λ (x : ℕ). (852891037441 * x + t) % 2 ^ 64) (eight f a b c d e g h i)
    ∙ following f (digit a b c d e g h i) t)) xs long
