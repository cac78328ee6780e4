-- The next page that may be merged.
use Rattle.std.proofs.Common.{◌≡◌, ◌∙◌, ℕ, zero, suc, ◌+◌, ◌<◌, ◌≤◌, Bool, true, false, if◌then◌else◌, List, [], ◌∷◌, drop, length, slice_index_or, Option, Some, None, refl, ap, arith}
use Rattle.host_types.specs.Sharing.{PageState}
use Rattle.host_types.specs.Visits.{is_mergeable, first_mergeable}

rest_from : (pages : List (Option PageState)) (n : ℕ) → n < length pages → drop n pages ≡ slice_index_or pages n None ∷ drop (n + 1) pages
rest_from [] n h = absurd (omega arith)
rest_from (x ∷ xs) zero h = refl
rest_from (x ∷ xs) (suc n) h = let next : suc n + 1 ≡ suc (n + 1) = omega arith in rw next (rest_from xs n (omega arith))

-- a page that may not be merged is passed over
pub next-after : (pages : List (Option PageState)) (n : ℕ) → n < length pages → is_mergeable (slice_index_or pages n None) ≡ false → first_mergeable n (drop n pages) ≡ first_mergeable (n + 1) (drop (n + 1) pages)
unfolding first_mergeable
next-after pages n h apart = ap (first_mergeable n) (rest_from pages n h) ∙ ap (λ (b : Bool). if b then Some n else first_mergeable (n + 1) (drop (n + 1) pages)) apart

pub next-here : (pages : List (Option PageState)) (n : ℕ) → n < length pages → is_mergeable (slice_index_or pages n None) ≡ true → first_mergeable n (drop n pages) ≡ Some n
unfolding first_mergeable
next-here pages n h may = ap (first_mergeable n) (rest_from pages n h) ∙ ap (λ (b : Bool). if b then Some n else first_mergeable (n + 1) (drop (n + 1) pages)) may

pub next-none : (pages : List (Option PageState)) (n : ℕ) → length pages ≤ n → first_mergeable n (drop n pages) ≡ None
unfolding first_mergeable
next-none [] zero h = refl
next-none [] (suc n) h = refl
next-none (x ∷ xs) zero h = absurd (omega arith)
next-none (x ∷ xs) (suc n) h = none (drop n xs) (empty xs n (omega arith))
  where
    empty : (ys : List (Option PageState)) (m : ℕ) → length ys ≤ m → drop m ys ≡ []
    empty [] zero h = refl
    empty [] (suc m) h = refl
    empty (y ∷ ys) zero h = absurd (omega arith)
    empty (y ∷ ys) (suc m) h = empty ys m (omega arith)

    none : (ys : List (Option PageState)) → ys ≡ [] → first_mergeable (suc n) ys ≡ None
    none ys e = ap (first_mergeable (suc n)) e
