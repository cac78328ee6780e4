-- Bytes that are copied where they are set.
use Rattle.std.proofs.Common.{◌≡◌, ℕ, zero, suc, ◌<◌, List, [], ◌∷◌, length, slice_index, slice_index_or, Option, Some, None, refl, arith}
use Rattle.host_types.specs.Memory.{all_set}

-- the bytes before a location are set, and these are their values
pub record AreCopied (bytes : List (Option ℕ)) (values : List ℕ) (at : ℕ) : Type 0 where
  pub sized : length values ≡ length bytes
  pub each : (i : ℕ) → i < at → slice_index_or bytes i None ≡ Some (slice_index values i)

-- all of them
pub all_copied : (bytes : List (Option ℕ)) (values : List ℕ) → AreCopied bytes values (length bytes) → all_set bytes ≡ Some values
unfolding all_set
all_copied [] [] h = refl
all_copied [] (y ∷ ys) h = absurd (omega (arith, h.sized))
all_copied (x ∷ xs) [] h = absurd (omega (arith, h.sized))
all_copied (x ∷ xs) (y ∷ ys) h =
    let first : x ≡ Some y = h.each 0 (omega arith) in
    let rest : all_set xs ≡ Some ys = all_copied xs ys (record { sized = omega (arith, h.sized); each = λ i less. h.each (suc i) (omega arith) }) in
    rw (first, rest) refl

-- one that isn't set
pub not_set : (bytes : List (Option ℕ)) (i : ℕ) → i < length bytes → slice_index_or bytes i None ≡ None → all_set bytes ≡ None
unfolding all_set
not_set [] i less e = absurd (omega arith)
not_set (x ∷ xs) zero less e = rw e refl
not_set (None ∷ xs) (suc i) less e = refl
not_set (Some x ∷ xs) (suc i) less e = let rest = not_set xs i (omega arith) e in rw rest refl
