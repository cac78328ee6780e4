-- What stands at an index of a list.
use Rattle.std.proofs.Common.{◌≡◌, ◌∙◌, ◌<◌, ◌≤◌, ◌+◌, ℕ, zero, suc, List, [], ◌∷◌, ◌++◌, length, get_or, map, take, drop, take-append-drop, ap, refl, sym, Some, None, arith}
use Rattle.std.specs.Prelude.{IfSome, slice_get}
use Rattle.std.proofs.lemmas.List.{drop_more}

-- what an element is mapped to
pub at-mapped : {X Y : Type 0} (f : X → Y) (xs : List X) (index : ℕ) (x : X) → index < length xs → slice_get (map f xs) index ≡ Some (f (get_or xs index x))
at-mapped f [] index x within = absurd (omega (arith, within))
at-mapped f (first ∷ xs) zero x within = refl
at-mapped f (first ∷ xs) (suc index) x within = at-mapped f xs index x (omega (arith, within))

-- past the end there is nothing
pub past-mapped : {X Y : Type 0} (f : X → Y) (xs : List X) (index : ℕ) → length xs ≤ index → slice_get (map f xs) index ≡ None
past-mapped f [] zero past = refl
past-mapped f [] (suc index) past = refl
past-mapped f (first ∷ xs) zero past = absurd (omega (arith, past))
past-mapped f (first ∷ xs) (suc index) past = past-mapped f xs index (omega (arith, past))

-- what holds of each element by its index holds of what it is mapped to
pub each-at : {X Y : Type 0} (f : X → Y) (P : ℕ → Y → Type 0) (xs : List X) → ((t : ℕ) (x : X) → t < length xs → P t (f (get_or xs t x))) → (t : ℕ) → IfSome (slice_get (map f xs) t) (P t)
each-at f P [] each zero = tt
each-at f P [] each (suc t) = tt
each-at f P (x ∷ xs) each zero = each 0 x (omega arith)
each-at f P (x ∷ xs) each (suc t) = each-at f (λ n. P (suc n)) xs (λ n y within. each (suc n) y (omega (arith, within))) t

-- what holds of what is there holds at each index
pub index-of : {X : Type 0} (P : ℕ → X → Type 0) (xs : List X) → ((t : ℕ) → IfSome (slice_get xs t) (P t)) → (t : ℕ) (x : X) → t < length xs → P t (get_or xs t x)
index-of P [] each t x within = absurd (omega (arith, within))
index-of P (first ∷ xs) each zero x within = each 0
index-of P (first ∷ xs) each (suc t) x within = index-of (λ n. P (suc n)) xs (λ n. each (suc n)) t x (omega (arith, within))

-- twice mapped
pub mapped-twice : {X Y Z : Type 0} (g : Y → Z) (f : X → Y) (xs : List X) → map g (map f xs) ≡ map (λ x. g (f x)) xs
mapped-twice g f [] = refl
mapped-twice g f (x ∷ xs) = ap (λ rest. g (f x) ∷ rest) (mapped-twice g f xs)

-- what stands before an index, at it and after it
pub split-at : {X : Type 0} (xs : List X) (index : ℕ) (x : X) → index < length xs → xs ≡ take index xs ++ get_or xs index x ∷ drop (index + 1) xs
split-at xs index x within =
    sym (take-append-drop index xs) ∙ ap (λ rest. take index xs ++ rest) (drop_more xs index x within)
