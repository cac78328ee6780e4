-- Facts of each two elements of a list, where an element is put in.
use Rattle.std.proofs.Common.{ℕ, zero, suc, ◌<◌, ◌≤◌, List, [], ◌∷◌, length, take, drop, slice_index_or, All, AllPairs, arith}
use Rattle.std.specs.List.{insert}
use Rattle.std.proofs.lemmas.List.Elements.{All-cons, All-append, All-take, All-drop}
use Rattle.std.proofs.lemmas.List.Kept.{AllPairs-cons}

pub All-insert : {X : Type 0} (P : X → Type 0) (xs : List X) (k : ℕ) (y : X) → P y → All P xs → All P (insert xs k y)
All-insert P xs k y here all = All-append P (take k xs) (y ∷ drop k xs) (All-take P k xs all) (All-cons P y (drop k xs) here (All-drop P k xs all))

pub AllPairs-insert : {X : Type 0} (R : X → X → Type 0) (xs : List X) (k : ℕ) (y : X) → k ≤ length xs → AllPairs R xs
    → ((i : ℕ) (d : X) → i < k → R (slice_index_or xs i d) y) → ((i : ℕ) (d : X) → k ≤ i → i < length xs → R y (slice_index_or xs i d)) → AllPairs R (insert xs k y)
AllPairs-insert R xs zero y h all before following = AllPairs-cons R y xs (λ i d less. following i d (omega arith) less) all
AllPairs-insert R [] (suc k) y h all before following = absurd (omega (arith, h))
AllPairs-insert R (x ∷ xs) (suc k) y h all before following =
    AllPairs-cons R x (insert xs k y)
    (All-insert (R x) xs k y (before 0 y (omega arith)) (λ i d less. all 0 (suc i) d (omega arith) (omega arith)))
    (AllPairs-insert R xs k y (omega arith) (λ i j d less there. all (suc i) (suc j) d (omega arith) (omega arith))
    (λ i d less. before (suc i) d (omega arith)) (λ i d ge less. following (suc i) d (omega arith) (omega arith)))
