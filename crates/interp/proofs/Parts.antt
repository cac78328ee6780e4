-- Elements of parts of lists.
use Rattle.std.proofs.Common.{◌≡◌, ◌≤◌, ◌<◌, ℕ, suc, ◌+◌, ◌-◌, List, [], ◌∷◌, length, take, drop, get_or, IsSome, Option, Some, None, refl, ◌∙◌, arith, length-append}
use Rattle.std.proofs.lemmas.List.{length-take-le, get_or-take, get_or-drop, get_or_append_left, get_or-append_right}
use Rattle.host_types.specs.Bytes.{part_of, with_part}
use Rattle.host_types.specs.Memory.{all_set}

-- an element of a part
pub part-at : {X : Type 0} (xs : List X) (at size i : ℕ) (d : X) → i < size → get_or (part_of xs at size) i d ≡ get_or xs (at + i) d
unfolding part_of
part-at xs at size i d h = get_or-take size (drop at xs) i d h ∙ get_or-drop at xs i d

-- an element before the part that was put in
pub with_part-at_before : {X : Type 0} (xs : List X) (at : ℕ) (part : List X) (i : ℕ) (d : X) → at ≤ length xs → i < at → get_or (with_part xs at part) i d ≡ get_or xs i d
unfolding with_part
with_part-at_before xs at part i d within h = grind (arith, length-take-le, get_or_append_left, drop, length, length-append, take, get_or-take)

-- an element that was put in
pub with_part-at_inside : {X : Type 0} (xs : List X) (at : ℕ) (part : List X) (i : ℕ) (d : X) → at ≤ length xs → at ≤ i → i < at + length part → get_or (with_part xs at part) i d ≡ get_or part (i - at) d
unfolding with_part
with_part-at_inside xs at part i d within h less = grind (arith, length-take-le, get_or_append_left, drop, length, length-append, get_or-append_right, take)

-- an element after the part that was put in
pub with_part-at_following : {X : Type 0} (xs : List X) (at : ℕ) (part : List X) (i : ℕ) (d : X) → at ≤ length xs → at + length part ≤ i → get_or (with_part xs at part) i d ≡ get_or xs i d
unfolding with_part
with_part-at_following xs at part i d within h = grind (arith, length-take-le, length, get_or-append_right, drop, length-append, get_or-drop)

-- where each element is there, all are
pub all_there : (xs : List (Option ℕ)) → ((i : ℕ) → i < length xs → IsSome (get_or xs i None)) → (given : List ℕ) × (all_set xs ≡ Some given)
unfolding all_set
all_there [] h = ([], refl)
all_there (None ∷ xs) h = let none = h 0 (omega arith) in absurd (cc)
all_there (Some x ∷ xs) h = let (given, is) = all_there xs (λ i less. h (suc i) (omega arith)) in (x ∷ given, rw is)
