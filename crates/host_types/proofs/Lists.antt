-- Parts of lists, and lists of which each element is there or not.
use Rattle.std.specs.Prelude.{◌≡◌, ℕ, zero, suc, ◌+◌, ◌≤◌, List, [], ◌∷◌, ◌++◌, take, drop, length, map, slice_index_or, All, IfSome, Option, Some, None, refl, replicate}
use Rattle.std.proofs.Common.{arith, sym, ap, ◌∙◌}
use Rattle.std.proofs.lemmas.List.{append_assoc, length-append, length-take, length-drop, length-take-le, drop_at, take_at, drop-append-le, take-append-le, drop-take, take-take, drop-drop}
use Rattle.std.proofs.lemmas.List.Elements.{All-cons, All-nil, All-head, All-tail}
use Rattle.host_types.specs.Bytes.{part_of, with_part}
use Rattle.host_types.specs.Memory.{all_set, ◌>>=◌}

-- a part that is whole in a list has its size
pub length-part_of : {X : Type 0} (xs : List X) (at size : ℕ) → at + size ≤ length xs → length (part_of xs at size) ≡ size
unfolding part_of
length-part_of xs at size h = let e = length-drop at xs in length-take-le size (drop at xs) (omega arith)

-- a list with a part replaced keeps its length
pub length-with_part : {X : Type 0} (xs : List X) (at : ℕ) (part : List X) → at + length part ≤ length xs → length (with_part xs at part) ≡ length xs
unfolding with_part
length-with_part xs at part h = simp (length-append, length-take, length-drop) (omega arith)

-- the part that was put in
pub part-with_part_same : {X : Type 0} (xs : List X) (at : ℕ) (part : List X) (size : ℕ) → length part ≡ size → at + size ≤ length xs → part_of (with_part xs at part) at size ≡ part
unfolding part_of with_part
part-with_part_same xs at part size e h =
    let front = length-take-le at xs (omega arith) in
    rw (append_assoc, drop_at (take at xs) (part ++ drop (at + length part) xs) at front, take_at part (drop (at + length part) xs) size e)

-- a part before the one that was put in
pub part-with_part_before : {X : Type 0} (xs part : List X) (from size m : ℕ) → size ≤ m → from + m ≤ length xs → part_of (with_part xs (from + m) part) from size ≡ part_of xs from size
unfolding part_of with_part
part-with_part_before xs part from size m small h =
    let following : List _ = part ++ drop (from + m + length part) xs in
    let front = length-take-le (from + m) xs h in
    let left = length-drop from xs in
    let middle = length-take-le m (drop from xs) (omega arith) in
    ap (take size) (ap (drop from) (append_assoc (take (from + m) xs) part (drop (from + m + length part) xs))
    ∙ drop-append-le from (take (from + m) xs) following (omega arith)
    ∙ ap (λ l. l ++ following) (drop-take from m xs))
    ∙ take-append-le size (take m (drop from xs)) following (omega arith)
    ∙ take-take size m (drop from xs) small

-- a part after the one that was put in
pub part-with_part_following : {X : Type 0} (xs : List X) (at : ℕ) (part : List X) (size m : ℕ) → at + length part ≤ length xs → part_of (with_part xs at part) (at + length part + m) size ≡ part_of xs (at + length part + m) size
unfolding part_of with_part
part-with_part_following xs at part size m h =
    let front : length (take at xs ++ part) ≡ at + length part = simp (length-append, length-take) (omega arith) in
    let rest = drop_at (take at xs ++ part) (drop (at + length part) xs) (at + length part) front in
    ap (take size) (sym (drop-drop m (at + length part) (take at xs ++ part ++ drop (at + length part) xs)) ∙ ap (drop m) rest ∙ drop-drop m (at + length part) xs)

-- each number that is there meets a condition
abbrev pub Each : (ℕ → Type 0) → List (Option ℕ) → Type 0
Each P xs = (i : ℕ) → IfSome (slice_index_or xs i None) P

pub Each-cons : (P : ℕ → Type 0) (x : Option ℕ) (xs : List (Option ℕ)) → IfSome x P → Each P xs → Each P (x ∷ xs)
Each-cons P x xs h hs zero = h
Each-cons P x xs h hs (suc i) = hs i

pub Each-tail : (P : ℕ → Type 0) (x : Option ℕ) (xs : List (Option ℕ)) → Each P (x ∷ xs) → Each P xs
Each-tail P x xs h i = h (suc i)

pub Each-append : (P : ℕ → Type 0) (xs ys : List (Option ℕ)) → Each P xs → Each P ys → Each P (xs ++ ys)
Each-append P [] ys h k = k
Each-append P (x ∷ xs) ys h k = Each-cons P x (xs ++ ys) (h 0) (Each-append P xs ys (Each-tail P x xs h) k)

pub Each-take : (P : ℕ → Type 0) (n : ℕ) (xs : List (Option ℕ)) → Each P xs → Each P (take n xs)
Each-take P zero xs h i = tt
Each-take P (suc n) [] h i = tt
Each-take P (suc n) (x ∷ xs) h i = Each-cons P x (take n xs) (h 0) (Each-take P n xs (Each-tail P x xs h)) i

pub Each-drop : (P : ℕ → Type 0) (n : ℕ) (xs : List (Option ℕ)) → Each P xs → Each P (drop n xs)
Each-drop P zero xs h i = h i
Each-drop P (suc n) [] h i = tt
Each-drop P (suc n) (x ∷ xs) h i = Each-drop P n xs (Each-tail P x xs h) i

pub Each-with_part : (P : ℕ → Type 0) (xs : List (Option ℕ)) (at : ℕ) (part : List (Option ℕ)) → Each P xs → Each P part → Each P (with_part xs at part)
unfolding with_part
Each-with_part P xs at part h k =
    Each-append P (take at xs ++ part) (drop (at + length part) xs) (Each-append P (take at xs) part (Each-take P at xs h) k) (Each-drop P (at + length part) xs h)

pub Each-part_of : (P : ℕ → Type 0) (xs : List (Option ℕ)) (at size : ℕ) → Each P xs → Each P (part_of xs at size)
unfolding part_of
Each-part_of P xs at size h = Each-take P size (drop at xs) (Each-drop P at xs h)

pub Each-map_Some : (P : ℕ → Type 0) (xs : List ℕ) → All P xs → Each P (map Some xs)
Each-map_Some P [] h i = tt
Each-map_Some P (x ∷ xs) h i = Each-cons P (Some x) (map Some xs) (All-head P x xs h) (Each-map_Some P xs (All-tail P x xs h)) i

pub All-from_Each : (P : ℕ → Type 0) (xs : List ℕ) → Each P (map Some xs) → All P xs
All-from_Each P [] h = All-nil P
All-from_Each P (x ∷ xs) h = All-cons P x xs (h 0) (All-from_Each P xs (Each-tail P (Some x) (map Some xs) h))

-- a list of values that are there is there
pub all_set-map_Some : {X : Type 0} (xs : List X) → all_set (map Some xs) ≡ Some xs
unfolding all_set
all_set-map_Some [] = refl
all_set-map_Some (x ∷ xs) = rw (all_set-map_Some xs)

-- where all are there, the list is that of these values
pub map_Some-from_all_set : {X : Type 0} (xs : List (Option X)) (ys : List X) → all_set xs ≡ Some ys → xs ≡ map Some ys
unfolding all_set
map_Some-from_all_set [] ys e = let same : [] ≡ ys = cc in rw (← same)
map_Some-from_all_set (None ∷ xs) ys e = cc
map_Some-from_all_set (Some x ∷ xs) ys e = by_rest (map_Some-from_all_set xs) (all_set xs) refl e
  where
    by_rest : ((zs : List _) → all_set xs ≡ Some zs → xs ≡ map Some zs) → (o : Option (List _)) → all_set xs ≡ o → (o >>= λ rest. Some (x ∷ rest)) ≡ Some ys → Some x ∷ xs ≡ map Some ys
    by_rest known None q e = cc
    by_rest known (Some rest) q e = let same : x ∷ rest ≡ ys = cc in rw (← same) (ap (λ l. Some x ∷ l) (known rest q))

-- the same element again and again, mapped
pub map-replicate : {X Y : Type 0} (f : X → Y) (n : ℕ) (x : X) → map f (replicate n x) ≡ replicate n (f x)
map-replicate f zero x = refl
map-replicate f (suc n) x = ap (λ l. f x ∷ l) (map-replicate f n x)
