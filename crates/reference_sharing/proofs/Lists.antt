-- Lists under a map, and a page's content.
use Rattle.std.proofs.Common.{◌≡◌, ℕ, zero, suc, ◌+◌, ◌-◌, ◌*◌, ◌<◌, ◌≤◌, min, Bool, true, false, cond, ◌||◌, List, [], ◌∷◌, ◌++◌, length, map, take, drop, replicate, filter, slice_index_or, slice_set, slice_get, sum_by, Option, None, Some, option_map, refl, sym, ap, ◌∙◌, arith}
use Rattle.std.specs.List.{list_any}
use Rattle.std.proofs.lemmas.List.{take_min, drop_min, take_all, take-replicate, drop-replicate, length-take, length-drop, length-map, length-replicate, drop-drop, append_assoc}
use Rattle.std.proofs.Math.ListN.{get_or-map}
use Rattle.std.proofs.lemmas.List.Sums.{sum_by_more}
use Rattle.host_types.specs.Bytes.{with_part}
use Rattle.host_types.specs.Pages.{page_bytes}
use Rattle.host_types.specs.Sharing.{PageState}
use Rattle.host_types.specs.Visits.{Contents, group_bytes}
use Rattle.reference_sharing.specs.View.{page_of, page_states}
use Rattle.reference_sharing.specs.declared.sharing.PlainPage.{PlainPage}

-- a test of what a function makes of the elements
pub list_any-map : {X Y : Type 0} (test : Y → Bool) (f : X → Y) (xs : List X) → list_any test (map f xs) ≡ list_any (λ x. test (f x)) xs
list_any-map test f [] = refl
list_any-map test f (x ∷ xs) = ap (λ (b : Bool). test (f x) || b) (list_any-map test f xs)

-- a filter of what a function makes of the elements
pub filter-map : {X Y : Type 0} (test : Y → Bool) (f : X → Y) (xs : List X) → map f (filter (λ x. test (f x)) xs) ≡ filter test (map f xs)
filter-map test f [] = refl
filter-map {X} test f (x ∷ xs) = by_test (test (f x)) (filter-map test f xs)
  where
    by_test : (b : Bool) → map f (filter (λ y. test (f y)) xs) ≡ filter test (map f xs)
        → map f (cond b (x ∷ filter (λ y. test (f y)) xs) (filter (λ y. test (f y)) xs)) ≡ cond b (f x ∷ filter test (map f xs)) (filter test (map f xs))
    by_test true e = ap (λ l. f x ∷ l) e
    by_test false e = e

-- one more element of a list is changed, from the first one on
pub changed_more : {X : Type 0} (f : X → X) (xs ys : List X) (i : ℕ) (x d : X) → xs ≡ map f (take i ys) ++ drop i ys → i < length ys → x ≡ f (slice_index_or xs i d)
    → slice_set xs i x ≡ map f (take (suc i) ys) ++ drop (suc i) ys
changed_more f xs [] i x d e h same = absurd (omega (arith, h))
changed_more f [] (y ∷ ys) zero x d e h same = cc
changed_more f (z ∷ xs) (y ∷ ys) zero x d e h same = cc
changed_more f [] (y ∷ ys) (suc i) x d e h same = cc
changed_more f (z ∷ xs) (y ∷ ys) (suc i) x d e h same =
    let head : z ≡ f y = cc in
    let tail : xs ≡ map f (take i ys) ++ drop i ys = cc in
    rw head (ap (λ l. f y ∷ l) (changed_more f xs ys i x d tail (omega (arith, h)) same))

-- one more page is counted
pub counted_more : (f : Option PageState → ℕ) (pages : List (Option PlainPage)) (i count : ℕ) → i < length pages → count ≡ sum_by f (take i (page_states pages))
    → count + f (option_map page_of (slice_index_or pages i None)) ≡ sum_by f (take (i + 1) (page_states pages))
counted_more f pages i count h e =
    let long = length-map pages (option_map page_of) in
    let more = sum_by_more f (page_states pages) i None (omega (arith, h, long)) in
    let here = ap f (get_or-map (option_map page_of) pages i None) in
    omega (arith, e, more, here)

-- the bytes of a group are those of its first page
pub first_bytes : (contents : Contents) (page_indices : List ℕ) (i : ℕ) → slice_get page_indices 0 ≡ Some i → group_bytes contents page_indices ≡ contents i
unfolding group_bytes
first_bytes contents [] i e = absurd (cc)
first_bytes contents (j ∷ page_indices) i e = let same : j ≡ i = cc in ap contents same

pub no_bytes : (contents : Contents) (page_indices : List ℕ) → slice_get page_indices 0 ≡ None → group_bytes contents page_indices ≡ []
unfolding group_bytes
no_bytes contents [] e = refl
no_bytes contents (j ∷ page_indices) e = absurd (cc)

-- as much of a list of zeros as is missing
filled_up : (n k : ℕ) (xs : List ℕ) → n ≤ k → take n (xs ++ replicate k 0) ≡ take n xs ++ replicate (n - length xs) 0
filled_up zero k [] h = refl
filled_up (suc n) k [] h = let all : suc n - 0 ≡ suc n = omega arith in rw all (take-replicate {X = ℕ} (suc n) k 0 h)
filled_up zero k (x ∷ xs) h = ap (λ (m : ℕ). replicate m 0) (let none : 0 ≡ 0 - suc (length xs) = omega arith in none)
filled_up (suc n) k (x ∷ xs) h =
    let same : n - length xs ≡ suc n - suc (length xs) = omega arith in
    ap (λ l. x ∷ l) (filled_up n k xs (omega (arith, h)) ∙ ap (λ (m : ℕ). take n xs ++ replicate m 0) same)

-- the content of a page: what is there of the map's bytes, written over zeros
pub content : (bytes : List ℕ) (number : ℕ)
    → take (min 4096 (length (drop (number * 4096) bytes))) (drop (number * 4096) bytes) ++ drop (min 4096 (length (drop (number * 4096) bytes))) (replicate 4096 0) ≡ page_bytes bytes number
unfolding page_bytes
content bytes number =
    let rest : List ℕ = drop (number * 4096) bytes in
    let missing : 4096 - min 4096 (length rest) ≡ 4096 - length rest = omega arith in
    rw (take_min 4096 rest, drop-replicate {X = ℕ} (min 4096 (length rest)) 4096 0, missing) (sym (filled_up 4096 4096 rest (omega arith)))

-- the bytes from a page's first one on, as a slice of them is read
pub bytes_from : (bytes : List ℕ) (first : ℕ) → take (length bytes - min first (length bytes)) (drop (min first (length bytes)) bytes) ≡ drop first bytes
bytes_from bytes first =
    let long = length-drop (min first (length bytes)) bytes in
    take_all (length bytes - min first (length bytes)) (drop (min first (length bytes)) bytes) (omega (arith, long)) ∙ drop_min first bytes

-- n members of a list from an index on, all made the same
pub filled : {X : Type 0} (x : X) (xs : List X) (at n size : ℕ) → at + n ≤ length xs → size ≡ n
    → take at xs ++ (replicate (length (take size (drop at xs))) x ++ drop size (drop at xs)) ≡ with_part xs at (replicate n x)
unfolding with_part
filled x xs at n size inside e =
    let long : length (take size (drop at xs)) ≡ n = simp (length-take, length-drop) (omega (arith, e)) in
    let part = ap (λ (k : ℕ). replicate k x) long in
    let rest : drop size (drop at xs) ≡ drop (at + length (replicate n x)) xs =
    drop-drop size at xs ∙ ap (λ (k : ℕ). drop k xs) (let count = length-replicate n x in omega (arith, e, count)) in
    ap (λ l. take at xs ++ (l ++ drop size (drop at xs))) part ∙ ap (λ l. take at xs ++ (replicate n x ++ l)) rest
    ∙ sym (append_assoc (take at xs) (replicate n x) (drop (at + length (replicate n x)) xs))
