-- Maps as flat bytes, out of the contents of their pages.
use Rattle.page_table.proofs.Base.{◌≡◌, ◌≢◌, ◌∙◌, ℕ, zero, suc, ◌+◌, ◌-◌, ◌*◌, ◌<◌, ◌≤◌, List, [], ◌∷◌, ◌++◌, length, take, drop, replicate, slice_index_or, slice_set, Option, None, option_map, refl, sym, ap, arith, append_assoc, concat, get_or-set_same, get_or-set_other, length-set, ext_get_or, length-take-le, drop_at, drop-drop, take-append-add, if◌then◌else◌, nat_lt, nat_le, ◌&&◌, nat_tests, get_or-take, get_or-drop, get_or_past, length-take, get_or_append_left, min, get_or-replicate, length-replicate, Shape, part_of, with_part, FlatMap, page_bytes, byte_len_of, part_of-drop, part_of-first, with_part-append, page_count, maps_of, flat_of, ArePagesOf}
use Rattle.std.proofs.Common.{length-append, length-drop}
use Rattle.std.proofs.lemmas.List.{get_or-append_right}

-- parts of lists

with_part-at_or_before : {X : Type 0} (xs ys part : List X) (n at : ℕ) → length xs ≡ n → with_part (xs ++ ys) (n + at) part ≡ xs ++ with_part ys at part
unfolding with_part
with_part-at_or_before xs ys part n at h =
    let page_index : n + at + length part ≡ length xs + (at + length part) = omega arith in
    let front : n + at ≡ length xs + at = omega arith in
    let back : drop (length xs + (at + length part)) (xs ++ ys) ≡ drop (at + length part) ys =
    sym (drop-drop (at + length part) (length xs) (xs ++ ys)) ∙ ap (drop (at + length part)) (drop_at xs ys (length xs) refl) in
    rw (page_index, front, take-append-add xs ys at, back, append_assoc xs (take at ys) part, append_assoc xs (take at ys ++ part) (drop (at + length part) ys)) refl

-- what is read of a part, and of a list with a part written
pub part-at : {X : Type 0} (xs : List X) (at size i : ℕ) (d : X) → slice_index_or (part_of xs at size) i d ≡ (if nat_lt i size then slice_index_or xs (at + i) d else d)
unfolding part_of
part-at xs at size i d =
    grind (arith, nat_tests, get_or-take size (drop at xs) i d, get_or-drop at xs i d, get_or_past (take size (drop at xs)) i d, length-take size (drop at xs))

pub written-at : {X : Type 0} (xs ys : List X) (at i : ℕ) (d : X) → at + length ys ≤ length xs
    → slice_index_or (with_part xs at ys) i d ≡ (if nat_le at i && nat_lt i (at + length ys) then slice_index_or ys (i - at) d else slice_index_or xs i d)
unfolding with_part
written-at xs ys at i d fits =
    grind (arith, nat_tests, length-take-le at xs, length-append (take at xs) ys, get_or_append_left (take at xs ++ ys) (drop (at + length ys) xs) d i, get_or-append_right (take at xs ++ ys) (drop (at + length ys) xs) (at + length ys) i d, get_or_append_left (take at xs) ys d i, get_or-append_right (take at xs) ys at i d, get_or-drop (at + length ys) xs (i - (at + length ys)) d, get_or-take at xs i d)

pub length-part : {X : Type 0} (xs : List X) (at size : ℕ) → length (part_of xs at size) ≡ min size (length xs - at)
unfolding part_of
length-part xs at size = grind (arith, nat_tests, length-take size (drop at xs), length-drop at xs)

-- a part stays where each of its elements does
pub part-kept : {X : Type 0} (xs ys : List X) (at size : ℕ) (d : X) → length ys ≡ length xs → ((i : ℕ) → at ≤ i → i < at + size → slice_index_or ys i d ≡ slice_index_or xs i d) → part_of ys at size ≡ part_of xs at size
part-kept xs ys at size d long same = grind (arith, nat_tests, ext_get_or d, length-part ys at size, length-part xs at size, part-at ys at size, part-at xs at size)

-- of two parts of one width, the first ends before the other begins
pub lies-apart : (j k width : ℕ) → j < k → j * width + width ≤ k * width
lies-apart j k width less = let apart : k * width ≡ (suc j + (k - suc j)) * width = ap (λ (m : ℕ). m * width) (omega arith) in omega (arith, apart)

-- one element set, in a part
pub part_of-set_same : {X : Type 0} (xs : List X) (k n width : ℕ) (x : X) → n < width → part_of (slice_set xs (k + n) x) k width ≡ slice_set (part_of xs k width) n x
part_of-set_same xs k n width x h = ext_get_or x _ _ (grind (arith, length-part, length-set)) (λ i less. grind (arith, nat_tests, part-at, length-part, length-set, get_or-set_same, get_or-set_other))

pub part_of-set_other : {X : Type 0} (xs : List X) (k n j width : ℕ) (x : X) → n < width → j ≢ k → part_of (slice_set xs (k * width + n) x) (j * width) width ≡ part_of xs (j * width) width
part_of-set_other xs k n j width x h ne =
    part-kept xs (slice_set xs (k * width + n) x) (j * width) width x (length-set xs (k * width + n) x) (λ i from less. grind (arith, lies-apart j k width, lies-apart k j width, get_or-set_other xs (k * width + n) i x x))

-- the map at an index
pub map_at-maps_of : (shapes : List (Option Shape)) (contents : List (List ℕ)) (k : ℕ)
    → slice_index_or (maps_of shapes contents) k None ≡ option_map (flat_of (part_of contents (k * 256) 256)) (slice_index_or shapes k None)
unfolding maps_of
map_at-maps_of [] contents k = refl
map_at-maps_of (shape ∷ shapes) contents zero = ap (λ pages. option_map (flat_of pages) shape) (sym (part_of-first contents 256))
map_at-maps_of (shape ∷ shapes) contents (suc k) =
    map_at-maps_of shapes (drop 256 contents) k ∙ ap (λ pages. option_map (flat_of pages) (slice_index_or shapes k None)) (part_of-drop contents 256 k 256)

pub length-maps_of : (shapes : List (Option Shape)) (contents : List (List ℕ)) → length (maps_of shapes contents) ≡ length shapes
unfolding maps_of
length-maps_of [] contents = refl
length-maps_of (shape ∷ shapes) contents = ap suc (length-maps_of shapes (drop 256 contents))

-- the maps where one of them changes
pub maps_of-changed : (old new : List (Option Shape)) (before after : List (List ℕ)) (k : ℕ) (flat : Option FlatMap) → length new ≡ length old → k < length old
    → ((j : ℕ) → j ≢ k → slice_index_or new j None ≡ slice_index_or old j None)
    → ((j : ℕ) → j ≢ k → part_of after (j * 256) 256 ≡ part_of before (j * 256) 256)
    → option_map (flat_of (part_of after (k * 256) 256)) (slice_index_or new k None) ≡ flat
    → maps_of new after ≡ slice_set (maps_of old before) k flat
maps_of-changed old new before after k flat h1 h2 h3 h4 h5 =
    grind (arith, length-maps_of new after, length-set (maps_of old before) k flat, length-maps_of old before, ext_get_or None (maps_of new after) (slice_set (maps_of old before) k flat), map_at-maps_of new after, map_at-maps_of old before, get_or-set_same (maps_of old before) k flat None, get_or-set_other (maps_of old before) k)

-- the bytes of pages one after another

-- bytes written into a page
pub concat-written : (pages : List (List ℕ)) (n at : ℕ) (bytes : List ℕ) → ((m : ℕ) → m ≤ n → length (slice_index_or pages m []) ≡ 4096) → at + length bytes ≤ 4096
    → concat (slice_set pages n (with_part (slice_index_or pages n []) at bytes)) ≡ with_part (concat pages) (n * 4096 + at) bytes
concat-written [] n at bytes there fits = grind (arith, there 0)
concat-written (page ∷ pages) zero at bytes there fits = grind (arith, there 0, with_part-append page (concat pages) bytes at)
concat-written (page ∷ pages) (suc n) at bytes there fits =
    let page_index : 4096 + (n * 4096 + at) ≡ suc n * 4096 + at = omega arith in
    grind (arith, there 0, concat-written pages n at bytes (λ m le. there (suc m) (omega arith)), with_part-at_or_before page (concat pages) bytes 4096 (n * 4096 + at), ap (λ (m : ℕ). with_part (page ++ concat pages) m bytes) page_index)

-- pages that are there up to a number, and not from it on
pub length-concat : (pages : List (List ℕ)) (count : ℕ) → ((n : ℕ) → n < count → length (slice_index_or pages n []) ≡ 4096) → ((n : ℕ) → count ≤ n → slice_index_or pages n [] ≡ [])
    → length (concat pages) ≡ count * 4096
length-concat [] zero there none = refl
length-concat [] (suc count) there none = grind (arith, there 0)
length-concat (page ∷ pages) zero there none = grind (arith, none 0, length-concat pages 0 (λ n less. absurd (omega arith)) (λ n le. none (suc n) (omega arith)), length-append page (concat pages))
length-concat (page ∷ pages) (suc count) there none =
    grind (arith, there 0, length-concat pages count (λ n less. there (suc n) (omega arith)) (λ n le. none (suc n) (omega arith)), length-append page (concat pages))

-- a byte of a page
concat-at : (pages : List (List ℕ)) (n i : ℕ) → ((m : ℕ) → m ≤ n → length (slice_index_or pages m []) ≡ 4096) → i < 4096 → slice_index_or (concat pages) (n * 4096 + i) 0 ≡ slice_index_or (slice_index_or pages n []) i 0
concat-at [] n i there less = grind (arith, there 0)
concat-at (page ∷ pages) zero i there less = grind (arith, there 0, get_or_append_left page (concat pages) 0 i)
concat-at (page ∷ pages) (suc n) i there less = grind (arith, there 0, get_or-append_right page (concat pages) 4096 (suc n * 4096 + i) 0, concat-at pages n i (λ m le. there (suc m) (omega arith)))

-- what is read of a page's bytes, of which there are as many as a page has
content-at : (bytes : List ℕ) (n i : ℕ) → i < 4096 → slice_index_or (page_bytes bytes n) i 0 ≡ slice_index_or bytes (n * 4096 + i) 0
unfolding page_bytes
content-at bytes n i less =
    let rest : List ℕ = drop (n * 4096) bytes in
    grind (arith, nat_tests, get_or-take 4096 (rest ++ replicate 4096 0) i 0, get_or_append_left rest (replicate 4096 0) 0 i, get_or-append_right rest (replicate 4096 0) (length rest) i 0, get_or-drop (n * 4096) bytes i 0, get_or-replicate {A = ℕ} 4096 (i - length rest) 0 0, get_or_past bytes (n * 4096 + i) 0, length-drop (n * 4096) bytes)

length-content : (bytes : List ℕ) (n : ℕ) → length (page_bytes bytes n) ≡ 4096
unfolding page_bytes
length-content bytes n = omega (arith, length-take 4096 (drop (n * 4096) bytes ++ replicate 4096 0), length-append (drop (n * 4096) bytes) (replicate 4096 0), length-replicate {A = ℕ} 4096 0)

-- the content of a map's page is that of the page
pub page_bytes-page : (shape : Shape) (pages : List (List ℕ)) (n : ℕ) → ArePagesOf shape pages → n < page_count shape
    → page_bytes (take (byte_len_of shape) (concat pages)) n ≡ slice_index_or pages n []
page_bytes-page shape pages n are small =
    let size : ℕ = byte_len_of shape in
    let first : List ℕ = take size (concat pages) in
    ext_get_or 0 _ _ (omega (arith, length-content first n, are.there n small))
    (λ i less. grind (arith, nat_tests, length-content first n, content-at first n i, get_or-take size (concat pages) (n * 4096 + i) 0, get_or_past first (n * 4096 + i) 0, length-take size (concat pages), concat-at pages n i (λ m le. are.there m (omega (arith, le, small))), get_or-drop size (concat pages) (n * 4096 + i - size) 0, are.padded, get_or-replicate {A = ℕ} (page_count shape * 4096 - size) (n * 4096 + i - size) 0 0, get_or_past (concat pages) (n * 4096 + i) 0))
