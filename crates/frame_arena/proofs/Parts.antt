-- Lists cut into parts of one size.
use Rattle.std.proofs.Common.{◌≡◌, ℕ, zero, suc, ◌+◌, ◌-◌, ◌*◌, ◌<◌, ◌≤◌, List, [], ◌++◌, length, take, drop, replicate, slice_index_or, slice_set, All, refl, sym, ap, ◌∙◌, arith, append_assoc, length-append, length-drop}
use Rattle.std.proofs.lemmas.List.{length-take-le, drop_at, take_at, drop_all, append-nil, drop-append-le, take-append-le, drop-take, take-take, drop-drop, take-append-drop, take-replicate, drop-replicate}
use Rattle.std.proofs.lemmas.List.Elements.{All-nil, All-cons, All-take, All-drop}
use borrow.Rule.Slice.PartMut.{put_mid}
use Rattle.host_types.specs.Bytes.{part_of, with_part}
use Rattle.host_types.proofs.Lists.{length-with_part, part-with_part_before}
use Rattle.frame_arena.specs.Block.{parts_of}

-- there are as many parts as were asked for
pub length-parts_of : {X : Type 0} (size count : ℕ) (xs : List X) → length (parts_of size count xs) ≡ count
unfolding parts_of
length-parts_of size zero xs = refl
length-parts_of size (suc count) xs = ap suc (length-parts_of size count (drop size xs))

-- a cell in a list that begins size elements later
pub part_of-drop : {X : Type 0} (xs : List X) (size i width : ℕ) → part_of (drop size xs) (i * size) width ≡ part_of xs (suc i * size) width
unfolding part_of
part_of-drop xs size i width =
    let same : size + i * size ≡ suc i * size = omega arith in
    ap (take width) (drop-drop (i * size) size xs ∙ ap (λ (n : ℕ). drop n xs) same)

-- the first elements of a list
pub part_of-first : {X : Type 0} (xs : List X) (size : ℕ) → part_of xs (0 * size) size ≡ take size xs
unfolding part_of
part_of-first xs size =
    let none : 0 * size ≡ 0 = omega arith in
    ap (λ (n : ℕ). take size (drop n xs)) none

-- a part by its number
pub part-parts_of : {X : Type 0} (size count i : ℕ) (xs : List X) → i < count → slice_index_or (parts_of size count xs) i [] ≡ part_of xs (i * size) size
unfolding parts_of
part-parts_of size zero i xs h = absurd (omega (arith, h))
part-parts_of size (suc count) zero xs h = sym (part_of-first xs size)
part-parts_of size (suc count) (suc i) xs h =
    part-parts_of size count i (drop size xs) (omega arith) ∙ part_of-drop xs size i size

-- some elements of a part
pub part_of-part_of : {X : Type 0} (xs : List X) (from width at size : ℕ) → at + size ≤ width → part_of (part_of xs from width) at size ≡ part_of xs (from + at) size
unfolding part_of
part_of-part_of xs from width at size h =
    let more : ℕ = width - at in
    let whole : width ≡ at + more = omega arith in
    ap (λ (n : ℕ). take size (drop at (take n (drop from xs)))) whole
    ∙ ap (take size) (drop-take at more (drop from xs))
    ∙ take-take size more (drop at (drop from xs)) (omega arith)
    ∙ ap (take size) (drop-drop at from xs)

-- elements written into the first of two lists
pub with_part-append : {X : Type 0} (xs ys part : List X) (at : ℕ) → at + length part ≤ length xs → with_part (xs ++ ys) at part ≡ with_part xs at part ++ ys
unfolding with_part
with_part-append xs ys part at h =
    rw (take-append-le at xs ys (omega arith), drop-append-le (at + length part) xs ys h, append_assoc (take at xs ++ part) (drop (at + length part) xs) ys) refl

-- elements written after the first part
drop-with_part : {X : Type 0} (xs part : List X) (size at : ℕ) → size + at ≤ length xs → drop size (with_part xs (size + at) part) ≡ with_part (drop size xs) at part
unfolding with_part
drop-with_part xs part size at h =
    let following : List _ = drop (size + at + length part) xs in
    let front = length-take-le (size + at) xs h in
    let long : size ≤ length (take (size + at) xs) = omega (arith, front) in
    let longer : size ≤ length (take (size + at) xs ++ part) = let e = length-append (take (size + at) xs) part in omega (arith, e, long) in
    let offset : size + (at + length part) ≡ size + at + length part = omega arith in
    drop-append-le size (take (size + at) xs ++ part) following longer
    ∙ ap (λ l. l ++ following) (drop-append-le size (take (size + at) xs) part long ∙ ap (λ l. l ++ part) (drop-take size at xs))
    ∙ ap (λ l. take at (drop size xs) ++ part ++ l) (sym (drop-drop (at + length part) size xs ∙ ap (λ (n : ℕ). drop n xs) offset))

-- elements written into the first part, before the others
with_part-first : {X : Type 0} (xs part : List X) (size at : ℕ) → size ≤ length xs → at + length part ≤ size
    → (with_part xs at part ≡ with_part (take size xs) at part ++ drop size xs) × (length (with_part (take size xs) at part) ≡ size)
with_part-first xs part size at long fits =
    let first = length-take-le size xs long in (
      ap (λ l. with_part l at part) (sym (take-append-drop size xs)) ∙ with_part-append (take size xs) (drop size xs) part at (omega (arith, first, fits)),
      length-with_part (take size xs) at part (omega (arith, first, fits)) ∙ first,
    )

pub take-with_part : {X : Type 0} (xs part : List X) (size at : ℕ) → size ≤ length xs → at + length part ≤ size → take size (with_part xs at part) ≡ with_part (take size xs) at part
take-with_part xs part size at long fits =
    let is = with_part-first xs part size at long fits in
    ap (take size) is.0 ∙ take_at (with_part (take size xs) at part) (drop size xs) size is.1

-- the parts after the one that elements are written into
pub drop-with_part_before : {X : Type 0} (xs part : List X) (size at : ℕ) → size ≤ length xs → at + length part ≤ size → drop size (with_part xs at part) ≡ drop size xs
drop-with_part_before xs part size at long fits =
    let is = with_part-first xs part size at long fits in
    ap (drop size) is.0 ∙ drop_at (with_part (take size xs) at part) (drop size xs) size is.1

-- the first part, where elements are written after it
take-with_part_following : {X : Type 0} (xs part : List X) (size at : ℕ) → size + at ≤ length xs → take size (with_part xs (size + at) part) ≡ take size xs
unfolding part_of
take-with_part_following xs part size at h =
    let offset : size + at ≡ 0 + (size + at) = omega arith in
    ap (λ (n : ℕ). take size (with_part xs n part)) offset ∙ part-with_part_before xs part 0 size (size + at) (omega arith) (omega (arith, h))

-- Elements written into one part.
pub parts_of-with_part : {X : Type 0} (size count i at : ℕ) (xs part : List X) → i < count → length xs ≡ count * size → at + length part ≤ size → parts_of size count (with_part xs (i * size + at) part) ≡ slice_set (parts_of size count xs) i (with_part (part_of xs (i * size) size) at part)
unfolding parts_of
parts_of-with_part size zero i at xs part h e fits = absurd (omega (arith, h))
parts_of-with_part size (suc count) zero at xs part h e fits =
    let long : size ≤ length xs = omega (arith, e) in
    let offset : 0 * size + at ≡ at = omega arith in
    rw (offset, part_of-first xs size, take-with_part xs part size at long fits, drop-with_part_before xs part size at long fits) refl
parts_of-with_part size (suc count) (suc i) at xs part h e fits =
    let more : ℕ = count - suc i in
    let counted : count ≡ suc i + more = omega (arith, h) in
    let sized : length xs ≡ suc i * size + size + more * size = e ∙ ap (λ (n : ℕ). suc n * size) counted ∙ omega arith in
    let room : suc i * size + at ≤ length xs = omega (arith, sized, fits) in
    let offset : suc i * size + at ≡ size + (i * size + at) = omega arith in
    let within : size + (i * size + at) ≤ length xs = omega (arith, room, offset) in
    let rest = parts_of-with_part size count i at (drop size xs) part (omega arith) (length-drop size xs ∙ omega (arith, e)) fits in
    rw (offset, take-with_part_following xs part size (i * size + at) within, drop-with_part xs part size (i * size + at) within, rest, part_of-drop xs size i size) refl

-- a list written over whole
pub with_part-whole : {X : Type 0} (xs part : List X) → length part ≡ length xs → with_part xs 0 part ≡ part
unfolding with_part
with_part-whole xs part e =
    let offset : 0 + length part ≡ length part = omega arith in
    rw (offset, drop_all (length part) xs (omega (arith, e)), append-nil) refl

-- a list written over by what stands there
pub with_part-same : {X : Type 0} (xs : List X) (at size : ℕ) → at + size ≤ length xs → with_part xs at (part_of xs at size) ≡ xs
unfolding with_part part_of
with_part-same xs at size h =
    let left = length-drop at xs in
    let wide = length-take-le size (drop at xs) (omega (arith, left, h)) in
    rw (wide, ← drop-drop size at xs, append_assoc (take at xs) (take size (drop at xs)) (drop size (drop at xs)), take-append-drop size (drop at xs), take-append-drop at xs) refl

-- parts of a list of one element over and over
pub parts_of-replicate : {X : Type 0} (size count : ℕ) (x : X) → parts_of size count (replicate (count * size) x) ≡ replicate count (replicate size x)
unfolding parts_of
parts_of-replicate size zero x = refl
parts_of-replicate size (suc count) x =
    let more : suc count * size - size ≡ count * size = omega arith in
    rw (take-replicate size (suc count * size) x (omega arith), drop-replicate size (suc count * size) x, more, parts_of-replicate size count x) refl

-- each part of a list whose elements meet a condition has its size, and elements that meet it
pub All-parts_of : {X : Type 0} (P : X → Type 0) (Q : List X → Type 0) (size count : ℕ) → ((part : List X) → length part ≡ size → All P part → Q part) → (xs : List X) → length xs ≡ count * size → All P xs → All Q (parts_of size count xs)
unfolding parts_of
All-parts_of P Q size zero fits xs e all = All-nil Q
All-parts_of P Q size (suc count) fits xs e all =
    All-cons Q (take size xs) (parts_of size count (drop size xs))
    (fits (take size xs) (length-take-le size xs (omega (arith, e))) (All-take P size xs all))
    (All-parts_of P Q size count fits (drop size xs) (length-drop size xs ∙ omega (arith, e)) (All-drop P size xs all))

-- elements by the cells where they begin and end
pub part-range : {X : Type 0} (xs : List X) (start size : ℕ) → take (start + size - start) (drop start xs) ≡ part_of xs start size
unfolding part_of
part-range xs start size =
    let span : start + size - start ≡ size = omega arith in
    rw span refl

-- elements written over others by the cells where those begin and end
pub put_mid-with_part : {X : Type 0} (xs part : List X) (start size : ℕ) → length part ≡ size → put_mid start (start + size - start) xs part ≡ with_part xs start part
unfolding with_part
put_mid-with_part xs part start size wide =
    let span : start + size - start ≡ size = omega arith in
    rw (span, drop-drop, append_assoc, wide) refl

-- elements written after a cell, in the list after it
pub with_part-drop : {X : Type 0} (xs part : List X) (at : ℕ) → take at xs ++ with_part (drop at xs) 0 part ≡ with_part xs at part
unfolding with_part
with_part-drop xs part at =
    let offset : 0 + length part ≡ length part = omega arith in
    rw (offset, drop-drop (length part) at xs, append_assoc (take at xs) part (drop (at + length part) xs)) refl

-- elements written before a cell, in the list up to it
pub with_part-take : {X : Type 0} (xs part : List X) (at end : ℕ) → at + length part ≤ end → end ≤ length xs → with_part (take end xs) at part ++ drop end xs ≡ with_part xs at part
with_part-take xs part at end fits within =
    let front = length-take-le end xs within in
    sym (with_part-append (take end xs) (drop end xs) part at (omega (arith, front, fits)))
    ∙ ap (λ l. with_part l at part) (take-append-drop end xs)

-- elements before a cell, in the list up to it
pub part_of-take : {X : Type 0} (xs : List X) (from size end : ℕ) → from + size ≤ end → part_of (take end xs) from size ≡ part_of xs from size
unfolding part_of
part_of-take xs from size end fits =
    let offset : 0 + from ≡ from = omega arith in
    part_of-part_of xs 0 end from size fits ∙ ap (λ (n : ℕ). take size (drop n xs)) offset

-- the first elements after a cell
pub part_of-following : {X : Type 0} (xs : List X) (at size : ℕ) → part_of (drop at xs) 0 size ≡ part_of xs at size
unfolding part_of
part_of-following xs at size = refl
