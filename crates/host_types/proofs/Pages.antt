-- The content of a page, and parts of it.
use Rattle.std.specs.Prelude.{◌≡◌, ℕ, ◌+◌, ◌*◌, ◌≤◌, List, ◌++◌, take, drop, length, replicate, ◌-◌}
use Rattle.std.proofs.Common.{arith, ap, ◌∙◌}
use Rattle.std.proofs.lemmas.List.{length-drop, drop-append-le, take-append-le, drop-take, take-take, drop-drop}
use Rattle.host_types.specs.Bytes.{part_of}
use Rattle.host_types.specs.Pages.{page_bytes, zero_page}

-- some elements of a part, where they lie in it
part_of-take : {X : Type 0} (xs : List X) (at size width : ℕ) → at + size ≤ width → take size (drop at (take width xs)) ≡ take size (drop at xs)
part_of-take xs at size width h =
    let more : ℕ = width - at in
    let whole : width ≡ at + more = omega arith in
    ap (λ (n : ℕ). take size (drop at (take n xs))) whole
    ∙ ap (take size) (drop-take at more xs)
    ∙ take-take size more (drop at xs) (omega arith)

-- bytes of a map that lie in one page, in that page
pub part_of-page_bytes : (bytes : List ℕ) (number at size : ℕ) → at + size ≤ 4096 → number * 4096 + at + size ≤ length bytes
    → part_of (page_bytes bytes number) at size ≡ part_of bytes (number * 4096 + at) size
unfolding part_of page_bytes
part_of-page_bytes bytes number at size in_page in_map =
    let rest = length-drop (number * 4096) bytes in
    let further = length-drop at (drop (number * 4096) bytes) in
    let zeros : List ℕ = replicate 4096 0 in
    part_of-take (drop (number * 4096) bytes ++ zeros) at size 4096 in_page
    ∙ ap (take size) (drop-append-le at (drop (number * 4096) bytes) zeros (omega (arith, rest, in_map)))
    ∙ take-append-le size (drop at (drop (number * 4096) bytes)) zeros (omega (arith, rest, further, in_map))
    ∙ ap (take size) (drop-drop at (number * 4096) bytes)

-- as many zeros as a page has bytes
pub replicate-zero_page : (n : ℕ) → n ≡ 4096 → replicate n 0 ≡ zero_page
unfolding zero_page
replicate-zero_page n e = ap (λ (m : ℕ). replicate m 0) e
