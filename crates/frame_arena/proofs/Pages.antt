-- What a block of bytes reads as, and how writing into it writes into one page.
use Rattle.std.proofs.Common.{◌≡◌, ℕ, ◌+◌, ◌*◌, ◌<◌, ◌≤◌, List, length, replicate, slice_set, All, refl, sym, ap, ◌∙◌, arith}
use Rattle.host_types.specs.Bytes.{part_of, with_part}
use Rattle.host_types.specs.Pages.{zero_page}
use Rattle.host_types.proofs.Lists.{length-part_of}
use Rattle.frame_arena.specs.Pages.{IsPage, page_at}
use Rattle.frame_arena.specs.Block.{pages_of}
use Rattle.frame_arena.proofs.Parts.{length-parts_of, part-parts_of, part_of-part_of, parts_of-with_part, parts_of-replicate, with_part-whole, All-parts_of}

pub length-pages_of : (frames : ℕ) (block : List ℕ) → length (pages_of frames block) ≡ frames
length-pages_of frames block = length-parts_of 4096 frames block

-- each page of a block of whole pages is one
pub All-pages_of : (frames : ℕ) (block : List ℕ) → length block ≡ frames * 4096 → All (λ byte. byte < 256) block → All IsPage (pages_of frames block)
All-pages_of frames block e small =
    All-parts_of (λ byte. byte < 256) IsPage 4096 frames (λ page sized bytes. record { sized = sized; bytes = bytes }) block e small

-- bytes of a page, by their cell in the block
pub part-page : (frames frame at size : ℕ) (block : List ℕ) → frame < frames → at + size ≤ 4096 → part_of block (frame * 4096 + at) size ≡ part_of (page_at (pages_of frames block) frame) at size
part-page frames frame at size block there within =
    sym (ap (λ page. part_of page at size) (part-parts_of 4096 frames frame block there) ∙ part_of-part_of block (frame * 4096) 4096 at size within)

-- bytes written into a page
pub pages_of-written : (frames frame at : ℕ) (block part : List ℕ) → length block ≡ frames * 4096 → frame < frames → at + length part ≤ 4096 → pages_of frames (with_part block (frame * 4096 + at) part) ≡ slice_set (pages_of frames block) frame (with_part (page_at (pages_of frames block) frame) at part)
pages_of-written frames frame at block part e there within =
    parts_of-with_part 4096 frames frame at block part there e within
    ∙ ap (λ page. slice_set (pages_of frames block) frame (with_part page at part)) (sym (part-parts_of 4096 frames frame block there))

-- a block of zeros
pub pages_of-zeros : (frames : ℕ) → pages_of frames (replicate (frames * 4096) 0) ≡ replicate frames zero_page
unfolding zero_page
pages_of-zeros frames = parts_of-replicate 4096 frames 0

-- a frame of a list of pages is one of the block
below : (frames frame : ℕ) (block : List ℕ) (pages : List (List ℕ)) → pages_of frames block ≡ pages → frame < length pages → frame < frames
below frames frame block pages view there = let e = length-pages_of frames block in let f = ap length view in omega (arith, e, f, there)

-- bytes of a page lie in the block
pub within-block : (frames frame at size start : ℕ) (block bytes : List ℕ) (pages : List (List ℕ)) → pages_of frames block ≡ pages → length block ≡ frames * 4096 → bytes ≡ block → start ≡ frame * 4096 + at → frame < length pages → at + size ≤ 4096 → start + size ≤ length bytes
within-block frames frame at size start block bytes pages view whole lent offset there fits =
    let inside = below frames frame block pages view there in
    let same = ap length lent in
    omega (arith, inside, same, whole, offset, fits)

-- bytes of a page are read from the block
pub read-part : (frames frame at size start : ℕ) (block bytes : List ℕ) (pages : List (List ℕ)) → pages_of frames block ≡ pages → bytes ≡ block → start ≡ frame * 4096 + at → frame < length pages → at + size ≤ 4096 → part_of bytes start size ≡ part_of (page_at pages frame) at size
read-part frames frame at size start block bytes pages view lent offset there fits =
    rw (← view, lent, offset) (part-page frames frame at size block (below frames frame block pages view there) fits)

-- a page is read from the block
pub read-page : (frames frame start : ℕ) (block bytes : List ℕ) (pages : List (List ℕ)) → pages_of frames block ≡ pages → bytes ≡ block → start ≡ frame * 4096 + 0 → frame < length pages → part_of bytes start 4096 ≡ page_at pages frame
read-page frames frame start block bytes pages view lent offset there =
    let first : frame * 4096 + 0 ≡ frame * 4096 = omega arith in
    rw (← view, lent, offset, first) (sym (part-parts_of 4096 frames frame block (below frames frame block pages view there)))

-- a page that is read has its bytes
pub length-page : (frames frame : ℕ) (block : List ℕ) (pages : List (List ℕ)) → pages_of frames block ≡ pages → length block ≡ frames * 4096 → frame < length pages → length (page_at pages frame) ≡ 4096
length-page frames frame block pages view whole there =
    let inside = below frames frame block pages view there in
    rw (← view, part-parts_of 4096 frames frame block inside) (length-part_of block (frame * 4096) 4096 (omega (arith, inside, whole)))

-- bytes are written into a page
pub written-part : (frames frame at start : ℕ) (block bytes part : List ℕ) (pages : List (List ℕ)) → pages_of frames block ≡ pages → length block ≡ frames * 4096 → bytes ≡ block → start ≡ frame * 4096 + at → frame < length pages → at + length part ≤ 4096 → pages_of frames (with_part bytes start part) ≡ slice_set pages frame (with_part (page_at pages frame) at part)
written-part frames frame at start block bytes part pages view whole lent offset there fits =
    rw (← view, lent, offset) (pages_of-written frames frame at block part whole (below frames frame block pages view there) fits)

-- a page is written over whole
pub written-page : (frames frame start : ℕ) (block bytes part : List ℕ) (pages : List (List ℕ)) → pages_of frames block ≡ pages → length block ≡ frames * 4096 → bytes ≡ block → start ≡ frame * 4096 + 0 → frame < length pages → length part ≡ 4096 → pages_of frames (with_part bytes start part) ≡ slice_set pages frame part
written-page frames frame start block bytes part pages view whole lent offset there wide =
    written-part frames frame 0 start block bytes part pages view whole lent offset there (omega (arith, wide))
    ∙ ap (slice_set pages frame) (with_part-whole (page_at pages frame) part (wide ∙ sym (length-page frames frame block pages view whole there)))

pub length-zero_page : length zero_page ≡ 4096
unfolding zero_page
length-zero_page = refl
