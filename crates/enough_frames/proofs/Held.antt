-- A memory's pages take no more frames than one each, beside the frame of zeros.
use Rattle.std.proofs.Common.{◌≡◌, ◌∙◌, ℕ, ◌+◌, ◌*◌, ◌/◌, ◌%◌, ◌<◌, ◌≤◌, nat_lt, Bool, [], length, sum_by, Option, Some, None, is_some, IfSome, IsSome, option_map, unwrap_or, refl, sym, ap, subst, arith}
use Rattle.std.proofs.lemmas.Bool.Decides.{nat_tests}
use Rattle.host_types.specs.Memory.{FlatMap, FlatMaps, map_at}
use Rattle.host_types.specs.Sharing.{Sharing, PageState, state_at, own_frame}
use Rattle.host_types.specs.Tenant.{IsFlatMap}
use Rattle.host_types.specs.Unmerging.{members, zeros_at, zero_pages}
use Rattle.host_types.proofs.Without.{one_when}
use Rattle.host_types.proofs.Unmerging.{listed, state_inside, AreListed}
use Rattle.page_table.specs.Reads.{ReadsAs, HasPage}
use Rattle.page_table.specs.State.{MemoryState}
use Rattle.enough_frames.specs.Frames.{map_pages, pages_in}
use Rattle.enough_frames.proofs.Counting.{sum_below, sum_below-le, sum_below-same, sum_below-plus, sum_below-append, sum_below-list, lengths-listed}
use Rattle.enough_frames.proofs.Groups.{AreInGroups, counted_at, counted_once}
use Rattle.enough_frames.proofs.Pages.{pages-of_bytes, parts, counts-maps}

-- the bytes of a map, where there is one
abbrev bytes_in : Option FlatMap → ℕ
bytes_in slot = length (unwrap_or (option_map (λ (flat : FlatMap). flat.bytes) slot) [])

-- a map has bytes for the page at an index
abbrev has_page : FlatMaps → ℕ → Bool
has_page maps i = nat_lt (i % 256 * 4096) (bytes_in (map_at maps (i / 256)))

AreFlat : FlatMaps → Type 0
AreFlat maps = (k : ℕ) → IfSome (map_at maps k) IsFlatMap

-- the pages of a map by its bytes are those by its shape
pages-of_map : (slot : Option FlatMap) → IfSome slot IsFlatMap → (bytes_in slot + 4095) / 4096 ≤ map_pages slot
pages-of_map None h = omega arith
pages-of_map (Some flat) h = let sized = h.sized in grind (arith, sized)

-- where a number stands in the parts of 256
in_part : (width k j : ℕ) → width ≡ 256 → j < width → ((k * width + j) % 256 ≡ j) × ((k * width + j) / 256 ≡ k)
in_part width k j e h =
    let below : j < 256 = omega (arith, e, h) in
    subst (λ (w : ℕ). ((k * w + j) % 256 ≡ j) × ((k * w + j) / 256 ≡ k)) (sym e) (omega (arith, below), omega (arith, below))

module _ (maps : FlatMaps) (flat : (k : ℕ) → IfSome (map_at maps k) IsFlatMap) where
  in_map : (width : ℕ) → width ≡ 256 → (k : ℕ) → sum_below (λ j. one_when (has_page maps (k * width + j))) width ≤ map_pages (map_at maps k)
  in_map width e k =
      let pages = pages-of_bytes (bytes_in (map_at maps k)) width in
      let most = pages-of_map (map_at maps k) (flat k) in
      let same = sum_below-same (λ j. one_when (has_page maps (k * width + j))) (λ j. one_when (nat_lt (j * 4096) (bytes_in (map_at maps k)))) width (λ j below.
      let (offset, number) = in_part width k j e below in
      ap (λ (o : ℕ). one_when (nat_lt (o * 4096) (bytes_in (map_at maps ((k * width + j) / 256))))) offset
      ∙ ap (λ (n : ℕ). one_when (nat_lt (j * 4096) (bytes_in (map_at maps n)))) number) in
      omega (arith, pages, most, same)

  -- there are no more pages than the maps have
  pages-few : (width n : ℕ) → width ≡ 256 → sum_below (λ i. one_when (has_page maps i)) n ≤ pages_in maps
  pages-few width n e =
      let all = parts width (λ i. one_when (has_page maps i)) (λ k. map_pages (map_at maps k)) n (in_map width e) in
      let in_list = counts-maps map_pages maps n refl in
      let split = sum_below-append (λ i. one_when (has_page maps i)) n (n * 255) in
      let more : n + n * 255 ≡ n * width = grind (arith, e) in
      let whole = ap (sum_below (λ i. one_when (has_page maps i))) more in
      omega (arith, all, in_list, split, whole)

-- the facts of a memory that are needed
pub in_groups : (memory : MemoryState) → ReadsAs memory → AreInGroups memory.sharing
in_groups memory reads =
    record { some = reads.groups.some; ordered = reads.groups.ordered; grouped = reads.groups.grouped; once = reads.groups.once }

some_page : (memory : MemoryState) (i : ℕ) → ReadsAs memory → one_when (is_some (state_at memory.sharing i)) ≤ one_when (has_page memory.maps i)
some_page memory i reads = by_state (state_at memory.sharing i) refl
  where
    by_state : (page : Option PageState) → state_at memory.sharing i ≡ page → one_when (is_some (state_at memory.sharing i)) ≤ one_when (has_page memory.maps i)
    by_state None e = let none = ap (λ (p : Option PageState). one_when (is_some p)) e in omega (arith, none)
    by_state (Some state) e =
        let there : IsSome (state_at memory.sharing i) = subst IsSome (sym e) refl in
        let has : HasPage memory i = (reads.paged i).0 there in
        let one = ap (λ (p : Option PageState). one_when (is_some p)) e in
        let test : one_when (has_page memory.maps i) ≡ 1 = grind (arith, nat_tests, has) in
        omega (arith, one, test)

-- how many pages are there
abbrev pub present : Sharing → ℕ
present s = sum_by (λ (page : Option PageState). one_when (is_some page)) s.pages

pub present-few : (memory : MemoryState) → ReadsAs memory → ((k : ℕ) → IfSome (map_at memory.maps k) IsFlatMap) → present memory.sharing ≤ pages_in memory.maps
present-few memory reads flat =
    let n : ℕ = length memory.sharing.pages in
    let all = sum_below-list (λ (page : Option PageState). one_when (is_some page)) memory.sharing.pages None in
    let most = sum_below-le (λ i. one_when (is_some (state_at memory.sharing i))) (λ i. one_when (has_page memory.maps i)) n (λ i below. some_page memory i reads) in
    let few = pages-few memory.maps flat 256 n refl in
    omega (arith, all, most, few)

-- Each page is counted once at most: in a group, on the frame of zeros, or with a frame of its own.
pub taken-present : (s : Sharing) → AreListed s → members s + zero_pages s + sum_by own_frame s.pages ≤ present s
unfolding members zero_pages
taken-present s are =
    let n : ℕ = length s.pages in
    let grouped = lengths-listed n s.groups (λ i some. inside i some (state_at s i) refl) in
    let zeros = sum_below-list zeros_at s.pages None in
    let owns = sum_below-list own_frame s.pages None in
    let all = sum_below-list (λ (page : Option PageState). one_when (is_some page)) s.pages None in
    let first = sum_below-plus (λ i. listed i s.groups) (λ i. zeros_at (state_at s i)) n in
    let both = sum_below-plus (λ i. listed i s.groups + zeros_at (state_at s i)) (λ i. own_frame (state_at s i)) n in
    let most = sum_below-le (counted_at s) (λ i. one_when (is_some (state_at s i))) n (λ i below. counted_once s i are) in
    omega (arith, grouped, zeros, owns, all, first, both, most)
  where
    inside : (i : ℕ) → 1 ≤ listed i s.groups → (page : Option PageState) → state_at s i ≡ page → i < length s.pages
    inside i some None e =
        let once = counted_once s i are in
        let none = ap (λ (p : Option PageState). one_when (is_some p)) e in
        absurd (omega (arith, some, once, none))
    inside i some (Some state) e = state_inside s.pages i state e
