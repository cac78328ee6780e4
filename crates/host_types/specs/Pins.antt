-- Pinned pages, and the reserve that they cap (this project's own rules). A page that a store of a tenant's open run
-- takes out of a group or off the frame of zeros is pinned until that run ends: it isn't merged again before.
use Rattle.std.specs.Prelude.{◌≡◌, ℕ, zero, suc, ◌+◌, ◌*◌, ◌&&◌, min, Bool, true, false, if◌then◌else◌, List, length, replicate, slice_index_or, slice_set, Option, None, IsSomeAnd}
use Rattle.host_types.specs.declared.status.Status.TheVariants.{Volatile}
use Rattle.host_types.specs.Bytes.{with_part}
use Rattle.host_types.specs.Sharing.{Sharing, PageState, state_at, is_shared_page, broken}

-- the page at an index is pinned; after all indices there is none that could be taken out
abbrev pub is_pinned : List Bool → ℕ → Bool
is_pinned pins i = slice_index_or pins i true

-- the page at an index is pinned
abbrev pub pinned : Sharing → ℕ → Sharing
pinned sharing i = record sharing { pins = slice_set sharing.pins i true }

-- The break of a page before it is written: where it is taken out by an open run, it is pinned.
unfoldable pub broken_for_run : Bool → Sharing → ℕ → Sharing
broken_for_run running sharing i =
    if running && is_shared_page (state_at sharing i) then pinned (broken sharing i) i else broken sharing i

-- the breaks of n pages, one after another in page order
unfoldable pub broken_for_run_from : Bool → Sharing → ℕ → ℕ → Sharing
broken_for_run_from running sharing i zero = sharing
broken_for_run_from running sharing i (suc n) = broken_for_run_from running (broken_for_run running sharing i) (i + 1) n

-- a tenant's run ended: none of its pages is pinned
abbrev pub released : Sharing → ℕ → Sharing
released sharing tenant = record sharing { pins = with_part sharing.pins (tenant * 2048) (replicate 2048 false) }

-- a page that lies on a frame that isn't its own isn't pinned
abbrev pub PinsOwn : Sharing → Type 0
PinsOwn sharing = (i : ℕ) → is_shared_page (state_at sharing i) ≡ true → is_pinned sharing.pins i ≡ false

-- A pinned page is there, and has a frame of its own: its run took it out, and neither a visit nor a write changes that.
pub record PinsFit (pages : List (Option PageState)) (pins : List Bool) : Type 0 where
  pub as_many : length pins ≡ length pages
  pub volatile : (i : ℕ) → slice_index_or pins i false ≡ true → IsSomeAnd (slice_index_or pages i None) (λ (state : PageState). state.status ≡ Volatile)

-- how many of the n pages from an index on aren't pinned
unfoldable pub unpinned_from : List Bool → ℕ → ℕ → ℕ
unpinned_from pins i zero = 0
unpinned_from pins i (suc n) = (if is_pinned pins i then 0 else 1) + unpinned_from pins (i + 1) n

-- how many pages of the first n maps of a tenant that are written aren't pinned, by the numbers of their pages; the first
-- page of a map stands 256 indices after that of the map before
unfoldable pub unpinned_in : (ℕ → Bool) → (ℕ → ℕ) → List Bool → ℕ → ℕ → ℕ
unpinned_in writes pages pins page_index zero = 0
unpinned_in writes pages pins page_index (suc m) =
    unpinned_in writes pages pins page_index m + (if writes m then unpinned_from pins (page_index + m * 256) (pages m) else 0)

-- what the rest of a run may need: the sum of what its stores may take, and no more than the pages that they may take out
abbrev pub capped : ℕ → ℕ → ℕ
capped total unpinned = min total unpinned
