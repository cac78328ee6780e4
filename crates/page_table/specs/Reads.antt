-- The law of every memory: how the pages' frames read together with what the sharing state says
-- (this project's own rule).
use Rattle.std.specs.Prelude.{◌≡◌, ◌≢◌, ◌⊎◌, ◌↔◌, ℕ, ◌+◌, ◌-◌, ◌*◌, ◌/◌, ◌%◌, ◌<◌, ◌≤◌, ◌==◌, ◌&&◌, not, Bool, false, List, [], length, filter, sum_by, All, AllPairs, Option, Some, None, option_map, unwrap_or, IsTrue, IsSome, IfSome}
use Rattle.std.specs.List.{list_any, range_with_len}
use Rattle.host_types.specs.declared.status.Status.{Status}
use Rattle.host_types.specs.declared.status.Status.TheVariants.{Grouped, Zero}
use Rattle.host_types.specs.Sharing.{Sharing, PageState, state_at, is_among}
use Rattle.host_types.specs.Pages.{zero_page}
use Rattle.host_types.specs.Pins.{PinsOwn}
use Rattle.host_types.specs.Memory.{FlatMap, map_at}
use Rattle.host_types.specs.Visits.{contents_in, next_from}
use Rattle.frame_arena.specs.Pages.{page_at}
use Rattle.page_table.specs.declared.tenant.Tenant.{Tenant}
use Rattle.page_table.specs.State.{MemoryState, frame_at, free_of}

-- the status of the page at an index
abbrev pub status_at : Sharing → ℕ → Option Status
status_at sharing i = option_map (λ (state : PageState). state.status) (state_at sharing i)

-- one of the groups has both indices
abbrev pub has_both : List (List ℕ) → ℕ → ℕ → Bool
has_both groups i j = list_any (λ group. is_among i group && is_among j group) groups

-- the pages at two indices were merged: both are in one group, or both are pages of zeros
abbrev pub AreMerged : Sharing → ℕ → ℕ → Type 0
AreMerged sharing i j = IsTrue (has_both sharing.groups i j) ⊎ ((status_at sharing i ≡ Some Zero) × (status_at sharing j ≡ Some Zero))

-- the frame of a page, if it is there, is f
abbrev pub is_frame : ℕ → Option ℕ → Bool
is_frame f None = false
is_frame f (Some frame) = frame == f

-- a page lies on the frame
abbrev pub is_taken : MemoryState → ℕ → Bool
is_taken memory f = list_any (is_frame f) memory.frames

-- the frames above the zero frame that no page lies on
abbrev pub free_frames : MemoryState → List ℕ
free_frames memory = filter (λ f. not (is_taken memory f)) (range_with_len 1 (length memory.arena - 1))

-- a map has bytes for the page at an index
abbrev pub HasPage : MemoryState → ℕ → Type 0
HasPage memory i =
    i % 256 * 4096 < length (unwrap_or (option_map (λ (flat : FlatMap). flat.bytes) (map_at memory.maps (i / 256))) [])

-- each group has pages, each of them once and in their order, all of them grouped; and each grouped
-- page is in one group
pub record AreGroups (sharing : Sharing) : Type 0 where
  pub some : All (λ group. 0 < length group) sharing.groups
  pub ordered : All (AllPairs (λ i j. i < j)) sharing.groups
  pub grouped : All (λ group. (i : ℕ) → IsTrue (is_among i group) → status_at sharing i ≡ Some Grouped) sharing.groups
  pub once : (i : ℕ) → status_at sharing i ≡ Some Grouped → length (filter (is_among i) sharing.groups) ≡ 1

-- Two pages lie on one frame exactly if they were merged, and just the merged pages of zeros lie on
-- the zero frame, which holds zeros. Each page has a frame, which is there, and no other index has
-- one. The free frames are those that no page lies on, and no more of them are reserved than there are. A
-- page is there exactly where a map has bytes for it, and its bytes are its frame's. Each tenant has
-- eight entries for maps, and 2048 indices for pages. No page that shares its frame is pinned. Unless a
-- pass begins, a page after the cursor may be merged.
pub record ReadsAs (memory : MemoryState) : Type 0 where
  pub one_frame : (i j x y : ℕ) → i ≢ j → frame_at memory i ≡ Some x → frame_at memory j ≡ Some y → (x ≡ y ↔ AreMerged memory.sharing i j)
  pub zero_frame : (i : ℕ) → (frame_at memory i ≡ Some 0 ↔ status_at memory.sharing i ≡ Some Zero)
  pub zeros : page_at memory.arena 0 ≡ zero_page
  pub numbered : (i : ℕ) → (IsSome (frame_at memory i) ↔ IsSome (state_at memory.sharing i))
  pub there : (i : ℕ) → IfSome (frame_at memory i) (λ frame. frame < length memory.arena)
  pub free : free_of memory ≡ length (free_frames memory)
  pub reserved : sum_by (λ (tenant : Tenant). tenant.reserve) memory.tenants ≤ free_of memory
  pub bytes : (i x : ℕ) → frame_at memory i ≡ Some x → page_at memory.arena x ≡ contents_in memory.maps i
  pub paged : (i : ℕ) → (IsSome (state_at memory.sharing i) ↔ HasPage memory i)
  pub eight : length memory.maps ≡ length memory.tenants * 8
  pub page_indices : length memory.sharing.pins ≡ length memory.tenants * 2048
  pub pinned : PinsOwn memory.sharing
  pub groups : AreGroups memory.sharing
  pub ahead : IfSome memory.sharing.cursor (λ c. IsSome (next_from memory.sharing (c + 1)))
