-- What a page table reads as: the page and status at each index, and which indices lie on one frame.
use Rattle.std.specs.Prelude.{◌≡◌, ◌≢◌, ◌⊎◌, ℕ, zero, suc, ◌+◌, ◌-◌, ◌*◌, ◌<◌, ◌≤◌, ◌==◌, ◌&&◌, nat_lt, not, bytes_eq, Bool, false, if◌then◌else◌, List, [], ◌∷◌, length, map, filter, take, drop, replicate, sum_by, slice_index_or, Option, None, Some, option_map, unwrap_or, IfSome}
use Rattle.std.specs.List.{concat}
use Rattle.host_types.specs.declared.shape.Shape.{Shape}
use Rattle.host_types.specs.declared.options.Options.{Options}
use Rattle.host_types.specs.declared.status.Status.{Status}
use Rattle.host_types.specs.declared.status.Status.TheVariants.{New, Volatile, Waiting, Grouped, Zero}
use Rattle.host_types.specs.Bytes.{part_of}
use Rattle.host_types.specs.Memory.{FlatMap, FlatMaps}
use Rattle.host_types.specs.Shapes.{IsShape, byte_len_of}
use Rattle.host_types.specs.Sharing.{Sharing, PageState, own_frame, is_shared, cost_of, joined_by}
use Rattle.host_types.specs.Pages.{zero_page}
use Rattle.frame_arena.specs.Pages.{page_at}
use Rattle.stable_tree.specs.Groups.{Groups, IsSorted, has}
use Rattle.unstable_tree.specs.declared.tree.Waiter.{Waiter}
use Rattle.page_table.specs.declared.entry.Entry.{Entry}
use Rattle.page_table.specs.declared.pass.Pass.{Pass}
use Rattle.page_table.specs.Limits.{page_count}

-- how often a number occurs in a list
abbrev pub times : ℕ → List ℕ → ℕ
times n xs = sum_by (λ x. if x == n then 1 else 0) xs

-- The frames in use: for each frame how many hold it, and the frames that nobody holds. The zero frame is always held.
pub record CountsState : Type 0 where
  pub counts : List ℕ
  pub unused : List ℕ

abbrev pub one_if_zero : ℕ → ℕ
one_if_zero zero = 1
one_if_zero (suc n) = 0

-- the unused frames are those whose count is 0, each listed once
pub record AreCounts (state : CountsState) : Type 0 where
  pub listed : (f : ℕ) → times f state.unused ≡ one_if_zero (slice_index_or state.counts f 1)

-- The groups' frames in order of creation, and how many frames there are.
pub record GroupsState : Type 0 where
  pub listed : List ℕ
  pub frames : ℕ

-- the groups in some slots; in an empty one stands the zero frame, which no group has
abbrev pub groups_in : List ℕ → List ℕ
groups_in slots = filter (λ f. not (f == 0)) slots

-- the slot of each group is noted by its frame
pub record AreNumbered (slots slot_of : List ℕ) : Type 0 where
  pub below : (i : ℕ) → i < length slots → slice_index_or slots i 0 < length slot_of
  pub numbered : (i : ℕ) → i < length slots → 0 < slice_index_or slots i 0 → slice_index_or slot_of (slice_index_or slots i 0) 0 ≡ i

-- The frames' pages, the entries by index, and the frames of the groups in order of creation.
pub record TableState : Type 0 where
  pub arena : List (List ℕ)
  pub entries : List (Option Entry)
  pub groups : List ℕ

abbrev pub entry_at : List (Option Entry) → ℕ → Option Entry
entry_at entries i = slice_index_or entries i None

-- what the memory's callers know of a page
abbrev pub state_of : Entry → PageState
state_of entry = record { mergeable = entry.mergeable; status = entry.status; last = entry.last }

abbrev pub states_of : List (Option Entry) → List (Option PageState)
states_of entries = map (option_map state_of) entries

abbrev pub frames_of : List (Option Entry) → List (Option ℕ)
frames_of entries = map (option_map (λ (entry : Entry). entry.frame)) entries

-- the bytes of a page that is there, else none
abbrev pub entry_content : List (List ℕ) → Option Entry → List ℕ
entry_content arena None = []
entry_content arena (Some entry) = page_at arena entry.frame

-- the bytes of the page at each index
unfoldable pub contents_of : TableState → List (List ℕ)
contents_of table = map (entry_content table.arena) table.entries

-- a page is there
abbrev pub IsPageAt : TableState → ℕ → Type 0
IsPageAt table i = length (slice_index_or (contents_of table) i []) ≡ 4096

-- the page lies on the frame
abbrev pub is_on : ℕ → Option Entry → Bool
is_on f None = false
is_on f (Some entry) = entry.frame == f

-- the indices, from n on, of the pages on a frame
unfoldable pub indices_on : ℕ → ℕ → List (Option Entry) → List ℕ
indices_on n f [] = []
indices_on n f (entry ∷ entries) = if is_on f entry then n ∷ indices_on (n + 1) f entries else indices_on (n + 1) f entries

-- the groups as lists of indices
unfoldable pub groups_of : TableState → List (List ℕ)
groups_of table = map (λ f. indices_on 0 f table.entries) table.groups

-- how many pages lie on a frame
unfoldable pub pages_on : ℕ → List (Option Entry) → ℕ
pages_on f entries = sum_by (λ entry. if is_on f entry then 1 else 0) entries

-- how many pages have a frame of their own
unfoldable pub own_pages : List (Option Entry) → ℕ
own_pages entries = sum_by (λ entry. own_frame (option_map state_of entry)) entries

-- the frames that are used up: the zero frame, one for each group and one for each page with its own
abbrev pub used_by : TableState → ℕ
used_by table = 1 + length table.groups + own_pages table.entries

-- one page lies on the frame, and no group has it
pub record IsAlone (table : TableState) (f : ℕ) : Type 0 where
  pub above : 0 < f
  pub one : pages_on f table.entries ≡ 1
  pub no_group : times f table.groups ≡ 0

-- one group has the frame, and has pages
pub record IsGroup (table : TableState) (f : ℕ) : Type 0 where
  pub above : 0 < f
  pub once : times f table.groups ≡ 1
  pub some : 1 ≤ pages_on f table.entries

-- A page with its own frame is alone there. A page of a group lies on the group's frame, and a page
-- of zeros on the zero frame.
abbrev pub LiesRight : TableState → ℕ → Status → Type 0
LiesRight table f New = IsAlone table f
LiesRight table f Volatile = IsAlone table f
LiesRight table f Waiting = IsAlone table f
LiesRight table f Grouped = times f table.groups ≡ 1
LiesRight table f Zero = f ≡ 0

-- an entry's frame is there, and fits its status, and so does its protection
pub record IsEntry (table : TableState) (entry : Entry) : Type 0 where
  pub frame : entry.frame < length table.arena
  pub protected : entry.protected ≡ is_shared entry.status
  pub right : LiesRight table entry.frame entry.status

-- each entry fits, each group has pages and a frame of its own, and the zero frame holds zeros
pub record IsTable (table : TableState) : Type 0 where
  pub some : 0 < length table.arena
  pub small : length table.arena ≤ 4096
  pub pages : (f : ℕ) → f < length table.arena → length (page_at table.arena f) ≡ 4096
  pub zero : page_at table.arena 0 ≡ zero_page
  pub entries : (i : ℕ) → IfSome (entry_at table.entries i) (IsEntry table)
  pub groups : (f : ℕ) → (times f table.groups ≡ 0) ⊎ IsGroup table f
  pub few : length table.entries ≤ 32768

-- the counts are those of the pages on each frame, and all frames but the used ones are listed as unused
pub record AreCountsOf (table : TableState) (counts : CountsState) : Type 0 where
  pub sized : length counts.counts ≡ length table.arena
  pub counted : (f : ℕ) → f < length table.arena → slice_index_or counts.counts f 0 ≡ one_if_zero f + pages_on f table.entries
  pub used : length counts.unused + used_by table ≡ length table.arena

-- a sound page table
pub record IsSound (table : TableState) (counts : CountsState) : Type 0 where
  pub fits : IsTable table
  pub counted : AreCountsOf table counts

-- The tree has the groups, those of each content in order of creation, and room for as many as there are frames.
pub record IsTreeOf (arena : List (List ℕ)) (groups : List ℕ) (tree : Groups) : Type 0 where
  pub sorted : IsSorted arena tree.chains
  pub listed : (bytes : List ℕ) → filter (has arena bytes) (concat tree.chains) ≡ filter (has arena bytes) groups
  pub room : length arena ≤ tree.room

-- the map's bytes, out of the contents of its 256 page numbers
abbrev pub flat_of : List (List ℕ) → Shape → FlatMap
flat_of pages shape = record { shape = shape; bytes = take (byte_len_of shape) (concat pages) }

-- the maps of these shapes by index, out of the contents of all indices
unfoldable pub maps_of : List (Option Shape) → List (List ℕ) → FlatMaps
maps_of [] contents = []
maps_of (shape ∷ shapes) contents = option_map (flat_of (take 256 contents)) shape ∷ maps_of shapes (drop 256 contents)

-- a map's pages are there and no others, and after the map's bytes they are zero
pub record ArePagesOf (shape : Shape) (pages : List (List ℕ)) : Type 0 where
  pub shaped : IsShape shape
  pub there : (n : ℕ) → n < page_count shape → length (slice_index_or pages n []) ≡ 4096
  pub none : (n : ℕ) → page_count shape ≤ n → slice_index_or pages n [] ≡ []
  pub padded : drop (byte_len_of shape) (concat pages) ≡ replicate (page_count shape * 4096 - byte_len_of shape) 0

-- where there is no map, there are no pages
abbrev pub ArePages : Option Shape → List (List ℕ) → Type 0
ArePages None pages = (n : ℕ) → slice_index_or pages n [] ≡ []
ArePages (Some shape) pages = ArePagesOf shape pages

-- the pages of each map are right
pub record AreMaps (shapes : List (Option Shape)) (contents : List (List ℕ)) : Type 0 where
  pub page_indices : length contents ≡ length shapes * 256
  pub each : (k : ℕ) → k < length shapes → ArePages (slice_index_or shapes k None) (part_of contents (k * 256) 256)

-- the start of the first pass, with room for so many waiting pages
abbrev pub new_pass : ℕ → ℕ → Options → Pass
new_pass room page_indices options =
    record { options = options; cursor = None; full_scans = 0; waiting = record { listed = []; room = room }; pins = replicate page_indices false }

-- a waiting page, as callers see it
abbrev pub waiting_of : Waiter → ℕ × ℕ
waiting_of waiter = (waiter.page_index, waiter.fingerprint)

-- the pass without a waiting page
abbrev pub forgets : ℕ → Pass → Pass
forgets i pass = record pass { waiting = record pass.waiting { listed = filter (λ w. not (w.page_index == i)) pass.waiting.listed } }

-- what a table and a pass say of the pages that share frames
abbrev pub sharing_of : TableState → Pass → Sharing
sharing_of table pass =
    record { pages = states_of table.entries; groups = groups_of table; waiting = map waiting_of pass.waiting.listed; cursor = pass.cursor; options = pass.options; full_scans = pass.full_scans; pins = pass.pins }

-- how many frames the break of a page takes, by how many pages lie on its frame
unfoldable pub break_frames : TableState → ℕ → ℕ
break_frames table i =
    unwrap_or (option_map (λ (entry : Entry). cost_of (nat_lt 1 (pages_on entry.frame table.entries)) entry.status) (entry_at table.entries i)) 0

-- the page at an index has a frame of its own
abbrev pub IsOwnAt : TableState → ℕ → Type 0
IsOwnAt table i = IfSome (entry_at table.entries i) (λ entry. is_shared entry.status ≡ false)

-- every page with a frame of its own stays as it is
abbrev pub AreOwnKept : TableState → TableState → Type 0
AreOwnKept old new =
    (i : ℕ) (entry : Entry) → entry_at old.entries i ≡ Some entry → is_shared entry.status ≡ false → entry_at new.entries i ≡ Some entry

-- every page with a frame of its own stays as it is, but for those at n indices from an index on
abbrev pub AreOwnKeptOutside : ℕ → ℕ → TableState → TableState → Type 0
AreOwnKeptOutside page_index n old new =
    (i : ℕ) (entry : Entry) → (i < page_index) ⊎ (page_index + n ≤ i) → entry_at old.entries i ≡ Some entry → is_shared entry.status ≡ false → entry_at new.entries i ≡ Some entry

-- every page but the one at an index stays as it is
abbrev pub AreOthersKept : ℕ → TableState → TableState → Type 0
AreOthersKept page_index old new = (i : ℕ) → i ≢ page_index → entry_at new.entries i ≡ entry_at old.entries i

-- the frame of a group has these bytes, and fewer pages lie on it than the limit
abbrev pub is_open_frame : TableState → List ℕ → ℕ → ℕ → Bool
is_open_frame table bytes limit f = bytes_eq (page_at table.arena f) bytes && nat_lt (pages_on f table.entries) limit

-- a page of a group, at whose index another page joins the group of the frame
abbrev pub joined_on : TableState → ℕ → ℕ → ℕ → List ℕ
joined_on table i f g = if g == f then joined_by i (indices_on 0 g table.entries) else indices_on 0 g table.entries

-- a page with another status and fingerprint
abbrev pub marked : Status → ℕ → PageState → PageState
marked status last state = record state { status = status; last = Some last }
