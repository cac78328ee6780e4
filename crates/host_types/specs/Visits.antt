-- A visit of the scanner (this project's own rules, in the manner of Linux's KSM): a function of which
-- pages share frames and of the pages' bytes. And what becomes of a pass where a map is dropped.
use Rattle.std.specs.Prelude.{ℕ, ◌+◌, ◌/◌, ◌%◌, ◌==◌, ◌&&◌, ◌||◌, nat_le, nat_lt, not, filter, Bool, false, if◌then◌else◌, List, [], ◌∷◌, ◌++◌, length, drop, find, slice_set, Option, Some, None, option_map, unwrap_or, is_some, bytes_eq}
use Rattle.std.specs.List.{list_any}
use Rattle.host_types.specs.declared.status.Status.TheVariants.{Volatile, Waiting, Grouped}
use Rattle.host_types.specs.declared.visited.Visited.{Visited}
use Rattle.host_types.specs.declared.visited.Visited.TheVariants as visited
use Rattle.host_types.specs.Memory.{FlatMap, FlatMaps, map_at}
use Rattle.host_types.specs.Pages.{page_bytes, zero_page, fingerprint_of}
use Rattle.host_types.specs.Pins.{is_pinned}
use Rattle.host_types.specs.Sharing.{Sharing, PageState, state_at, is_shared, with_status, gone_from, joined_by, paired, zeroed}

-- the bytes of the page at each index
abbrev pub Contents : Type 0
Contents = ℕ → List ℕ

-- the bytes of the page at an index, read off the flat maps of all tenants, of which each has 256 indices
unfoldable pub contents_in : FlatMaps → Contents
contents_in maps i = page_bytes (unwrap_or (option_map (λ (flat : FlatMap). flat.bytes) (map_at maps (i / 256))) []) (i % 256)

-- a page that is there and may be merged
abbrev pub is_mergeable : Option PageState → Bool
is_mergeable None = false
is_mergeable (Some state) = state.mergeable

-- the first page of some that may be merged, the first of them being at an index
unfoldable pub first_mergeable : ℕ → List (Option PageState) → Option ℕ
first_mergeable page_index [] = None
first_mergeable page_index (page ∷ pages) = if is_mergeable page then Some page_index else first_mergeable (page_index + 1) pages

-- the first page from an index on that may be merged
abbrev pub next_from : Sharing → ℕ → Option ℕ
next_from sharing page_index = first_mergeable page_index (drop page_index sharing.pages)

-- the index at which the next visit looks first: after the page visited last, at the start of a pass at the first index
abbrev pub look_from : Option ℕ → ℕ
look_from None = 0
look_from (Some i) = i + 1

-- the page that is visited next
abbrev pub page_to_visit : Sharing → Option ℕ
page_to_visit sharing = next_from sharing (look_from sharing.cursor)

-- one more pass, as far as a number of 64 bits goes
abbrev pub one_more : ℕ → ℕ
one_more n = if n == 18446744073709551615 then n else n + 1

-- a page waits
abbrev pub is_waiting : Sharing → ℕ → Bool
is_waiting sharing i = list_any (λ entry. entry.0 == i) sharing.waiting

-- the page at an index is the one visited last; after the last page that may be merged the pass ends
unfoldable pub moved_on : Sharing → ℕ → Sharing
moved_on sharing i =
    if is_some (next_from sharing (i + 1))
    then record sharing { cursor = Some i }
    else record sharing { cursor = None; full_scans = one_more sharing.full_scans }

-- the waiting list at a visit: a new pass begins without it
abbrev pub waiting_at : Option ℕ → List (ℕ × ℕ) → List (ℕ × ℕ)
waiting_at None waiting = []
waiting_at (Some i) waiting = waiting

-- no page waits
abbrev pub flushed : Sharing → Sharing
flushed sharing = record sharing { waiting = [] }

-- what a visit of the page at an index begins with
unfoldable pub begun : Sharing → ℕ → Sharing
begun sharing i = moved_on (record sharing { waiting = waiting_at sharing.cursor sharing.waiting }) i

-- the bytes of a group's pages, which are those of its first one
unfoldable pub group_bytes : Contents → List ℕ → List ℕ
group_bytes contents [] = []
group_bytes contents (i ∷ page_indices) = contents i

-- the group has these bytes, and fewer pages than a frame may hold
abbrev pub is_open : Contents → Sharing → List ℕ → List ℕ → Bool
is_open contents sharing bytes group =
    bytes_eq (group_bytes contents group) bytes && nat_lt (length group) sharing.options.max_page_sharing

-- a group is open to the page at an index
unfoldable pub has_open : Contents → Sharing → ℕ → Bool
has_open contents sharing i = list_any (is_open contents sharing (contents i)) sharing.groups

-- the groups, of which the first that passes the test has one index more
unfoldable pub join_first : (List ℕ → Bool) → ℕ → List (List ℕ) → List (List ℕ)
join_first test i [] = []
join_first test i (group ∷ groups) = if test group then joined_by i group ∷ groups else group ∷ join_first test i groups

-- the page at an index is changed
abbrev pub with_page : Sharing → ℕ → (PageState → PageState) → Sharing
with_page sharing i change = record sharing { pages = slice_set sharing.pages i (option_map change (state_at sharing i)) }

-- the page joins the earliest open group of its bytes
unfoldable pub joined : Contents → Sharing → ℕ → Sharing
joined contents sharing i =
    record (with_page sharing i (with_status Grouped)) { groups = join_first (is_open contents sharing (contents i)) i sharing.groups }

-- the page has another fingerprint than at its last visit
unfoldable pub changed : Sharing → ℕ → ℕ → Sharing
changed sharing i fingerprint = with_page sharing i (λ state. record state { status = Volatile; last = Some fingerprint })

-- the page waits for another one of its bytes
unfoldable pub waits : Sharing → ℕ → ℕ → Sharing
waits sharing i fingerprint =
    record (with_page sharing i (with_status Waiting)) { waiting = sharing.waiting ++ (i, fingerprint) ∷ [] }

-- the page's fingerprint at its last visit
abbrev pub had : Option ℕ → ℕ → Bool
had None fingerprint = false
had (Some last) fingerprint = last == fingerprint

-- a waiting page that had this fingerprint, and has these bytes now
abbrev pub is_partner : Contents → ℕ → List ℕ → ℕ × ℕ → Bool
is_partner contents fingerprint bytes entry = (entry.1 == fingerprint) && bytes_eq (contents entry.0) bytes

-- the earliest partner of a page
abbrev pub find_partner : Contents → Sharing → ℕ → ℕ → Option (ℕ × ℕ)
find_partner contents sharing i fingerprint = find (is_partner contents fingerprint (contents i)) sharing.waiting

-- what a visit did, and what it left
abbrev pub Visit : Type 0
Visit = Visited × Sharing

-- the page and its partner are a new last group; without a partner it waits
unfoldable pub paired_or_waiting : Sharing → ℕ → ℕ → Option (ℕ × ℕ) → Visit
paired_or_waiting sharing i fingerprint None = (visited.Waiting, waits sharing i fingerprint)
paired_or_waiting sharing i fingerprint (Some entry) = (visited.Paired, paired sharing entry.0 i)

-- a page with a frame of its own: the first case that holds decides
unfoldable pub looked_at : Contents → Sharing → ℕ → Option ℕ → Visit
looked_at contents sharing i last =
    let bytes = contents i in
    let fingerprint = fingerprint_of bytes in
    if has_open contents sharing i then (visited.Joined, joined contents sharing i) else (
    if not (had last fingerprint) then (visited.Changed, changed sharing i fingerprint) else (
    if sharing.options.use_zero_pages == 1 && bytes_eq bytes zero_page then (visited.Zeroed, zeroed sharing i) else
    paired_or_waiting sharing i fingerprint (find_partner contents sharing i fingerprint)))

-- what becomes of the visited page
unfoldable pub decided : Contents → Sharing → ℕ → Option PageState → Visit
decided contents sharing i None = (visited.Idle, sharing)
decided contents sharing i (Some state) =
    if is_shared state.status || is_pinned sharing.pins i then (visited.Already, sharing) else looked_at contents sharing i state.last

-- the visit of a page, if there is one
unfoldable pub visit_of : Contents → Sharing → Option ℕ → Visit
visit_of contents sharing None = (visited.Idle, sharing)
visit_of contents sharing (Some i) = decided contents (begun sharing i) i (state_at sharing i)

-- one visit
unfoldable pub visit : Contents → Sharing → Visit
visit contents sharing =
    if sharing.options.run == 1 then visit_of contents sharing (page_to_visit sharing) else (visited.Idle, sharing)

-- the waiting list without the n pages from an index on
abbrev pub waiting_outside : ℕ → ℕ → List (ℕ × ℕ) → List (ℕ × ℕ)
waiting_outside page_index n waiting = filter (λ entry. not (nat_le page_index entry.0 && nat_lt entry.0 (page_index + n))) waiting

-- A pass where no page after the cursor may be merged ends, as it does in a visit. At the start of a
-- pass nothing changes.
abbrev pub ended_at : Sharing → Option ℕ → Sharing
ended_at sharing None = sharing
ended_at sharing (Some c) = moved_on sharing c

-- A map was dropped that had n pages from an index on: they leave their groups, the frame of zeros and
-- the waiting list, and the pass ends if no page after the cursor may be merged now.
unfoldable pub dropped : Sharing → ℕ → ℕ → Sharing
dropped sharing page_index n =
    ended_at (record (gone_from sharing page_index n) { waiting = waiting_outside page_index n sharing.waiting }) sharing.cursor
