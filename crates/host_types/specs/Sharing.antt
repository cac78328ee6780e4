-- Which pages share frames, without frames: statuses, groups, and the waiting list (this project's
-- own rules, in the manner of Linux's KSM). A page is named by its index among all pages.
use Rattle.std.specs.Prelude.{ℕ, zero, suc, ◌+◌, ◌-◌, ◌==◌, ◌&&◌, nat_lt, not, Bool, true, false, if◌then◌else◌, List, [], ◌∷◌, ◌++◌, length, map, filter, sum_by, slice_index_or, slice_set, Option, Some, None, option_map, unwrap_or}
use Rattle.std.specs.List.{list_any}
use Rattle.host_types.specs.declared.options.Options.{Options}
use Rattle.host_types.specs.declared.status.Status.{Status}
use Rattle.host_types.specs.declared.status.Status.TheVariants.{New, Volatile, Waiting, Grouped, Zero}

-- a page: whether it may be merged, its status, and its fingerprint at its last visit
pub record PageState : Type 0 where
  pub mergeable : Bool
  pub status : Status
  pub last : Option ℕ

-- The pages by index; the groups in order of creation, a group being the list of its pages' indices
-- in their order; the waiting pages, each with its recorded fingerprint, in order of insertion; the
-- index of the page visited last in this pass, none at its start; the options; the passes ended;
-- for each index whether its page is pinned: an open run took it out, and it stays its own till then.
pub record Sharing : Type 0 where
  pub pages : List (Option PageState)
  pub groups : List (List ℕ)
  pub waiting : List (ℕ × ℕ)
  pub cursor : Option ℕ
  pub options : Options
  pub full_scans : ℕ
  pub pins : List Bool

-- the page at an index
abbrev pub state_at : Sharing → ℕ → Option PageState
state_at sharing i = slice_index_or sharing.pages i None

-- a page of this status lies on a write-protected frame
abbrev pub is_shared : Status → Bool
is_shared New = false
is_shared Volatile = false
is_shared Waiting = false
is_shared Grouped = true
is_shared Zero = true

-- a page that was never visited
abbrev pub new_page : Bool → PageState
new_page mergeable = record { mergeable = mergeable; status = New; last = None }

-- a page after it was taken out of its group or off the frame of zeros
abbrev pub broken_page : PageState → PageState
broken_page state = record state { status = Volatile; last = None }

-- a page with another status
abbrev pub with_status : Status → PageState → PageState
with_status status state = record state { status = status }

-- an index that a list has
abbrev pub is_among : ℕ → List ℕ → Bool
is_among i page_indices = list_any (λ j. j == i) page_indices

-- the indices of a group but one
abbrev pub without : ℕ → List ℕ → List ℕ
without i page_indices = filter (λ j. not (j == i)) page_indices

-- a group with one more index, in its order
unfoldable pub joined_by : ℕ → List ℕ → List ℕ
joined_by i [] = i ∷ []
joined_by i (j ∷ page_indices) = if nat_lt i j then i ∷ j ∷ page_indices else j ∷ joined_by i page_indices

-- the groups after a page left its own; a group without pages disappears
abbrev pub left_by : ℕ → List (List ℕ) → List (List ℕ)
left_by i groups = filter (λ group. nat_lt 0 (length group)) (map (without i) groups)

-- the waiting list without a page
abbrev pub waiting_without : ℕ → List (ℕ × ℕ) → List (ℕ × ℕ)
waiting_without i waiting = filter (λ entry. not (entry.0 == i)) waiting

-- a page that is there lies on a frame that isn't its own
abbrev pub is_shared_page : Option PageState → Bool
is_shared_page None = false
is_shared_page (Some state) = is_shared state.status

-- The break of a page before it is written: a page of a group or on the frame of zeros is taken out,
-- and has its own frame then. Another page stays as it is.
unfoldable pub broken : Sharing → ℕ → Sharing
broken sharing i =
    if is_shared_page (state_at sharing i)
    then record sharing { pages = slice_set sharing.pages i (option_map broken_page (state_at sharing i)); groups = left_by i sharing.groups }
    else sharing

-- the page is in a group, and another page is in it too
abbrev pub is_in_company : Sharing → ℕ → Bool
is_in_company sharing i = list_any (λ group. is_among i group && nat_lt 1 (length group)) sharing.groups

-- How many frames the break of a page of this status takes. The last page of a group keeps its frame.
abbrev pub cost_of : Bool → Status → ℕ
cost_of in_company New = 0
cost_of in_company Volatile = 0
cost_of in_company Waiting = 0
cost_of in_company Grouped = if in_company then 1 else 0
cost_of in_company Zero = 1

-- how many frames the break of a page takes
unfoldable pub break_cost : Sharing → ℕ → ℕ
break_cost sharing i = unwrap_or (option_map (λ (state : PageState). cost_of (is_in_company sharing i) state.status) (state_at sharing i)) 0

-- the breaks of n pages, one after another in page order
unfoldable pub pages_broken : Sharing → ℕ → ℕ → Sharing
pages_broken sharing i zero = sharing
pages_broken sharing i (suc n) = pages_broken (broken sharing i) (i + 1) n

-- what these breaks take, each after the breaks before it
unfoldable pub cost_from : Sharing → ℕ → ℕ → ℕ
cost_from sharing i zero = 0
cost_from sharing i (suc n) = break_cost sharing i + cost_from (broken sharing i) (i + 1) n

-- A page that isn't there any more, as its map was dropped: it left its group or the frame of zeros, and isn't pinned.
unfoldable pub gone : Sharing → ℕ → Sharing
gone sharing i = let left = broken sharing i in record left { pages = slice_set left.pages i None; pins = slice_set left.pins i false }

-- n pages that aren't there any more, one after another in page order
unfoldable pub gone_from : Sharing → ℕ → ℕ → Sharing
gone_from sharing i zero = sharing
gone_from sharing i (suc n) = gone_from (gone sharing i) (i + 1) n

-- two pages of the same bytes become a new last group, and leave the waiting list
unfoldable pub paired : Sharing → ℕ → ℕ → Sharing
paired sharing i j =
    let grouped : Option PageState → Option PageState = option_map (with_status Grouped) in
    record sharing {
      pages = slice_set (slice_set sharing.pages i (grouped (state_at sharing i))) j (grouped (state_at sharing j));
      groups = sharing.groups ++ joined_by i (j ∷ []) ∷ [];
      waiting = waiting_without i (waiting_without j sharing.waiting);
    }

-- a page of zeros goes to the frame of zeros, and leaves the waiting list
unfoldable pub zeroed : Sharing → ℕ → Sharing
zeroed sharing i =
    record sharing {
      pages = slice_set sharing.pages i (option_map (with_status Zero) (state_at sharing i));
      waiting = waiting_without i sharing.waiting;
    }

-- one for a page with a frame of its own
abbrev pub own_frame : Option PageState → ℕ
own_frame None = 0
own_frame (Some state) = if is_shared state.status then 0 else 1

-- the frames that are free: all but the zero frame, one for each group, and one for each page that
-- is neither in a group nor on the zero frame
unfoldable pub frames_free : ℕ → Sharing → ℕ
frames_free frames sharing = frames - 1 - length sharing.groups - sum_by own_frame sharing.pages
