-- How the plain program's lists read as a state of sharing.
use Rattle.std.specs.Prelude.{ℕ, Bool, false, ◌&&◌, nat_lt, bytes_eq, List, [], length, replicate, map, slice_index_or, Option, None, option_map, Vec}
use Rattle.std.specs.declared.alloc.Global.{Global}
use Rattle.host_types.specs.declared.options.Options.{Options}
use Rattle.host_types.specs.Sharing.{Sharing, PageState, own_frame}
use Rattle.host_types.specs.Counters.{unshared_at, volatile_at}
use Rattle.host_types.specs.Unmerging.{zeros_at}
use Rattle.host_types.specs.Visits.{Contents, group_bytes}
use Rattle.reference_sharing.specs.declared.pages.Sort.{Sort}
use Rattle.reference_sharing.specs.declared.pages.Sort.TheVariants.{Own, Zeros, Waiting, Volatile}
use Rattle.reference_sharing.specs.declared.sharing.PlainPage.{PlainPage}

-- a page
abbrev pub page_of : PlainPage → PageState
page_of page = record { mergeable = page.mergeable; status = page.status; last = page.last }

-- the pages by index
abbrev pub page_states : List (Option PlainPage) → List (Option PageState)
page_states pages = map (option_map page_of) pages

-- one for a page of a sort
abbrev pub one_of : Sort → Option PageState → ℕ
one_of Own = own_frame
one_of Zeros = zeros_at
one_of Waiting = unshared_at
one_of Volatile = volatile_at

-- the groups as lists of indices
abbrev pub indices_in : List (Vec ℕ Global) → List (List ℕ)
indices_in groups = map (λ group. group.items) groups

-- a state in which no page waits, none was visited and none is pinned
abbrev pub sharing_at_rest : List (Option PageState) → List (List ℕ) → Options → Sharing
sharing_at_rest pages groups options =
    record { pages = pages; groups = groups; waiting = []; cursor = None; options = options; full_scans = 0; pins = replicate (length pages) false }

-- the bytes of the page at each index, none past the list's end
abbrev pub plain_contents : List (Vec ℕ Global) → Contents
plain_contents pages i = slice_index_or (map (λ page. page.items) pages) i []

-- the bytes of each group's pages, in order of creation
abbrev pub bytes_of_each : Contents → List (Vec ℕ Global) → List (List ℕ)
bytes_of_each contents groups = map (group_bytes contents) (indices_in groups)

-- the group has these bytes, and fewer pages than the limit
abbrev pub is_open_below : ℕ → Contents → List ℕ → List ℕ → Bool
is_open_below limit contents bytes group = bytes_eq (group_bytes contents group) bytes && nat_lt (length group) limit
