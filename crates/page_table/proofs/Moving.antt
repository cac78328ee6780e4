-- A page keeps its frame or moves to a shared frame of the same bytes: pages are marked, move, and join groups; and two pages become a new last group.
use Rattle.page_table.proofs.Base.{◌≡◌, ◌≢◌, ◌∙◌, ◌⊎◌, ℕ, zero, suc, ◌+◌, ◌-◌, ◌<◌, ◌≤◌, ◌==◌, true, false, List, [], ◌∷◌, ◌++◌, length, map, slice_index_or, slice_set, Option, Some, None, option_map, refl, ap, arith, get_or-set_other, length-set, set-get_or, sum_by-cons, length-append, map-append, nat_tests, Pass, Status, Grouped, Zero, is_shared, with_status, with_page, joined_by, paired, zeroed, zero_page, page_at, Entry, TableState, CountsState, IsOwnAt, IsTable, IsEntry, IsAlone, IsGroup, IsSound, AreCountsOf, times, one_if_zero, entry_at, contents_of, groups_of, state_of, states_of, sharing_of, forgets, is_on, indices_on, pages_on, used_by, joined_on, marked}
use Rattle.page_table.proofs.Entries.{one_when, on_one, equal, inside, alone, group_of, contents-set, indices_on-set, groups-kept, groups-each, pages_on-cons, none_on, states-set, reported_here, one_if_zero-above, counts-set, page-on, is_alone, entry_fits, table-set, table-changed, counted-changed, apart_alone, fits-after, own_seen, pages_on-changed, lies_alone, own_pages-set, content_at}
use Rattle.page_table.proofs.Counting.{times-push}
use Rattle.page_table.proofs.Waiters.{waiting-forgets}

-- the table with another entry at an index
abbrev pub with_entry : TableState → ℕ → Entry → TableState
with_entry table i x = record table { entries = slice_set table.entries i (Some x) }

-- the contents, where a page moves to a frame of the same bytes
pub contents-entry : (table : TableState) (i : ℕ) (entry x : Entry) (groups : List ℕ) → entry_at table.entries i ≡ Some entry → page_at table.arena x.frame ≡ page_at table.arena entry.frame
    → contents_of (record table { entries = slice_set table.entries i (Some x); groups = groups }) ≡ contents_of table
unfolding contents_of
contents-entry table i entry x groups here same =
    grind (arith, contents-set table.arena table.arena table.entries i (Some x) (page_at table.arena entry.frame) same, content_at table i entry here, set-get_or (contents_of table) i [])

-- an entry with another status and fingerprint
abbrev pub marked_entry : Entry → Status → ℕ → Entry
marked_entry entry status last = record entry { status = status; last = Some last }

-- the page at an index has its own frame, and so has one of the new status
module _ (table : TableState) (i : ℕ) (entry : Entry) (status : Status) (last : ℕ)
    (is : IsTable table) (here : entry_at table.entries i ≡ Some entry) (own : is_shared entry.status ≡ false) (own_new : is_shared status ≡ false) where
  abbrev marks : Entry
  marks = marked_entry entry status last

  pages_on-marked : (g : ℕ) → pages_on g (slice_set table.entries i (Some marks)) ≡ pages_on g table.entries
  pages_on-marked g = grind (arith, pages_on-changed table.entries i entry (Some marks) here g)

  pub sharing-marked : (pass : Pass) → sharing_of (with_entry table i marks) pass ≡ with_page (sharing_of table pass) i (marked status last)
  unfolding groups_of
  sharing-marked pass = grind (arith, nat_tests, states-set (marked status last), here, groups-kept table.entries (with_entry table i marks).entries, indices_on-set)

  pub used-marked : used_by (with_entry table i marks) ≡ used_by table
  used-marked = grind (arith, own_pages-set, inside, own, own_new)

  pub sound-marked : (counts : CountsState) → AreCountsOf table counts → IsSound (with_entry table i marks) counts
  sound-marked counts counted =
      record {
        fits = grind (arith, nat_tests, table-changed table (with_entry table i marks) i (Some marks), entry_fits, is_alone, lies_alone, pages_on-marked, own, own_new);
        counted = grind (arith, nat_tests, counted-changed, used-marked, pages_on-marked);
      }

-- no more pages lie on a frame than there are indices
pub pages_on-le : (f : ℕ) (xs : List (Option Entry)) → pages_on f xs ≤ length xs
unfolding pages_on
pages_on-le f [] = omega arith
pages_on-le f (x ∷ xs) = grind (arith, sum_by-cons (on_one f) x xs, pages_on-le f xs)

-- The page at an index has its own frame, and another entry puts it on a shared frame of the same bytes.
pub record IsMove (table : TableState) (i : ℕ) (entry x : Entry) : Type 0 where
  pub is : IsTable table
  pub here : entry_at table.entries i ≡ Some entry
  pub own : is_shared entry.status ≡ false
  pub shared : is_shared x.status ≡ true
  pub fits : IsEntry table x
  pub same : page_at table.arena x.frame ≡ page_at table.arena entry.frame

-- an entry of a page that was merged onto the frame f
pub record IsMerged (old new : Entry) (f : ℕ) (status : Status) : Type 0 where
  pub state : state_of new ≡ with_status status (state_of old)
  pub frame : new.frame ≡ f
  pub status_is : new.status ≡ status
  pub protected : new.protected ≡ true

-- a page of zeros may move to the zero frame
pub move-zeroed : (table now : TableState) (i : ℕ) (entry x : Entry) → table ≡ now → IsTable table → entry_at now.entries i ≡ Some entry → IsOwnAt now i
    → slice_index_or (contents_of now) i [] ≡ zero_page → IsMerged entry x 0 Zero → IsMove table i entry x
move-zeroed table now i entry x e is there own zeros to = grind (arith, nat_tests, own_seen, content_at)

-- a page may move to the frame of a group of its bytes
pub move-joined : (table now : TableState) (i : ℕ) (entry x : Entry) (f : ℕ) → table ≡ now → IsTable table → entry_at now.entries i ≡ Some entry → IsOwnAt now i
    → 1 ≤ times f now.groups → slice_index_or (contents_of now) i [] ≡ page_at now.arena f → IsMerged entry x f Grouped → IsMove table i entry x
move-joined table now i entry x f h1 h2 h3 h4 h5 h6 h7 = grind (arith, nat_tests, own_seen, content_at, page-on)

module _ (table : TableState) (i : ℕ) (entry x : Entry) (move : IsMove table i entry x) where
  open move use {is, here, own, shared, fits, same}

  lone : IsAlone table entry.frame
  lone = is_alone table entry (entry_fits table i entry is here) own

  pages_on-moved : (g : ℕ) → pages_on g (with_entry table i x).entries + one_when (entry.frame == g) ≡ pages_on g table.entries + one_when (x.frame == g)
  pages_on-moved = pages_on-changed table.entries i entry (Some x) here

  pub contents-moved : contents_of (with_entry table i x) ≡ contents_of table
  contents-moved = contents-entry table i entry x table.groups here same

  pub used-moved : used_by (with_entry table i x) + 1 ≡ used_by table
  used-moved = grind (arith, own_pages-set, inside, own, shared)

  -- fewer pages lie on the new frame than there are indices
  pub few : (counts : CountsState) → AreCountsOf table counts → slice_index_or counts.counts x.frame 0 ≤ 32768
  few counts counted =
      grind (arith, nat_tests, counted.counted x.frame fits.frame, pages_on-moved x.frame, lone, pages_on-le x.frame (with_entry table i x).entries, length-set table.entries i (Some x), is.few)

  pub sound-moved : (old mid new : CountsState) → AreCountsOf table old
      → mid.counts ≡ slice_set old.counts x.frame (slice_index_or old.counts x.frame 0 + 1) → mid.unused ≡ old.unused
      → new.counts ≡ slice_set mid.counts entry.frame (slice_index_or mid.counts entry.frame 0 - 1)
      → length new.unused ≡ length mid.unused + one_if_zero (slice_index_or mid.counts entry.frame 0 - 1)
      → IsSound (with_entry table i x) new
  sound-moved old mid new counted share kept release left =
      record {
        fits = table-changed table (with_entry table i x) i (Some x) is refl refl refl is.pages is.zero
            (grind (arith, nat_tests, fits-after table (with_entry table i x) x, fits))
            (λ j y ne e a. grind (arith, nat_tests, pages_on-moved y.frame, a, apart_alone table i j entry y here e ne a.one))
            (λ g group. grind (arith, nat_tests, pages_on-moved g, group, lone));
        counted = grind (arith, nat_tests, length-set, get_or-set_other old.counts, one_if_zero-above, counted-changed, used-moved, counts-set, pages_on-moved, lone);
      }

  pub sharing-zeroed : IsMerged entry x 0 Zero → (pass : Pass) → sharing_of (with_entry table i x) (forgets i pass) ≡ zeroed (sharing_of table pass) i
  unfolding zeroed groups_of
  sharing-zeroed to pass = grind (arith, nat_tests, states-set (with_status Zero), groups-kept table.entries (with_entry table i x).entries table.groups, indices_on-set, lone, group_of, here, waiting-forgets)

-- no indices are on a frame without pages
page_indices-none : (n f : ℕ) (xs : List (Option Entry)) → pages_on f xs ≡ 0 → indices_on n f xs ≡ []
unfolding indices_on
page_indices-none n f [] h = refl
page_indices-none n f (x ∷ xs) h = grind (arith, pages_on-cons f x xs, page_indices-none (n + 1) f xs)

-- the index of the one page on a frame
page_indices-one : (n f : ℕ) (xs : List (Option Entry)) (i : ℕ) → pages_on f xs ≡ 1 → is_on f (entry_at xs i) ≡ true → indices_on n f xs ≡ (n + i) ∷ []
unfolding indices_on
page_indices-one n f [] i h on = absurd (cc)
page_indices-one n f (x ∷ xs) zero h on = grind (arith, pages_on-cons f x xs, page_indices-none (n + 1) f xs)
page_indices-one n f (x ∷ xs) (suc i) h on = grind (arith, pages_on-cons f x xs, page_indices-one (n + 1) f xs i, none_on f xs i)

-- an index before all others joins them as the first
joined-first : (n m f : ℕ) (xs : List (Option Entry)) → n < m → joined_by n (indices_on m f xs) ≡ n ∷ indices_on m f xs
unfolding indices_on joined_by
joined-first n m f [] h = refl
joined-first n m f (x ∷ xs) h = grind (arith, nat_tests, joined-first n (m + 1) f xs)

-- the indices on a frame to which a page moves
page_indices-joined : (n f : ℕ) (xs : List (Option Entry)) (j : ℕ) (y : Option Entry) → j < length xs → is_on f y ≡ true → is_on f (entry_at xs j) ≡ false
    → indices_on n f (slice_set xs j y) ≡ joined_by (n + j) (indices_on n f xs)
unfolding indices_on joined_by
page_indices-joined n f [] j y h on off = absurd (omega arith)
page_indices-joined n f (x ∷ xs) zero y h on off = grind (arith, nat_tests, joined-first n (n + 1) f xs)
page_indices-joined n f (x ∷ xs) (suc j) y h on off = grind (arith, nat_tests, page_indices-joined (n + 1) f xs j y)

-- the indices from the first one on
joined-here : (f : ℕ) (xs : List (Option Entry)) (j : ℕ) (y : Option Entry) → j < length xs → is_on f y ≡ true → is_on f (entry_at xs j) ≡ false
    → indices_on 0 f (slice_set xs j y) ≡ joined_by j (indices_on 0 f xs)
joined-here f xs j y h on off = grind (arith, page_indices-joined 0 f xs j y)

-- a page joins the group of the frame f
module _ (table : TableState) (i : ℕ) (entry x : Entry) (f : ℕ) (move : IsMove table i entry x) (to : IsMerged entry x f Grouped) where
  open move use {here}

  pub groups-joined : groups_of (with_entry table i x) ≡ map (joined_on table i f) table.groups
  unfolding groups_of
  groups-joined = grind (arith, nat_tests, groups-each, lone, joined-here, inside, indices_on-set)

  pub states-joined : states_of (with_entry table i x).entries ≡ slice_set (states_of table.entries) i (option_map (with_status Grouped) (slice_index_or (states_of table.entries) i None))
  states-joined = states-set (with_status Grouped) table.entries i entry x here to.state

-- the table with a new last group, of the page at an index alone
abbrev pub founded : TableState → ℕ → Entry → TableState
founded table i x = record table { entries = slice_set table.entries i (Some x); groups = table.groups ++ x.frame ∷ [] }

-- Two pages of the same bytes, each with its own frame, and their entries in the new group of the first page's frame.
pub record IsPairing (table : TableState) (i j : ℕ) (one other x y : Entry) : Type 0 where
  pub is : IsTable table
  pub apart : i ≢ j
  pub first : entry_at table.entries i ≡ Some one
  pub second : entry_at table.entries j ≡ Some other
  pub own_first : is_shared one.status ≡ false
  pub own_second : is_shared other.status ≡ false
  pub to_first : IsMerged one x one.frame Grouped
  pub to_second : IsMerged other y one.frame Grouped
  pub same : page_at table.arena one.frame ≡ page_at table.arena other.frame

-- the table with two pages as a new last group
abbrev pub with_pair : TableState → ℕ → ℕ → Entry → Entry → TableState
with_pair table i j x y = with_entry (founded table i x) j y

-- two pages that callers see as such may pair
pub pairing-from : (table now : TableState) (i j : ℕ) (one other x y : Entry) → table ≡ now → IsTable table → i ≢ j
    → entry_at now.entries i ≡ Some one → entry_at now.entries j ≡ Some other → IsOwnAt now i → IsOwnAt now j
    → slice_index_or (contents_of now) i [] ≡ slice_index_or (contents_of now) j []
    → IsMerged one x one.frame Grouped → IsMerged other y one.frame Grouped → IsPairing table i j one other x y
pairing-from table now i j one other x y e is apart there_first there_second own_first own_second bytes to_first to_second =
    grind (arith, nat_tests, own_seen, content_at)

module _ (table : TableState) (i j : ℕ) (one other x y : Entry) (pairing : IsPairing table i j one other x y) where
  open pairing use {is, apart, first, second, own_first, own_second, to_first, to_second, same}

  pages_on-founded : (g : ℕ) → pages_on g (founded table i x).entries ≡ pages_on g table.entries
  pages_on-founded g = grind (arith, pages_on-changed table.entries i one (Some x) first g, to_first.frame)

  contents-founded : contents_of (founded table i x) ≡ contents_of table
  contents-founded = contents-entry table i one x (founded table i x).groups first (ap (page_at table.arena) to_first.frame)

  used-founded : used_by (founded table i x) ≡ used_by table
  used-founded = grind (arith, nat_tests, own_pages-set, inside, first, own_first, to_first, length-append table.groups (x.frame ∷ []))

  each-founded : (g : ℕ) → (times g (founded table i x).groups ≡ 0) ⊎ IsGroup (founded table i x) g
  each-founded g = grind (arith, nat_tests, is.groups g, times-push, to_first.frame, pages_on-founded g, is_alone, entry_fits)

  IsTable-founded : IsTable (founded table i x)
  IsTable-founded =
      table-set table (founded table i x) i (Some x) is refl refl is.pages is.zero (grind (arith, nat_tests, entry_fits table i one is first, to_first, times-push, to_first.frame, is_alone, entry_fits))
      (λ j y ne e. grind (arith, nat_tests, times-push, to_first.frame, pages_on-founded y.frame, apart_alone table j i y one e first, ne, is_alone, entry_fits)) each-founded

  counted-founded : (counts : CountsState) → AreCountsOf table counts → AreCountsOf (founded table i x) counts
  counted-founded counts counted = grind (arith, nat_tests, counted-changed, used-founded, pages_on-founded)

  here-founded : entry_at (founded table i x).entries j ≡ Some other
  here-founded = grind (arith, get_or-set_other table.entries i j (Some x) None, second, apart)

  move : IsMove (founded table i x) j other y
  move = grind (arith, nat_tests, IsTable-founded, here-founded, entry_fits table i one, times-push, to_first.frame, is_alone, entry_fits, pairing)

  pub contents-pair : contents_of (with_pair table i j x y) ≡ contents_of table
  contents-pair = contents-moved (founded table i x) j other y move ∙ contents-founded

  pub used-pair : used_by (with_pair table i j x y) + 1 ≡ used_by table
  used-pair = used-moved (founded table i x) j other y move ∙ used-founded

  pub sound-pair : (old mid new : CountsState) → AreCountsOf table old
      → mid.counts ≡ slice_set old.counts one.frame (slice_index_or old.counts one.frame 0 + 1) → mid.unused ≡ old.unused
      → new.counts ≡ slice_set mid.counts other.frame (slice_index_or mid.counts other.frame 0 - 1)
      → length new.unused ≡ length mid.unused + one_if_zero (slice_index_or mid.counts other.frame 0 - 1)
      → IsSound (with_pair table i j x y) new
  sound-pair old mid new counted share kept release left =
      sound-moved (founded table i x) j other y move old mid new (counted-founded old counted) (rw to_second.frame share) kept release left

  -- another group keeps its indices
  page_indices-kept : (g : ℕ) → 1 ≤ times g table.groups → indices_on 0 g (with_pair table i j x y).entries ≡ indices_on 0 g table.entries
  page_indices-kept g some = grind (arith, nat_tests, indices_on-set, here-founded, entry_fits, is_alone, pairing)

  -- the new group's indices
  page_indices-pair : indices_on 0 x.frame (with_pair table i j x y).entries ≡ joined_by i (j ∷ [])
  unfolding joined_by
  page_indices-pair =
      grind (arith, nat_tests, inside, here-founded, equal, alone, indices_on-set, pairing, page_indices-one 0, joined-here, is_alone, entry_fits)

  pub sharing-pair : (pass : Pass) → sharing_of (with_pair table i j x y) (forgets i (forgets j pass)) ≡ paired (sharing_of table pass) i j
  unfolding paired groups_of
  sharing-pair pass = grind (arith, nat_tests, reported_here state_of, states-set (with_status Grouped), here-founded, map-append (λ g. indices_on 0 g (with_pair table i j x y).entries) table.groups (x.frame ∷ []), groups-kept table.entries (with_pair table i j x y).entries table.groups page_indices-kept, page_indices-pair, waiting-forgets)
