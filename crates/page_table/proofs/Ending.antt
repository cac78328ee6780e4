-- A page table stays sound where a page is added, where one leaves a frame on which others lie, and where the last page leaves its group and keeps the frame.
use Rattle.page_table.proofs.Base.{◌≡◌, ◌≢◌, ◌∙◌, ◌⊎◌, ℕ, ◌+◌, ◌-◌, ◌<◌, ◌≤◌, ◌==◌, not, Bool, true, false, List, [], ◌∷◌, length, map, filter, slice_index_or, slice_set, Option, Some, None, option_map, refl, ap, arith, get_or-set_same, get_or-set_other, set-get_or, length-set, map-set, nil_from_length, nat_tests, get_or_default, get_or_past, ⊎_elim, zero, suc, ◌++◌, All, AllPairs, get_or_append_left, get_or-append-add, All-filter, filter_passes, AllPairs-filter, is_same, Pass, New, new_page, broken, broken_page, is_shared, left_by, without, without-length, times-gone, times-kept, some_kept, zero_page, length-zero_page, page_at, Entry, TableState, CountsState, IsTable, IsAlone, IsGroup, IsSound, AreCountsOf, times, one_if_zero, entry_at, state_of, states_of, contents_of, groups_of, sharing_of, indices_on, pages_on, used_by, filter-absent, AreNumbered, groups_in}
use Rattle.page_table.proofs.Entries.{one_when, on_one, elsewhere, equal, none_on, some_on, pages_on-set, inside, entry_content-kept, contents-set, indices_on-set, groups-kept, times-head, times-tail, one_if_zero-above, group_of, reported_here, counts-set, entry_fits, table-set, table-changed, counted-changed, lies_alone, apart_alone, pages_on-changed, own_pages-set, length-page_indices, without-here, state-at, content_at, times-cons}
use Rattle.page_table.proofs.Moving.{contents-entry}
use Rattle.std.proofs.Common.{length-append}

-- an unused frame is one that no page lies on, and isn't the zero frame
pub record IsUnused (table : TableState) (f : ℕ) : Type 0 where
  pub there : f < length table.arena
  pub above : 0 < f
  pub empty : pages_on f table.entries ≡ 0
  pub no_group : times f table.groups ≡ 0

pub unused-frame : (table : TableState) (counts : CountsState) (f : ℕ) → IsSound table counts → slice_index_or counts.counts f 1 ≡ 0 → IsUnused table f
unused-frame table counts f sound h = grind (arith, nat_tests, get_or_past, get_or_default)

-- the table where the entry at an index lies on a frame with other bytes
abbrev pub filled : TableState → ℕ → Entry → List ℕ → TableState
filled table i x page = record table { arena = slice_set table.arena x.frame page; entries = slice_set table.entries i (Some x) }

-- the frame was unused
module _ (table : TableState) (i : ℕ) (x : Entry) (page : List ℕ) (is : IsTable table) (free : IsUnused table x.frame) where
  pub contents-filled : contents_of (filled table i x page) ≡ slice_set (contents_of table) i page
  unfolding contents_of
  contents-filled =
      contents-set table.arena (slice_set table.arena x.frame page) table.entries i (Some x) page (get_or-set_same table.arena x.frame page [] free.there)
      (λ j ne. entry_content-kept table.arena x.frame page (entry_at table.entries j) (none_on x.frame table.entries j free.empty))

  -- the table stays sound where the entry before lay on no other page's own frame, and each group still has pages
  IsTable-filled : i < length table.entries → length page ≡ 4096 → is_shared x.status ≡ false → x.protected ≡ false
      → ((j : ℕ) (y : Entry) → j ≢ i → entry_at table.entries j ≡ Some y → IsAlone table y.frame → on_one y.frame (entry_at table.entries i) ≡ 0)
      → ((g : ℕ) → IsGroup table g → 1 ≤ pages_on g (filled table i x page).entries) → IsTable (filled table i x page)
  IsTable-filled there sized own unlocked apart still =
      grind (arith, nat_tests, table-changed table (filled table i x page) i (Some x), length-set, get_or-set_same, get_or-set_other, lies_alone, pages_on-set, elsewhere, none_on, free, still, apart)

-- a new page
abbrev pub added_entry : ℕ → Bool → Entry
added_entry f mergeable = record { frame = f; protected = false; mergeable = mergeable; status = New; last = None }

-- the table with a page of zeros more
abbrev pub added : TableState → ℕ → ℕ → Bool → TableState
added table i f mergeable = filled table i (added_entry f mergeable) zero_page

module _ (table : TableState) (i f : ℕ) (mergeable : Bool) (is : IsTable table) (free : IsUnused table f) (there : i < length table.entries) (empty : entry_at table.entries i ≡ None) where
  pub states-added : states_of (added table i f mergeable).entries ≡ slice_set (states_of table.entries) i (Some (new_page mergeable))
  states-added = map-set (option_map state_of) table.entries i (Some (added_entry f mergeable))

  pub groups-added : groups_of (added table i f mergeable) ≡ groups_of table
  unfolding groups_of
  groups-added = grind (arith, nat_tests, groups-kept table.entries (added table i f mergeable).entries table.groups, indices_on-set, free, empty)

  pub used-added : used_by (added table i f mergeable) ≡ used_by table + 1
  used-added = grind (arith, nat_tests, own_pages-set, there, empty)

  pub sound-added : (old new : CountsState) → AreCountsOf table old → new.counts ≡ slice_set old.counts f 1 → length new.unused + 1 ≡ length old.unused
      → IsSound (added table i f mergeable) new
  sound-added old new counted counts fewer =
      record {
        fits = grind (arith, nat_tests, IsTable-filled table i (added_entry f mergeable) zero_page is free, pages_on-set, length-zero_page, there, empty, free);
        counted = grind (arith, nat_tests, counted-changed, length-set, used-added, counts-set, pages_on-set, there, empty, one_if_zero-above, free);
      }

-- the groups after a page left, where each still has pages
pub groups-left : (old new : List (Option Entry)) (i : ℕ) (groups : List ℕ)
    → ((g : ℕ) → 1 ≤ times g groups → without i (indices_on 0 g old) ≡ indices_on 0 g new)
    → ((g : ℕ) → 1 ≤ times g groups → 1 ≤ pages_on g new)
    → map (λ g. indices_on 0 g new) groups ≡ left_by i (map (λ g. indices_on 0 g old) groups)
groups-left old new i [] same some = refl
groups-left old new i (g ∷ gs) same some =
    grind (arith, nat_tests, same g (times-head g gs), some g (times-head g gs), length-page_indices 0 g new, groups-left old new i gs, times-tail)

-- a page that is shared is broken, where its state and the groups say so
sharing-broken : (old new : TableState) (i : ℕ) (entry next : Entry) → entry_at old.entries i ≡ Some entry → is_shared entry.status ≡ true
    → new.entries ≡ slice_set old.entries i (Some next) → state_of next ≡ broken_page (state_of entry) → groups_of new ≡ left_by i (groups_of old)
    → (pass : Pass) → sharing_of new pass ≡ broken (sharing_of old pass) i
unfolding broken
sharing-broken old new i entry next h1 h2 h3 h4 h5 pass = grind (arith, nat_tests, reported_here state_of old.entries i entry, map-set (option_map state_of) old.entries i (Some next))

-- the table where the page at an index lies on a frame of its own, with a copy
abbrev pub left : TableState → ℕ → Entry → Entry → TableState
left table i entry next = filled table i next (page_at table.arena entry.frame)

module _ (table : TableState) (i : ℕ) (entry next : Entry) (is : IsTable table) (free : IsUnused table next.frame) (here : entry_at table.entries i ≡ Some entry)
    (shared : is_shared entry.status ≡ true) (company : 1 < one_if_zero entry.frame + pages_on entry.frame table.entries)
    (state : state_of next ≡ broken_page (state_of entry)) (own : is_shared next.status ≡ false) where
  pages_on-left : (g : ℕ) → pages_on g (left table i entry next).entries + one_when (entry.frame == g) ≡ pages_on g table.entries + one_when (next.frame == g)
  pages_on-left = pages_on-changed table.entries i entry (Some next) here

  pub contents-left : contents_of (left table i entry next) ≡ contents_of table
  contents-left = grind (arith, contents-filled table i next (page_at table.arena entry.frame) is free, content_at table i entry here, set-get_or (contents_of table) i [])

  -- each group still has pages
  still : (g : ℕ) → IsGroup table g → 1 ≤ pages_on g (left table i entry next).entries
  still g group = grind (arith, nat_tests, pages_on-left g, company, group.some, one_if_zero-above g group.above)

  groups_of-left : groups_of (left table i entry next) ≡ left_by i (groups_of table)
  unfolding groups_of
  groups_of-left = grind (arith, nat_tests, groups-left table.entries (left table i entry next).entries i table.groups, without-here, still, group_of, free)

  pub sharing-left : (pass : Pass) → sharing_of (left table i entry next) pass ≡ broken (sharing_of table pass) i
  sharing-left = sharing-broken table (left table i entry next) i entry next here shared refl state groups_of-left

  pub used-left : used_by (left table i entry next) ≡ used_by table + 1
  used-left = grind (arith, own_pages-set, inside, shared, own)

  pub sound-left : (old taken new : CountsState) → next.protected ≡ false → AreCountsOf table old
      → taken.counts ≡ slice_set old.counts next.frame 1 → length taken.unused + 1 ≡ length old.unused
      → new.counts ≡ slice_set taken.counts entry.frame (slice_index_or taken.counts entry.frame 0 - 1)
      → length new.unused ≡ length taken.unused + one_if_zero (slice_index_or taken.counts entry.frame 0 - 1)
      → IsSound (left table i entry next) new
  sound-left old taken new protected counted took fewer counts more =
      record {
        fits = grind (arith, nat_tests, IsTable-filled table i next (page_at table.arena entry.frame) is free, still, apart_alone, entry_fits, inside, here, own, free);
        counted = grind (arith, nat_tests, counted-changed, length-set, used-left, counts-set, pages_on-left, one_if_zero-above, entry_fits, elsewhere, none_on, here, free, company);
      }

-- a list of frames without one of them
abbrev pub but : ℕ → List ℕ → List ℕ
but f frames = filter (λ g. not (g == f)) frames

-- the groups after the only page of one left it
left-groups : (old new : List (Option Entry)) (f i : ℕ) (groups : List ℕ) → without i (indices_on 0 f old) ≡ []
    → ((g : ℕ) → 1 ≤ times g groups → g ≢ f → (without i (indices_on 0 g old) ≡ indices_on 0 g new) × (0 < length (indices_on 0 g new)))
    → left_by i (map (λ g. indices_on 0 g old) groups) ≡ map (λ g. indices_on 0 g new) (but f groups)
left-groups old new f i [] gone stay = refl
left-groups old new f i (g ∷ gs) gone stay =
    grind (arith, nat_tests, gone, stay g (times-head g gs), some_kept (indices_on 0 g new) (left_by i (map (λ g. indices_on 0 g old) gs)), left-groups old new f i gs gone, times-tail)

-- a page with a frame of its own stays
pub sharing-unbroken : (table : TableState) (pass : Pass) (i : ℕ) (entry : Entry) → IsTable table → entry_at table.entries i ≡ Some entry → entry.protected ≡ false
    → sharing_of table pass ≡ broken (sharing_of table pass) i
unfolding broken
sharing-unbroken table pass i entry h1 h2 h3 = grind (arith, nat_tests, state-at table pass i, entry_fits table i entry)

-- the table after the last page of a group left it
abbrev pub ended : TableState → ℕ → Entry → ℕ → TableState
ended table i new f = record table { entries = slice_set table.entries i (Some new); groups = but f table.groups }

module _ (table : TableState) (i : ℕ) (entry new : Entry) (is : IsTable table) (here : entry_at table.entries i ≡ Some entry) (shared : is_shared entry.status ≡ true)
    (last : one_if_zero entry.frame + pages_on entry.frame table.entries ≡ 1) (state : state_of new ≡ broken_page (state_of entry)) (frame : new.frame ≡ entry.frame) where
  -- the page is of a group
  pub one_group : times entry.frame table.groups ≡ 1
  one_group = grind (arith, nat_tests, entry_fits, some_on entry.frame table.entries i, equal)

  pages_on-ended : (g : ℕ) → pages_on g (ended table i new entry.frame).entries ≡ pages_on g table.entries
  pages_on-ended g = grind (arith, pages_on-changed table.entries i entry (Some new) here g, frame)

  pub contents-ended : contents_of (ended table i new entry.frame) ≡ contents_of table
  contents-ended = contents-entry table i entry new (but entry.frame table.groups) here (ap (page_at table.arena) frame)

  -- no index is left on the frame, and another group keeps its indices
  gone : without i (indices_on 0 entry.frame table.entries) ≡ []
  gone =
      without-here entry.frame table.entries i None refl
      ∙ nil_from_length _ (grind (arith, nat_tests, length-page_indices 0 entry.frame (slice_set table.entries i None), pages_on-changed table.entries i entry None here entry.frame, one_if_zero-above, one_group))

  groups-ended : groups_of (ended table i new entry.frame) ≡ left_by i (groups_of table)
  unfolding groups_of
  groups-ended = grind (arith, nat_tests, left-groups table.entries (slice_set table.entries i (Some new)) entry.frame i table.groups gone, without-here, length-page_indices, pages_on-ended, group_of, frame)

  pub sharing-ended : (pass : Pass) → sharing_of (ended table i new entry.frame) pass ≡ broken (sharing_of table pass) i
  sharing-ended = sharing-broken table (ended table i new entry.frame) i entry new here shared refl state groups-ended

  pub used-ended : used_by (ended table i new entry.frame) ≡ used_by table
  used-ended = grind (arith, nat_tests, own_pages-set, inside, shared, state, without-length entry.frame table.groups, one_group)

  each-ended : (g : ℕ) → (times g (but entry.frame table.groups) ≡ 0) ⊎ IsGroup (ended table i new entry.frame) g
  each-ended g = grind (arith, nat_tests, is.groups g, times-gone entry.frame table.groups, times-kept entry.frame g table.groups, pages_on-ended g)

  pub sound-ended : (counts : CountsState) → new.protected ≡ false → AreCountsOf table counts → IsSound (ended table i new entry.frame) counts
  sound-ended counts unlocked counted =
      let none : times entry.frame (but entry.frame table.groups) ≡ 0 = times-gone entry.frame table.groups in
      record {
        fits = table-set table (ended table i new entry.frame) i (Some new) is refl refl is.pages is.zero
            (grind (arith, nat_tests, entry_fits table i entry is here, lies_alone (ended table i new entry.frame), pages_on-ended, one_if_zero-above, one_group, group_of table entry.frame, none, state, frame, unlocked))
            (λ j y ne e. grind (arith, nat_tests, times-kept entry.frame y.frame table.groups, pages_on-ended y.frame, apart_alone table j i y entry e here, ne, one_if_zero-above, one_group)) each-ended;
        counted = grind (arith, nat_tests, counted-changed, used-ended, pages_on-ended);
      }

-- ---- The slots of the groups in order of creation

pub full : (x : ℕ) → 0 < x → (x == 0) ≡ false
full x h = grind (arith, nat_tests)

empty : (x : ℕ) → (x == 0) ≡ true → x ≡ 0
empty x h = grind (arith, nat_tests)

some : (x : ℕ) → (x == 0) ≡ false → 0 < x
some x h = grind (arith, nat_tests)

-- the group in a slot is one of the groups
pub in-groups : (slots : List ℕ) (i : ℕ) → i < length slots → 0 < slice_index_or slots i 0 → 1 ≤ times (slice_index_or slots i 0) (groups_in slots)
in-groups [] i h above = absurd (omega (arith, h))
in-groups (x ∷ xs) zero h above = grind (arith, nat_tests, times-head x (groups_in xs))
in-groups (x ∷ xs) (suc i) h above = grind (arith, in-groups xs i, times-tail (slice_index_or xs i 0) x (groups_in xs))

-- where a group stands
pub slot-of-group : (slots : List ℕ) (f : ℕ) → 1 ≤ times f (groups_in slots) → (i : ℕ) × (i < length slots) × (slice_index_or slots i 0 ≡ f) × (0 < f)
slot-of-group [] f h = absurd (omega (arith, h))
slot-of-group (x ∷ xs) f h =
    ⊎_elim (λ here. (0, omega arith, here.0, here.1)) (λ rest. let found = slot-of-group xs f rest in let within = found.1 in (suc found.0, omega (arith, within), found.2, found.3)) by_head
  where
    by_head : ((x ≡ f) × (0 < f)) ⊎ (1 ≤ times f (groups_in xs))
    by_head = grind (arith, nat_tests, times-cons f x (groups_in xs), is_same x f)

-- a slot that is emptied
pub groups-emptied : (slots : List ℕ) (i f : ℕ) → i < length slots → slice_index_or slots i 0 ≡ f → ((j : ℕ) → j < length slots → slice_index_or slots j 0 ≡ f → j ≡ i)
    → groups_in (slice_set slots i 0) ≡ but f (groups_in slots)
groups-emptied [] i f h here once = absurd (omega (arith, h))
groups-emptied (x ∷ xs) zero f h here once =
    let absent : All (λ g. g ≢ f) xs = λ k d less. grind (arith, once (suc k), get_or_default xs k 0 d less) in
    grind (arith, nat_tests, filter-absent (groups_in xs) f (All-filter (λ g. not (g == 0)) (λ g. g ≢ f) xs absent))
groups-emptied (x ∷ xs) (suc i) f h here once =
    grind (arith, nat_tests, once 0, groups-emptied xs i f (omega arith) here (λ j less e. let page_index = once (suc j) (omega (arith, less)) e in omega (arith, page_index)))

module _ (slots slot_of : List ℕ) (are : AreNumbered slots slot_of) where
  -- a group stands once
  pub stands-once : (i j : ℕ) → i < length slots → j < length slots → 0 < slice_index_or slots i 0 → slice_index_or slots j 0 ≡ slice_index_or slots i 0 → j ≡ i
  stands-once i j h k above same = grind (arith, nat_tests)

  -- a new group after the others
  pub numbered-pushed : (f : ℕ) → 0 < f → f < length slot_of → times f (groups_in slots) ≡ 0 → AreNumbered (slots ++ f ∷ []) (slice_set slot_of f (length slots))
  numbered-pushed f above there none =
      record {
        below = λ j less. grind (arith, nat_tests, length-append slots (f ∷ []), get_or-append-add slots (f ∷ []) 0 0, get_or_append_left slots (f ∷ []) 0 j, length-set slot_of f (length slots), are.below j, is_same j (length slots));
        numbered = λ j less full. grind (arith, nat_tests, length-append slots (f ∷ []), get_or-append-add slots (f ∷ []) 0 0, get_or_append_left slots (f ∷ []) 0 j, in-groups slots j, get_or-set_same slot_of f (length slots) 0, get_or-set_other slot_of f (slice_index_or slots j 0) (length slots) 0, are.numbered j, is_same j (length slots));
      }

  -- the groups alone
  pub groups-below : All (λ f. f < length slot_of) (groups_in slots)
  groups-below = All-filter (λ g. not (g == 0)) (λ f. f < length slot_of) slots (λ k d less. grind (arith, get_or_default slots k d 0, are.below k))

  pub groups-apart : AllPairs (λ f g. f ≢ g) (groups_in slots)
  groups-apart = λ i j d less there same. grind (arith, nat_tests, kept i j d less there, filter_passes (λ g. not (g == 0)) slots i d)
    where
      kept : AllPairs (λ f g. 0 < f → f ≢ g) (groups_in slots)
      kept =
          AllPairs-filter (λ f g. 0 < f → f ≢ g) (λ g. not (g == 0)) slots (λ i j d less there above same. grind (arith, get_or_default slots i 0 d, get_or_default slots j 0 d, stands-once i j))

-- the groups alone have no empty slot
pub groups-again : (slots : List ℕ) → groups_in (groups_in slots) ≡ groups_in slots
groups-again [] = refl
groups-again (x ∷ xs) = grind (arith, groups-again xs)
