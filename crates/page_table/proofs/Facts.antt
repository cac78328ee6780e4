-- The law of every memory, from what holds of its table.
use Rattle.page_table.proofs.Base.{◌≡◌, ◌≢◌, ◌∙◌, ◌↔◌, ℕ, zero, suc, ◌+◌, ◌<◌, ◌≤◌, true, not, List, [], ◌∷◌, length, map, filter, All, AllPairs, slice_index_or, Option, Some, None, IsSome, IfSome, option_map, refl, sym, ap, arith, list_any, get_or_default, length-map, AllPairs-cons, nat_tests, Pass, Shape, Status, Grouped, Zero, PinsFit, is_among, fit-own, contents_in, next_from, page_at, Entry, Tenant, MemoryState, free_of, part, TableState, CountsState, IsTable, IsEntry, IsSound, AreCounts, contents_of, times, one_if_zero, entry_at, state_of, states_of, frames_of, groups_of, sharing_of, is_on, indices_on, view_of, IsMemory, ReadsAs, AreGroups, AreMerged, HasPage, status_at, has_both, is_frame, free_frames}
use Rattle.page_table.proofs.Entries.{one_when, alone, inside, times-head, times-tail, one_if_zero-above, times-cons, reported_at, group_of, entry_reported, entry_fits, among-page_indices, length-page_indices, free_is, page_there as no_page, page_of_entry}
use Rattle.page_table.proofs.Maps.{length-maps_of}
use Rattle.page_table.proofs.Reading.{map_at-part, is_page_at}
use Rattle.page_table.proofs.Recording.{reserved_fits}
use Rattle.page_table.proofs.Scanning.{page_there, frame_reported, named}
use Rattle.page_table.proofs.Creating.{length-contents}
use Rattle.page_table.proofs.Counting.{length-unused, empty-frame}

status_is : (table : TableState) (pass : Pass) (i : ℕ) → status_at (sharing_of table pass) i ≡ option_map (λ (entry : Entry). entry.status) (entry_at table.entries i)
status_is table pass i = grind (arith, reported_at state_of table.entries i)

-- a page that is there, with its frame and status
record Lies (table : TableState) (i x : ℕ) : Type 0 where
  pub entry : Entry
  pub here : entry_at table.entries i ≡ Some entry
  pub on : entry.frame ≡ x
  pub fits : IsEntry table entry

lies : (table : TableState) (i x : ℕ) → IsTable table → slice_index_or (frames_of table.entries) i None ≡ Some x → Lies table i x
lies table i x is h = grind (arith, entry_reported (λ (entry : Entry). entry.frame) table.entries i x h, entry_fits table i)

answer : (table : TableState) (pass : Pass) (i : ℕ) (status : Status) → IsTable table → status_at (sharing_of table pass) i ≡ Some status → (entry : Entry) × (entry_at table.entries i ≡ Some entry) × (entry.status ≡ status) × IsEntry table entry
answer table pass i status h1 h2 = grind (arith, nat_tests, status_is table pass i, entry_fits table i, entry_reported, reported_at)

status_there : (table : TableState) (pass : Pass) (i : ℕ) (entry : Entry) (status : Status) → entry_at table.entries i ≡ Some entry → entry.status ≡ status → status_at (sharing_of table pass) i ≡ Some status
status_there table pass i entry status e same = status_is table pass i ∙ ap (option_map (λ (entry : Entry). entry.status)) e ∙ ap Some same

among : (f : ℕ) (xs : List (Option Entry)) (i : ℕ) → is_among i (indices_on 0 f xs) ≡ is_on f (entry_at xs i)
among f xs i = let same : 0 + i ≡ i = omega arith in ap (λ n. is_among n (indices_on 0 f xs)) (sym same) ∙ among-page_indices 0 f xs i

-- two pages of one entry's frame, a group's, are in that group
both_there : (xs : List (Option Entry)) (groups : List ℕ) (i j f : ℕ) → is_on f (entry_at xs i) ≡ true → is_on f (entry_at xs j) ≡ true → 1 ≤ times f groups
    → has_both (map (λ g. indices_on 0 g xs) groups) i j ≡ true
both_there xs [] i j f one other some = absurd (omega (arith, some))
both_there xs (g ∷ gs) i j f one other some =
    grind (arith, nat_tests, times-cons f g gs, among g xs i, among g xs j, both_there xs gs i j f one other)

-- two pages of a group lie on one frame
both_lie : (xs : List (Option Entry)) (groups : List ℕ) (i j : ℕ) (one other : Entry) → entry_at xs i ≡ Some one → entry_at xs j ≡ Some other
    → has_both (map (λ g. indices_on 0 g xs) groups) i j ≡ true → one.frame ≡ other.frame
both_lie xs [] i j one other e k h = absurd (cc)
both_lie xs (g ∷ gs) i j one other e k h = grind (arith, nat_tests, among, both_lie xs gs i j one other e k)

-- what holds of each group's indices holds of all groups
all_groups : (P : List ℕ → Type 0) (xs : List (Option Entry)) (groups : List ℕ) → ((g : ℕ) → 1 ≤ times g groups → P (indices_on 0 g xs)) → All P (map (λ g. indices_on 0 g xs) groups)
all_groups P xs [] h k d lt = absurd (omega arith)
all_groups P xs (g ∷ gs) h zero d lt = h g (times-head g gs)
all_groups P xs (g ∷ gs) h (suc k) d lt = all_groups P xs gs (λ f some. let more = times-tail f g gs in h f (omega arith)) k d (omega arith)

-- a page is in as many groups as its frame is a group's
in_groups : (xs : List (Option Entry)) (groups : List ℕ) (i : ℕ) (entry : Entry) → entry_at xs i ≡ Some entry → length (filter (is_among i) (map (λ g. indices_on 0 g xs) groups)) ≡ times entry.frame groups
in_groups xs [] i entry e = refl
in_groups xs (g ∷ gs) i entry e = grind (arith, nat_tests, times-cons entry.frame g gs, among, in_groups xs gs i entry e)

-- the indices on a frame are in order
page_indices_above : (n f : ℕ) (xs : List (Option Entry)) → All (λ i. n ≤ i) (indices_on n f xs)
unfolding indices_on
page_indices_above n f [] = λ k d lt. absurd (omega arith)
page_indices_above n f (x ∷ xs) = grind (arith, nat_tests, page_indices_above (n + 1) f xs)

page_indices_ordered : (n f : ℕ) (xs : List (Option Entry)) → AllPairs (λ i j. i < j) (indices_on n f xs)
unfolding indices_on
page_indices_ordered n f [] = λ i j d before lt. absurd (omega arith)
page_indices_ordered n f (x ∷ xs) = grind (arith, nat_tests, page_indices_above, AllPairs-cons, page_indices_ordered (n + 1) f xs)

module _ (table : TableState) (pass : Pass) (is : IsTable table) where
  member : (g i : ℕ) → 1 ≤ times g table.groups → is_on g (entry_at table.entries i) ≡ true → status_at (sharing_of table pass) i ≡ Some Grouped
  member g i some h = grind (arith, nat_tests, entry_fits table i, group_of, status_is table pass i)

  pub are_groups : AreGroups (sharing_of table pass)
  unfolding groups_of
  are_groups =
      record {
        some = all_groups (λ group. 0 < length group) table.entries table.groups (λ g some. grind (arith, length-page_indices 0 g table.entries, group_of table g is some));
        ordered = all_groups (AllPairs (λ i j. i < j)) table.entries table.groups (λ g some. page_indices_ordered 0 g table.entries);
        grouped = all_groups (λ group. (i : ℕ) → is_among i group ≡ true → status_at (sharing_of table pass) i ≡ Some Grouped) table.entries table.groups (λ g some i h. member g i some (sym (among g table.entries i) ∙ h));
        once = λ i h. grind (arith, nat_tests, answer table pass i Grouped is h, in_groups table.entries table.groups i);
      }

  apart : (i j x y : ℕ) → i ≢ j → Lies table i x → Lies table j y → x ≡ y → AreMerged (sharing_of table pass) i j
  unfolding groups_of
  apart i j x y ne a b e = grind (arith, nat_tests, a, b, both_there table.entries table.groups i j x, alone x table.entries i j (inside table.entries i a.entry a.here), status_there table pass i a.entry Zero a.here, status_there table pass j b.entry Zero b.here, group_of)

  together : (i j x y : ℕ) → Lies table i x → Lies table j y → AreMerged (sharing_of table pass) i j → x ≡ y
  unfolding groups_of
  together i j x y a b both =
      grind (arith, nat_tests, a, b, both_lie table.entries table.groups i j a.entry b.entry a.here b.here, answer table pass i Zero is, answer table pass j Zero is)

  pub one_frame : (i j x y : ℕ) → i ≢ j → slice_index_or (frames_of table.entries) i None ≡ Some x → slice_index_or (frames_of table.entries) j None ≡ Some y → (x ≡ y ↔ AreMerged (sharing_of table pass) i j)
  one_frame i j x y ne h k = (apart i j x y ne (lies table i x is h) (lies table j y is k), together i j x y (lies table i x is h) (lies table j y is k))

-- where the pages of maps are, and their bytes
module _ (table : TableState) (shapes : List (Option Shape)) (tenants : List Tenant) (pass : Pass) (reserved : ℕ) (is : IsMemory table shapes tenants reserved) (fits : IsTable table) where
  abbrev view : MemoryState
  view = view_of table shapes tenants pass

  pub bytes_of_frame : (i x : ℕ) → slice_index_or (frames_of table.entries) i None ≡ Some x → page_at table.arena x ≡ contents_in view.maps i
  bytes_of_frame i x h = grind (arith, nat_tests, lies table i x fits h, frame_reported table shapes tenants pass reserved is i)

  pub paged_there : (i : ℕ) → IsSome (slice_index_or (states_of table.entries) i None) ↔ HasPage view i
  unfolding view_of part
  paged_there i = grind (arith, nat_tests, reported_at state_of table.entries i, page_there table shapes tenants pass reserved is (named i), page_of_entry table i, map_at-part, no_page table i, is_page_at table shapes tenants pass reserved (named i) is)

module _ (table : TableState) (shapes : List (Option Shape)) (tenants : List Tenant) (pass : Pass) (reserved : ℕ) (is : IsMemory table shapes tenants reserved) (counts : CountsState) (sound : IsSound table counts) (listed : AreCounts counts) where
  held : one_if_zero (slice_index_or counts.counts 0 1) ≡ 0
  held = grind (arith, nat_tests, get_or_default counts.counts 0 1 0, sound, sound.counted.counted 0, sound.fits.some, one_if_zero-above)

  says : (f : ℕ) → 0 < f → f < length counts.counts → one_if_zero (slice_index_or counts.counts f 1) ≡ one_when (not (list_any (is_frame f) (frames_of table.entries)))
  says f above h = grind (arith, nat_tests, get_or_default counts.counts f 1 0, sound, sound.counted.counted f, one_if_zero-above f, empty-frame f table.entries)

  free_is_counted : free_of (view_of table shapes tenants pass) ≡ length (free_frames (view_of table shapes tenants pass))
  unfolding view_of
  free_is_counted =
      grind (arith, nat_tests, free_is table shapes tenants pass, length-unused counts.counts counts.unused (λ f. not (list_any (is_frame f) (frames_of table.entries))) listed held says, sound)

  pub reads_as : IfSome pass.cursor (λ c. IsSome (next_from (sharing_of table pass) (c + 1))) → PinsFit (states_of table.entries) pass.pins → ReadsAs (view_of table shapes tenants pass)
  unfolding view_of
  reads_as ahead pins = record { one_frame = one_frame table pass sound.fits; zero_frame = λ i. (λ h. grind (arith, nat_tests, lies table i 0 sound.fits h, status_is table pass i, group_of), λ h. grind (arith, nat_tests, answer table pass i Zero sound.fits h, reported_at (λ (entry : Entry). entry.frame) table.entries i)); zeros = sound.fits.zero; numbered = λ i. grind (arith, reported_at (λ (entry : Entry). entry.frame) table.entries i, reported_at state_of table.entries i); there = λ i. grind (arith, nat_tests, reported_at (λ (entry : Entry). entry.frame) table.entries i, entry_fits table i); free = free_is_counted; reserved = reserved_fits table shapes tenants pass reserved is; bytes = bytes_of_frame table shapes tenants pass reserved is sound.fits; paged = paged_there table shapes tenants pass reserved is sound.fits; eight = length-maps_of shapes (contents_of table) ∙ is.numbers; page_indices = omega (arith, pins.as_many, length-map table.entries (option_map state_of), length-contents table, is.maps.page_indices, is.numbers); pinned = fit-own (sharing_of table pass) pins; groups = are_groups table pass sound.fits; ahead = ahead }
