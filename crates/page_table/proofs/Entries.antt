-- Entries by index: what a change of one of them changes.
use Rattle.page_table.proofs.Base.{◌≡◌, ◌≢◌, ◌∙◌, ⊎_elim, ℕ, zero, suc, ◌+◌, ◌<◌, ◌≤◌, ◌==◌, Bool, true, false, if◌then◌else◌, List, [], ◌∷◌, length, map, option_map, slice_set, Option, Some, None, refl, ap, arith, slice_index_or, get_or-set_same, get_or-set_other, map-set, sum_by-set, sum_by-cons, nat_tests, get_or_past, get_or-map, ◌⊎◌, IfSome, sym, subst, length-set, ◌&&◌, nat_lt, list_any, sum_by, length-map, replicate, set-get_or, get_or-replicate, length-replicate, sum_by-replicate, is_shared, PageState, Entry, times, entry_at, entry_content, is_on, indices_on, pages_on, one_if_zero, TableState, IsTable, IsGroup, state_of, states_of, Status, own_frame, zero_page, page_at, CountsState, IsEntry, IsAlone, AreCountsOf, LiesRight, used_by, IsOwnAt, own_pages, is_among, without, Pass, Shape, frames_free, Tenant, free_of, groups_of, view_of, state_at, cost_of, break_cost, IsSound, sharing_of, break_frames, length-zero_page, IsPageAt, contents_of}

abbrev pub one_when : Bool → ℕ
one_when b = if b then 1 else 0

-- one where a page lies on the frame
abbrev pub on_one : ℕ → Option Entry → ℕ
on_one f x = if is_on f x then 1 else 0

-- a page that is on no frame f lies elsewhere
pub elsewhere : (f g : ℕ) → (g == f) ≡ false → g ≢ f
elsewhere f g h e = grind (arith, nat_tests)

pub not_equal : (f g : ℕ) → g ≢ f → (g == f) ≡ false
not_equal f g ne = grind (arith, nat_tests)

pub equal : (g : ℕ) → (g == g) ≡ true
equal g = grind (arith, nat_tests)

-- a frame other than the zero frame has no holders but its pages
pub one_if_zero-above : (f : ℕ) → 0 < f → one_if_zero f ≡ 0
one_if_zero-above f h1 = grind (arith, nat_tests)

-- how many pages lie on a frame after one entry is replaced
pub pages_on-set : (f : ℕ) (xs : List (Option Entry)) (i : ℕ) (x : Option Entry) → i < length xs
    → pages_on f (slice_set xs i x) + on_one f (entry_at xs i) ≡ pages_on f xs + on_one f x
unfolding pages_on
pages_on-set f xs i x h = sum_by-set (on_one f) xs i x None h

-- the first entry and the others, counted apart
pub pages_on-cons : (f : ℕ) (x : Option Entry) (xs : List (Option Entry)) → pages_on f (x ∷ xs) ≡ on_one f x + pages_on f xs
unfolding pages_on
pages_on-cons f x xs = sum_by-cons (on_one f) x xs

-- no page lies on a frame
pub none_on : (f : ℕ) (xs : List (Option Entry)) (i : ℕ) → pages_on f xs ≡ 0 → is_on f (entry_at xs i) ≡ false
none_on f [] i h = refl
none_on f (x ∷ xs) zero h = grind (arith, pages_on-cons f x xs)
none_on f (x ∷ xs) (suc i) h = grind (arith, pages_on-cons f x xs, none_on f xs i)

-- a page on a frame is counted there
pub some_on : (f : ℕ) (xs : List (Option Entry)) (i : ℕ) → is_on f (entry_at xs i) ≡ true → 1 ≤ pages_on f xs
some_on f xs i h = grind (arith, none_on f xs i)

-- what is there has an index
pub inside : {X : Type 0} (xs : List (Option X)) (i : ℕ) (x : X) → slice_index_or xs i None ≡ Some x → i < length xs
inside xs i x h = grind (arith, get_or_past xs i None)

-- what is reported of the entry at an index
pub reported_at : {X : Type 0} (report : Entry → X) (xs : List (Option Entry)) (i : ℕ) → slice_index_or (map (option_map report) xs) i None ≡ option_map report (entry_at xs i)
reported_at report xs i = get_or-map (option_map report) xs i None

-- of a page that is there
pub reported_here : {X : Type 0} (report : Entry → X) (xs : List (Option Entry)) (i : ℕ) (entry : Entry) → entry_at xs i ≡ Some entry
    → slice_index_or (map (option_map report) xs) i None ≡ Some (report entry)
reported_here report xs i entry here = reported_at report xs i ∙ ap (option_map report) here

-- what is reported is reported of an entry
pub entry_reported : {X : Type 0} (report : Entry → X) (xs : List (Option Entry)) (i : ℕ) (x : X) → slice_index_or (map (option_map report) xs) i None ≡ Some x
    → (entry : Entry) × (entry_at xs i ≡ Some entry) × (report entry ≡ x)
entry_reported report [] i x e = absurd (cc)
entry_reported report (None ∷ xs) zero x e = absurd (cc)
entry_reported report (Some entry ∷ xs) zero x e = let same : report entry ≡ x = cc in (entry, refl, same)
entry_reported report (y ∷ xs) (suc i) x e = entry_reported report xs i x e

-- one page changes, as callers see it
pub states-set : (change : PageState → PageState) (xs : List (Option Entry)) (i : ℕ) (entry x : Entry) → entry_at xs i ≡ Some entry → state_of x ≡ change (state_of entry)
    → states_of (slice_set xs i (Some x)) ≡ slice_set (states_of xs) i (option_map change (slice_index_or (states_of xs) i None))
states-set change xs i entry x here same = grind (arith, nat_tests, map-set (option_map state_of) xs i (Some x), reported_here state_of xs i entry here)

-- a frame that is listed is a group's
pub group_of : (table : TableState) (f : ℕ) → IsTable table → 1 ≤ times f table.groups → IsGroup table f
group_of table f is some = ⊎_elim (λ none. absurd (omega (arith, none, some))) (λ group. group) (is.groups f)

-- the counts after one of them became n
pub counts-set : (counts : List ℕ) (f n g : ℕ) → f < length counts → slice_index_or (slice_set counts f n) g 0 ≡ (if f == g then n else slice_index_or counts g 0)
counts-set counts f n g h = grind (arith, nat_tests, get_or-set_same counts f n 0, get_or-set_other counts f g n 0)

-- of two pages on a frame where one lies, both are that one
pub alone : (f : ℕ) (xs : List (Option Entry)) (i j : ℕ) → i < length xs → pages_on f xs ≡ 1 → is_on f (entry_at xs i) ≡ true → j ≢ i
    → is_on f (entry_at xs j) ≡ false
alone f xs i j there one here ne =
    grind (arith, pages_on-set f xs i None there, get_or-set_other xs i j None None, none_on f (slice_set xs i None) j)

-- what holds of the new entry and of each other one holds at each index
pub at_set : (P : Option Entry → Type 0) (xs : List (Option Entry)) (i j : ℕ) (x : Option Entry) → P None → P x → (j ≢ i → P (entry_at xs j)) → P (entry_at (slice_set xs i x) j)
at_set P [] i j x none here there = none
at_set P (y ∷ ys) zero zero x none here there = here
at_set P (y ∷ ys) zero (suc j) x none here there = there (λ e. omega arith)
at_set P (y ∷ ys) (suc i) zero x none here there = there (λ e. omega arith)
at_set P (y ∷ ys) (suc i) (suc j) x none here there = at_set P ys i j x none here (λ ne. there (λ e. ne (omega arith)))

-- the content of a page that doesn't lie on the frame which is written
pub entry_content-kept : (arena : List (List ℕ)) (f : ℕ) (page : List ℕ) (x : Option Entry) → is_on f x ≡ false → entry_content (slice_set arena f page) x ≡ entry_content arena x
entry_content-kept arena f page x h1 = grind (arith, nat_tests, get_or-set_other, elsewhere)

-- the contents of pages each of which stays
pub contents-same : (old new : List (List ℕ)) (xs : List (Option Entry)) → ((j : ℕ) → entry_content new (entry_at xs j) ≡ entry_content old (entry_at xs j))
    → map (entry_content new) xs ≡ map (entry_content old) xs
contents-same old new [] h = refl
contents-same old new (x ∷ xs) h = grind (arith, h 0, contents-same old new xs (λ j. h (suc j)))

-- the contents where one entry is replaced and each other page stays
pub contents-set : (old new : List (List ℕ)) (xs : List (Option Entry)) (i : ℕ) (x : Option Entry) (page : List ℕ) → entry_content new x ≡ page
    → ((j : ℕ) → j ≢ i → entry_content new (entry_at xs j) ≡ entry_content old (entry_at xs j))
    → map (entry_content new) (slice_set xs i x) ≡ slice_set (map (entry_content old) xs) i page
contents-set old new [] i x page e h = refl
contents-set old new (y ∷ ys) zero x page e h = grind (arith, contents-same old new ys (λ j. h (suc j) (λ e. omega arith)))
contents-set old new (y ∷ ys) (suc i) x page e h = grind (arith, h 0 (λ e. omega arith), contents-set old new ys i x page e (λ j ne. h (suc j) (λ e. ne (omega arith))))

-- the indices on a frame, where an entry is replaced by one that lies there as the old one did
pub indices_on-set : (n f : ℕ) (xs : List (Option Entry)) (i : ℕ) (x : Option Entry) → is_on f x ≡ is_on f (entry_at xs i)
    → indices_on n f (slice_set xs i x) ≡ indices_on n f xs
unfolding indices_on
indices_on-set n f [] i x h = refl
indices_on-set n f (y ∷ ys) zero x h = rw h refl
indices_on-set n f (y ∷ ys) (suc i) x h = rw (indices_on-set (n + 1) f ys i x h) refl

pub times-cons : (g h : ℕ) (gs : List ℕ) → times g (h ∷ gs) ≡ one_when (h == g) + times g gs
times-cons g h gs = sum_by-cons (λ (x : ℕ). if x == g then 1 else 0) h gs

-- a number that stands in a list occurs there
pub times-head : (g : ℕ) (gs : List ℕ) → 1 ≤ times g (g ∷ gs)
times-head g gs = grind (arith, nat_tests, times-cons g g gs)

pub times-tail : (g h : ℕ) (gs : List ℕ) → times g gs ≤ times g (h ∷ gs)
times-tail g h gs = grind (arith, times-cons g h gs)

-- two readings of each group
pub groups-each : {X : Type 0} (f h : ℕ → X) (groups : List ℕ) → ((g : ℕ) → 1 ≤ times g groups → f g ≡ h g) → map f groups ≡ map h groups
groups-each f h [] same = refl
groups-each f h (g ∷ gs) same = grind (arith, same g (times-head g gs), groups-each f h gs (λ k le. same k (omega (arith, times-tail k g gs, le))))

-- the groups, where each lies as before
pub groups-kept : (old new : List (Option Entry)) (groups : List ℕ) → ((g : ℕ) → 1 ≤ times g groups → indices_on 0 g new ≡ indices_on 0 g old)
    → map (λ g. indices_on 0 g new) groups ≡ map (λ g. indices_on 0 g old) groups
groups-kept old new groups h = groups-each (λ g. indices_on 0 g new) (λ g. indices_on 0 g old) groups h

-- an entry put where a page shared a frame leaves all that share none
pub kept-shared : (xs : List (Option Entry)) (i : ℕ) (old : Entry) (x : Option Entry) → entry_at xs i ≡ Some old → is_shared old.status ≡ true
    → (j : ℕ) (entry : Entry) → entry_at xs j ≡ Some entry → is_shared entry.status ≡ false → entry_at (slice_set xs i x) j ≡ Some entry
kept-shared xs i old x here shared j entry e own = grind (arith, get_or-set_other xs i j x None)

-- ---- A page on a frame

pub page-on : (f : ℕ) (xs : List (Option Entry)) → 1 ≤ pages_on f xs → (i : ℕ) × (is_on f (entry_at xs i) ≡ true)
unfolding pages_on
page-on f [] h = absurd (omega arith)
page-on f (x ∷ xs) h = by_head (is_on f x) refl (page-on f xs)
  where
    by_head : (b : Bool) → is_on f x ≡ b → (1 ≤ pages_on f xs → (i : ℕ) × (is_on f (entry_at xs i) ≡ true)) → (i : ℕ) × (is_on f (entry_at (x ∷ xs) i) ≡ true)
    by_head true e rest = (0, e)
    by_head false e rest = let found = rest (grind (arith, sum_by-cons (on_one f) x xs)) in (suc found.0, found.1)

-- ---- What makes a table sound again after the entry at one index changed, and perhaps the page of a frame or the groups

-- one where the page has a frame of its own
abbrev pub own_one : Option Entry → ℕ
own_one x = own_frame (option_map state_of x)

pub own_pages-set : (xs : List (Option Entry)) (i : ℕ) (x : Option Entry) → i < length xs
    → own_pages (slice_set xs i x) + own_one (entry_at xs i) ≡ own_pages xs + own_one x
unfolding own_pages
own_pages-set xs i x h = sum_by-set own_one xs i x None h

-- the pages on a frame, where the entry at one index changed
pub pages_on-changed : (xs : List (Option Entry)) (i : ℕ) (entry : Entry) (x : Option Entry) → entry_at xs i ≡ Some entry
    → (g : ℕ) → pages_on g (slice_set xs i x) + one_when (entry.frame == g) ≡ pages_on g xs + on_one g x
pages_on-changed xs i entry x here g = let was = ap (on_one g) here in omega (arith, pages_on-set g xs i x (inside xs i entry here), was)

-- a page that isn't shared is alone on its frame
pub is_alone : (table : TableState) (entry : Entry) → IsEntry table entry → is_shared entry.status ≡ false → IsAlone table entry.frame
is_alone table entry is own = grind (arith, nat_tests, own)

-- and one that isn't shared lies right where it is alone
pub lies_alone : (table : TableState) (f : ℕ) (status : Status) → is_shared status ≡ false → IsAlone table f → LiesRight table f status
lies_alone table f status h1 h2 = grind (arith, nat_tests)

-- the entry at an index fits
pub entry_fits : (table : TableState) (i : ℕ) (entry : Entry) → IsTable table → entry_at table.entries i ≡ Some entry → IsEntry table entry
entry_fits table i entry is e = subst (λ (x : Option Entry). IfSome x (IsEntry table)) e (is.entries i)

-- a page with a frame of its own
pub record IsOwnEntry (table : TableState) (i : ℕ) (entry : Entry) : Type 0 where
  pub here : entry_at table.entries i ≡ Some entry
  pub own : is_shared entry.status ≡ false

-- reported of the table as callers see it
pub own_seen : (table now : TableState) → table ≡ now → (i : ℕ) (entry : Entry) → entry_at now.entries i ≡ Some entry → IsOwnAt now i → IsOwnEntry table i entry
own_seen table now same i entry there own = grind (arith, nat_tests)

-- it is alone there
pub own_alone : (table : TableState) (i : ℕ) (entry : Entry) → IsTable table → IsOwnEntry table i entry → IsAlone table entry.frame
own_alone table i entry is own = is_alone table entry (entry_fits table i entry is own.here) own.own

-- an entry fits another table too, where a page that is alone stays alone
pub fits-after : (old new : TableState) (entry : Entry) → length new.arena ≡ length old.arena
    → (IsAlone old entry.frame → IsAlone new entry.frame)
    → (times entry.frame old.groups ≡ 1 → times entry.frame new.groups ≡ 1)
    → IsEntry old entry → IsEntry new entry
fits-after old new entry long lone grouped is = grind (arith, nat_tests)

-- a page that is alone lies on no other page's frame
pub apart_alone : (table : TableState) (i j : ℕ) (x y : Entry) → entry_at table.entries i ≡ Some x → entry_at table.entries j ≡ Some y → j ≢ i → pages_on y.frame table.entries ≡ 1
    → y.frame ≢ x.frame
apart_alone table i j x y here there ne one same =
    let off = alone y.frame table.entries j i (inside table.entries j y there) one (ap (is_on y.frame) there ∙ equal y.frame) (λ e. ne (sym e)) in
    grind (arith, nat_tests, off, ap (is_on y.frame) here)

-- The new entry fits, each other one still does, and each frame has a group or none.
pub table-set : (old new : TableState) (i : ℕ) (x : Option Entry) → IsTable old → new.entries ≡ slice_set old.entries i x → length new.arena ≡ length old.arena
    → ((f : ℕ) → f < length new.arena → length (page_at new.arena f) ≡ 4096) → page_at new.arena 0 ≡ zero_page → IfSome x (IsEntry new)
    → ((j : ℕ) (y : Entry) → j ≢ i → entry_at old.entries j ≡ Some y → (IsAlone old y.frame → IsAlone new y.frame) × (times y.frame old.groups ≡ 1 → times y.frame new.groups ≡ 1))
    → ((g : ℕ) → (times g new.groups ≡ 0) ⊎ IsGroup new g) → IsTable new
table-set old new i x is entries arena pages zeros here stay groups =
    record {
      some = omega (arith, arena, is.some);
      small = omega (arith, arena, is.small);
      pages = pages;
      zero = zeros;
      entries = λ j. subst (λ (l : List (Option Entry)). IfSome (entry_at l j) (IsEntry new)) (sym entries)
          (at_set (λ y. IfSome y (IsEntry new)) old.entries i j x tt here (λ ne. other j ne (entry_at old.entries j) refl (is.entries j)));
      groups = groups;
      few = grind (arith, is.few, entries, length-set old.entries i x);
    }
  where
    other : (j : ℕ) → j ≢ i → (y : Option Entry) → entry_at old.entries j ≡ y → IfSome y (IsEntry old) → IfSome y (IsEntry new)
    other j ne None e h = tt
    other j ne (Some y) e h = fits-after old new y arena (stay j y ne e).0 (stay j y ne e).1 h

-- The groups stay: each other page that is alone stays alone, and each group still has pages.
pub table-changed : (old new : TableState) (i : ℕ) (x : Option Entry) → IsTable old → new.entries ≡ slice_set old.entries i x → new.groups ≡ old.groups → length new.arena ≡ length old.arena
    → ((f : ℕ) → f < length new.arena → length (page_at new.arena f) ≡ 4096) → page_at new.arena 0 ≡ zero_page → IfSome x (IsEntry new)
    → ((j : ℕ) (y : Entry) → j ≢ i → entry_at old.entries j ≡ Some y → IsAlone old y.frame → pages_on y.frame new.entries ≡ 1)
    → ((g : ℕ) → IsGroup old g → 1 ≤ pages_on g new.entries) → IsTable new
table-changed old new i x h1 h2 h3 h4 h5 h6 h7 h8 h9 = grind (arith, nat_tests, table-set)

-- the counts change as the pages on each frame do, and the unused frames as the used ones
pub counted-changed : (old new : TableState) (before after : CountsState) → AreCountsOf old before → length new.arena ≡ length old.arena → length after.counts ≡ length before.counts
    → length after.unused + used_by new ≡ length before.unused + used_by old
    → ((g : ℕ) → g < length old.arena → slice_index_or after.counts g 0 + pages_on g old.entries ≡ slice_index_or before.counts g 0 + pages_on g new.entries)
    → AreCountsOf new after
counted-changed old new before after counted arena sized used each = grind (arith, nat_tests, inside)

-- ---- Groups as lists of indices: who is among those on a frame, and who has company there

-- an index before the first one isn't among them
before-page_indices : (n f : ℕ) (xs : List (Option Entry)) (i : ℕ) → i < n → is_among i (indices_on n f xs) ≡ false
unfolding indices_on
before-page_indices n f [] i h = refl
before-page_indices n f (x ∷ xs) i h = grind (arith, nat_tests, before-page_indices (n + 1) f xs i)

-- whether an index is among those on a frame
pub among-page_indices : (n f : ℕ) (xs : List (Option Entry)) (i : ℕ) → is_among (n + i) (indices_on n f xs) ≡ is_on f (entry_at xs i)
unfolding indices_on
among-page_indices n f [] i = refl
among-page_indices n f (x ∷ xs) zero = grind (arith, nat_tests, before-page_indices (n + 1) f xs n)
among-page_indices n f (x ∷ xs) (suc i) = grind (arith, nat_tests, among-page_indices (n + 1) f xs i)

-- as many indices as pages
pub length-page_indices : (n f : ℕ) (xs : List (Option Entry)) → length (indices_on n f xs) ≡ pages_on f xs
unfolding indices_on pages_on
length-page_indices n f [] = refl
length-page_indices n f (x ∷ xs) = grind (arith, sum_by-cons (on_one f) x xs, length-page_indices (n + 1) f xs)

-- an index that isn't among them needn't be taken out
pub without-none : (i : ℕ) (page_indices : List ℕ) → is_among i page_indices ≡ false → without i page_indices ≡ page_indices
without-none i [] h = refl
without-none i (j ∷ page_indices) h = grind (arith, nat_tests, without-none i page_indices)

-- the indices on a frame without one
pub without-page_indices : (n f : ℕ) (xs : List (Option Entry)) (i : ℕ) (x : Option Entry) → is_on f x ≡ false → without (n + i) (indices_on n f xs) ≡ indices_on n f (slice_set xs i x)
unfolding indices_on
without-page_indices n f [] i x h = refl
without-page_indices n f (y ∷ ys) zero x h = grind (arith, nat_tests, without-none n (indices_on (n + 1) f ys), before-page_indices (n + 1) f ys n)
without-page_indices n f (y ∷ ys) (suc i) x h = grind (arith, nat_tests, without-page_indices (n + 1) f ys i x)

-- the indices from the first one on
pub without-here : (f : ℕ) (xs : List (Option Entry)) (i : ℕ) (x : Option Entry) → is_on f x ≡ false → without i (indices_on 0 f xs) ≡ indices_on 0 f (slice_set xs i x)
without-here f xs i x off = let start : i ≡ 0 + i = omega arith in ap (λ (n : ℕ). without n (indices_on 0 f xs)) start ∙ without-page_indices 0 f xs i x off

-- a group has the page, and another one
abbrev pub has_company : ℕ → List ℕ → Bool
has_company i group = is_among i group && nat_lt 1 (length group)

company-at : (xs : List (Option Entry)) (i : ℕ) (entry : Entry) (g : ℕ) → entry_at xs i ≡ Some entry
    → has_company i (indices_on 0 g xs) ≡ ((entry.frame == g) && nat_lt 1 (pages_on g xs))
company-at xs i entry g h1 = grind (arith, nat_tests, among-page_indices 0 g xs i, length-page_indices 0 g xs)

-- a page in no group has no company
company-none : (xs : List (Option Entry)) (groups : List ℕ) (i : ℕ) (entry : Entry) → entry_at xs i ≡ Some entry → times entry.frame groups ≡ 0
    → list_any (has_company i) (map (λ g. indices_on 0 g xs) groups) ≡ false
company-none xs [] i entry here none = refl
company-none xs (g ∷ gs) i entry here none =
    grind (arith, nat_tests, times-cons entry.frame g gs, company-at xs i entry g here, company-none xs gs i entry here)

-- a page of a group has company where another page lies on its frame
pub company-page_indices : (xs : List (Option Entry)) (groups : List ℕ) (i : ℕ) (entry : Entry) → entry_at xs i ≡ Some entry → times entry.frame groups ≡ 1
    → list_any (λ group. is_among i group && nat_lt 1 (length group)) (map (λ g. indices_on 0 g xs) groups) ≡ nat_lt 1 (pages_on entry.frame xs)
company-page_indices xs [] i entry here one = absurd (omega arith)
company-page_indices xs (g ∷ gs) i entry here one =
    grind (arith, nat_tests, times-cons entry.frame g gs, company-at xs i entry g here, company-none xs gs i entry here, company-page_indices xs gs i entry here)

-- ---- The frames that are free, by the formula of the counters

own_of_states : (entries : List (Option Entry)) → sum_by own_frame (states_of entries) ≡ sum_by own_one entries
own_of_states [] = refl
own_of_states (x ∷ xs) =
    omega (arith, sum_by-cons own_frame (option_map state_of x) (states_of xs), sum_by-cons own_one x xs, own_of_states xs)

pub free_is : (table : TableState) (shapes : List (Option Shape)) (tenants : List Tenant) (pass : Pass) → used_by table ≤ length table.arena
    → free_of (view_of table shapes tenants pass) + used_by table ≡ length table.arena
unfolding view_of frames_free groups_of own_pages
free_is table shapes tenants pass fits = grind (arith, nat_tests, length-map, own_of_states)

-- ---- What the break of a page costs, reported by its group and by its frame

-- the state of a page is that of its entry
pub state-at : (table : TableState) (pass : Pass) (i : ℕ) → state_at (sharing_of table pass) i ≡ option_map state_of (entry_at table.entries i)
state-at table pass i = reported_at state_of table.entries i

-- the break of a page on the frame f takes a frame where it shares its own, and others hold that too: among all pages, or those that are left
pub shared-cost : (table : TableState) (f : ℕ) (xs : List (Option Entry)) (in_company : Bool) → IsTable table → 1 ≤ pages_on f xs → (times f table.groups ≡ 1 → in_company ≡ nat_lt 1 (pages_on f xs))
    → (status : Status) → LiesRight table f status → cost_of in_company status ≡ one_when (is_shared status && nat_lt 1 (one_if_zero f + pages_on f xs))
shared-cost table f xs in_company h1 h2 h3 status h4 = grind (arith, nat_tests, one_if_zero-above)

-- the page of an entry lies on its frame
lies-there : (table : TableState) (i : ℕ) (entry : Entry) → entry_at table.entries i ≡ Some entry → 1 ≤ pages_on entry.frame table.entries
lies-there table i entry here = some_on entry.frame table.entries i (ap (is_on entry.frame) here ∙ equal entry.frame)

-- what the break of a page takes
pub cost-is : (table : TableState) (pass : Pass) (i : ℕ) → IsTable table → break_cost (sharing_of table pass) i ≡ break_frames table i
unfolding break_cost groups_of break_frames
cost-is table pass i h1 =
    grind (arith, nat_tests, state-at table pass i, company-page_indices table.entries table.groups i, shared-cost, lies-there)

-- the same, reported by the count of the page's frame
pub cost-counted : (table : TableState) (counts : CountsState) (i : ℕ) (entry : Entry) → IsSound table counts → entry_at table.entries i ≡ Some entry
    → break_frames table i ≡ one_when (entry.protected && nat_lt 1 (slice_index_or counts.counts entry.frame 0))
unfolding break_frames
cost-counted table counts i entry h1 h2 = grind (arith, nat_tests, entry_fits table i entry, shared-cost, lies-there)

-- ---- A page table stays sound where bytes of a page are written, and a new one is sound

-- a table with another page in a frame
abbrev pub with_page : TableState → ℕ → List ℕ → TableState
with_page table f page = record table { arena = slice_set table.arena f page }

-- a page that is there has an entry
pub page_inside : (table : TableState) (i : ℕ) → IsPageAt table i → i < length table.entries
unfolding contents_of
page_inside table i h = grind (arith, get_or_past (map (entry_content table.arena) table.entries) i [], length-map table.entries (entry_content table.arena))

pub page_there : (table : TableState) (i : ℕ) → IsPageAt table i → entry_at table.entries i ≡ None → ⊥
unfolding contents_of
page_there table i h e = absurd (omega (arith, h, ap length (get_or-map (entry_content table.arena) table.entries i None ∙ ap (entry_content table.arena) e)))

-- the content of a page that is there
pub content_at : (table : TableState) (i : ℕ) (entry : Entry) → entry_at table.entries i ≡ Some entry → slice_index_or (contents_of table) i [] ≡ page_at table.arena entry.frame
unfolding contents_of
content_at table i entry e = get_or-map (entry_content table.arena) table.entries i None ∙ ap (entry_content table.arena) e

-- a page with an entry is there
pub page_of_entry : (table : TableState) (i : ℕ) (entry : Entry) → IsTable table → entry_at table.entries i ≡ Some entry → IsPageAt table i
page_of_entry table i entry is e = ap length (content_at table i entry e) ∙ is.pages entry.frame (entry_fits table i entry is e).frame

-- where no bytes are, there is no page
pub no_entry_of_content : (table : TableState) (i : ℕ) → IsTable table → slice_index_or (contents_of table) i [] ≡ [] → entry_at table.entries i ≡ None
no_entry_of_content table i h1 h2 = grind (arith, nat_tests, page_of_entry table i)

module _ (table : TableState) (i : ℕ) (entry : Entry) (page : List ℕ) (is : IsTable table) (here : entry_at table.entries i ≡ Some entry) (lone : IsAlone table entry.frame) (sized : length page ≡ 4096) where
  pub contents-put : contents_of (with_page table entry.frame page) ≡ slice_set (contents_of table) i page
  unfolding contents_of
  contents-put =
      grind (arith, contents-set table.arena (slice_set table.arena entry.frame page) table.entries i (Some entry) page, entry_fits, get_or-set_same table.arena entry.frame page [], entry_content-kept table.arena entry.frame page, alone entry.frame table.entries i, inside table.entries i entry here, equal entry.frame, lone, set-get_or table.entries i None)

  pub sound-put : (counts : CountsState) → AreCountsOf table counts → IsSound (with_page table entry.frame page) counts
  sound-put counts counted =
      record {
        fits = grind (arith, nat_tests, length-set, table-changed, set-get_or, get_or-set_same, get_or-set_other, fits-after, entry_fits);
        counted = grind (arith, counted-changed table (with_page table entry.frame page) counts counts, length-set);
      }

-- a table without pages
abbrev pub empty_table : ℕ → ℕ → TableState
empty_table frames page_indices = record { arena = replicate frames zero_page; entries = replicate page_indices None; groups = [] }

pub all_same : {X : Type 0} (x : X) (n i : ℕ) → slice_index_or (replicate n x) i x ≡ x
all_same x n i = grind (arith, get_or-replicate n i x x, get_or_past (replicate n x) i x, length-replicate n x)

pub sound-new : (frames page_indices : ℕ) (counts : CountsState) → 1 ≤ frames → frames ≤ 4096 → page_indices ≤ 32768
    → counts.counts ≡ slice_set (replicate frames 0) 0 1 → length counts.unused + 1 ≡ frames → IsSound (empty_table frames page_indices) counts
unfolding pages_on own_pages
sound-new frames page_indices counts some small few are fewer =
    grind (arith, nat_tests, length-replicate, get_or-replicate, length-zero_page, all_same, length-set, sum_by-replicate)
