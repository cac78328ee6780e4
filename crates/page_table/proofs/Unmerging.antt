-- What the breaks of several pages take, each after the breaks before it, and what unmerging takes, reported by the pages on the groups' frames.
use Rattle.page_table.proofs.Base.{◌≡◌, ℕ, zero, suc, ◌+◌, ◌-◌, ◌<◌, ◌≤◌, ◌==◌, ◌&&◌, nat_lt, Bool, true, false, if◌then◌else◌, List, [], ◌∷◌, length, map, filter, sum_by, take, drop, slice_index_or, slice_set, Option, Some, None, option_map, is_some, refl, sym, arith, list_any, get_or-set_other, length-set, length-map, get_or-drop, length-drop, sum_by_more, sum_by-cons, nat_tests, any-filter_same, Pass, Shape, part_of, Sharing, state_at, is_shared, is_shared_page, is_in_company, without, broken, break_cost, pages_broken, cost_from, unmerged, members, zeros_at, zero_pages, unmerge_need, SharesNothing, Entry, Tenant, have_of, view_of, IsMemory, TableState, CountsState, IsTable, IsSound, times, one_if_zero, entry_at, state_of, states_of, groups_of, sharing_of, used_by, new_pass, is_on, indices_on, pages_on, shared_at}
use Rattle.host_types.proofs.Without as law_of_times
use Rattle.host_types.proofs.Unmerging as law
use Rattle.page_table.proofs.Creating.{length-states}
use Rattle.page_table.proofs.Entries.{one_when, on_one, not_equal, equal, pages_on-set, some_on, indices_on-set, groups-kept, times-head, times-tail, times-cons, group_of, entry_fits, has_company, company-page_indices, length-page_indices, without-here, free_is, state-at, shared-cost}

-- the break of one page more
pages_broken-last : (s : Sharing) (i n : ℕ) → pages_broken s i (suc n) ≡ broken (pages_broken s i n) (i + n)
unfolding pages_broken
pages_broken-last s i zero = grind arith
pages_broken-last s i (suc n) = grind (arith, pages_broken-last (broken s i) (i + 1) n)

cost_from-last : (s : Sharing) (i n : ℕ) → cost_from s i (suc n) ≡ cost_from s i n + break_cost (pages_broken s i n) (i + n)
unfolding pages_broken cost_from
cost_from-last s i zero = grind arith
cost_from-last s i (suc n) = grind (arith, cost_from-last (broken s i) (i + 1) n)

-- the entries without those at n indices from i on
gone : List (Option Entry) → ℕ → ℕ → List (Option Entry)
gone xs i zero = xs
gone xs i (suc n) = slice_set (gone xs i n) (i + n) None

length-gone : (xs : List (Option Entry)) (i n : ℕ) → length (gone xs i n) ≡ length xs
unfolding gone
length-gone xs i zero = refl
length-gone xs i (suc n) = grind (arith, length-set (gone xs i n) (i + n) None, length-gone xs i n)

-- the entries after them stay
at_or_before-gone : (xs : List (Option Entry)) (i n j : ℕ) → i + n ≤ j → entry_at (gone xs i n) j ≡ entry_at xs j
unfolding gone
at_or_before-gone xs i zero j h = refl
at_or_before-gone xs i (suc n) j h = grind (arith, get_or-set_other (gone xs i n) (i + n) j None None, at_or_before-gone xs i n j)

-- the pages on a frame are those that are gone and those that are left
pages_on-gone : (f : ℕ) (xs : List (Option Entry)) (i n : ℕ) → i + n ≤ length xs → pages_on f (gone xs i n) + pages_on f (part_of xs i n) ≡ pages_on f xs
unfolding gone pages_on part_of
pages_on-gone f xs i zero h = omega arith
pages_on-gone f xs i (suc n) h =
    let next : suc n ≡ n + 1 = omega arith in
    grind (arith, nat_tests, next, pages_on-gone f xs i n, length-gone xs i n, length-drop i xs, pages_on-set f (gone xs i n) (i + n) None, at_or_before-gone xs i n (i + n), sum_by_more (on_one f) (drop i xs) n None, get_or-drop i xs n None)

filter-twice : {X : Type 0} (p : X → Bool) (xs : List X) → filter p (filter p xs) ≡ filter p xs
filter-twice p [] = refl
filter-twice p (x ∷ xs) = grind (arith, filter-twice p xs)

-- what doesn't pass a test needn't be there where no change lets it pass
filter-map : {X : Type 0} (p : X → Bool) (f : X → X) (xs : List X) → ((x : X) → p x ≡ false → p (f x) ≡ false) → filter p (map f (filter p xs)) ≡ filter p (map f xs)
filter-map p f [] h = refl
filter-map p f (x ∷ xs) h = grind (arith, h x, filter-map p f xs h)

-- a group with pages
abbrev filled : List ℕ → Bool
filled group = nat_lt 0 (length group)

-- a group without pages has none after a page was taken out
filled-without : (i : ℕ) (group : List ℕ) → filled group ≡ false → filled (without i group) ≡ false
filled-without i [] h = refl
filled-without i (j ∷ js) h = absurd (grind (arith, nat_tests))

-- a group without pages gives no page company
company-filled : (i : ℕ) (groups : List (List ℕ)) → list_any (has_company i) (filter filled groups) ≡ list_any (has_company i) groups
company-filled i groups = grind (arith, nat_tests, any-filter_same (has_company i) filled true, groups)

-- the indices without one, group by group
without-groups : (i : ℕ) (xs : List (Option Entry)) (groups : List ℕ) → map (without i) (map (λ g. indices_on 0 g xs) groups) ≡ map (λ g. indices_on 0 g (slice_set xs i None)) groups
without-groups i xs [] = refl
without-groups i xs (g ∷ gs) = grind (arith, without-here g xs i None refl, without-groups i xs gs)

-- the state of sharing after n breaks from the index i on: the groups are those of the entries that are left, and after i + n nothing changed
record AreBroken (table : TableState) (s : Sharing) (i n : ℕ) : Type 0 where
  groups : filter filled s.groups ≡ filter filled (map (λ g. indices_on 0 g (gone table.entries i n)) table.groups)
  states : (j : ℕ) → i + n ≤ j → state_at s j ≡ option_map state_of (entry_at table.entries j)

module _ (table : TableState) (is : IsTable table) (i n : ℕ) where
  abbrev left : List (Option Entry)
  left = gone table.entries i n

  here : entry_at left (i + n) ≡ entry_at table.entries (i + n)
  here = at_or_before-gone table.entries i n (i + n) (omega arith)

  -- an entry that shares no frame is in no group
  apart : (x : Option Entry) → entry_at table.entries (i + n) ≡ x → is_shared_page (option_map state_of x) ≡ false → (g : ℕ) → 1 ≤ times g table.groups → is_on g x ≡ false
  apart x h1 h2 g h3 = grind (arith, nat_tests, not_equal g)

  break-one : (s : Sharing) → AreBroken table s i n → AreBroken table (broken s (i + n)) i (suc n)
  unfolding broken gone
  break-one s are =
      grind (arith, nat_tests, are, filter-twice filled (map (without (i + n)) s.groups), filter-map filled (without (i + n)) s.groups (filled-without (i + n)), filter-map filled (without (i + n)) (map (λ g. indices_on 0 g left) table.groups) (filled-without (i + n)), without-groups (i + n) left table.groups, get_or-set_other s.pages (i + n), groups-kept left (slice_set left (i + n) None) table.groups, indices_on-set, here, apart (entry_at table.entries (i + n)) refl)

  -- a page of a group has company after the breaks where another page is left on its frame
  company-after : (s : Sharing) (entry : Entry) → AreBroken table s i n → entry_at table.entries (i + n) ≡ Some entry → times entry.frame table.groups ≡ 1
      → is_in_company s (i + n) ≡ nat_lt 1 (pages_on entry.frame left)
  company-after s entry are e once =
      grind (arith, company-filled (i + n) s.groups, are.groups, company-filled (i + n) (map (λ g. indices_on 0 g left) table.groups), company-page_indices left table.groups (i + n) entry, here)

  -- the break of a page takes a frame where it shares its own, and others hold that still
  cost-one : (s : Sharing) (entry : Entry) → AreBroken table s i n → entry_at table.entries (i + n) ≡ Some entry
      → break_cost s (i + n) ≡ one_when (is_shared entry.status && nat_lt 1 (one_if_zero entry.frame + pages_on entry.frame left))
  unfolding break_cost
  cost-one s entry h1 h2 = grind (arith, nat_tests, some_on entry.frame left, equal entry.frame, company-after s entry, shared-cost, left, here)

are_broken : (table : TableState) (pass : Pass) (is : IsTable table) (i n : ℕ) → AreBroken table (pages_broken (sharing_of table pass) i n) i n
unfolding pages_broken gone groups_of
are_broken table pass is i zero = record { groups = refl; states = λ j h. state-at table pass j }
are_broken table pass is i (suc n) =
    rw (pages_broken-last (sharing_of table pass) i n) (break-one table is i n (pages_broken (sharing_of table pass) i n) (are_broken table pass is i n))

-- what the break of a page takes after n breaks, reported by the count of its frame and by the pages before it that lie there
pub cost-after : (table : TableState) (counts : CountsState) (pass : Pass) (i n : ℕ) (entry : Entry) → IsSound table counts → i + n < length table.entries
    → entry_at table.entries (i + n) ≡ Some entry → entry.protected ≡ true
    → break_cost (pages_broken (sharing_of table pass) i n) (i + n)
    ≡ one_when (nat_lt 1 (slice_index_or counts.counts entry.frame 0 - pages_on entry.frame (part_of table.entries i n)))
cost-after table counts pass i n entry sound h e protected =
    grind (arith, nat_tests, entry_fits table (i + n) entry, pages_on-gone entry.frame table.entries i n, cost-one table sound.fits i n (pages_broken (sharing_of table pass) i n) entry, are_broken table pass sound.fits i n)

-- a page with a frame of its own takes none
pub cost-after-own : (table : TableState) (pass : Pass) (i n : ℕ) (entry : Entry) → IsTable table → entry_at table.entries (i + n) ≡ Some entry → entry.protected ≡ false
    → break_cost (pages_broken (sharing_of table pass) i n) (i + n) ≡ 0
cost-after-own table pass i n entry is e own =
    grind (arith, cost-one table is i n (pages_broken (sharing_of table pass) i n) entry (are_broken table pass is i n) e)

-- where no page is, nothing is broken
pub cost-after-none : (table : TableState) (pass : Pass) (i n : ℕ) → IsTable table → entry_at table.entries (i + n) ≡ None
    → break_cost (pages_broken (sharing_of table pass) i n) (i + n) ≡ 0
cost-after-none table pass i n is e = grind (arith, law.cost-none (pages_broken (sharing_of table pass) i n) (i + n), are_broken table pass is i n)

-- there are at least as many on a frame as among some of the pages
pub count-part : (table : TableState) (counts : CountsState) (i n : ℕ) (entry : Entry) → IsSound table counts → i + n < length table.entries
    → entry_at table.entries (i + n) ≡ Some entry → pages_on entry.frame (part_of table.entries i n) ≤ slice_index_or counts.counts entry.frame 0
count-part table counts i n entry h1 h2 h3 = grind (arith, nat_tests, entry_fits table (i + n) entry, pages_on-gone entry.frame table.entries i n)

-- the page after n others from the index i on, in a list that was split there
pub entry-at_or_before : (xs slice run from : List (Option Entry)) (i n : ℕ) → slice ≡ xs → run ≡ drop i slice → from ≡ drop n run → entry_at from 0 ≡ entry_at xs (i + n)
entry-at_or_before xs slice run from i n h1 h2 h3 = grind (arith, nat_tests, get_or-drop n (drop i xs) 0 None, get_or-drop i xs n None)

-- the pages before it
pub pages-before : (xs slice run before : List (Option Entry)) (i n f : ℕ) → slice ≡ xs → run ≡ drop i slice → before ≡ take n run → pages_on f before ≡ pages_on f (part_of xs i n)
unfolding part_of
pages-before xs slice run before i n f whole back front = grind (arith, whole, back, front)

-- what n breaks take, and one more
pub cost_from-more : (s : Sharing) (i n cost one : ℕ) → cost ≡ cost_from s i n → one ≡ break_cost (pages_broken s i n) (i + n) → cost + one ≡ cost_from s i (n + 1)
cost_from-more s i n cost one h1 h2 = grind (arith, nat_tests, cost_from-last s i n)

-- an index stands once among those on the frame of its page
times-page_indices : (n f : ℕ) (xs : List (Option Entry)) (i : ℕ) → law_of_times.times i (indices_on n f xs) ≡ (if nat_lt i n then 0 else on_one f (entry_at xs (i - n)))
unfolding indices_on
times-page_indices n f [] i = grind (arith, nat_tests)
times-page_indices n f (x ∷ xs) i = grind (arith, nat_tests, sum_by-cons (λ (j : ℕ). law_of_times.one_when (j == i)) n (indices_on (n + 1) f xs), times-page_indices (n + 1) f xs i)

-- how often the frame of a page is a group's
held : Option Entry → List ℕ → ℕ
held None groups = 0
held (Some entry) groups = times entry.frame groups

held-none : (x : Option Entry) → held x [] ≡ 0
unfolding held
held-none x = grind (arith, nat_tests)

listed-frames : (xs : List (Option Entry)) (groups : List ℕ) (i : ℕ) → law.listed i (map (λ g. indices_on 0 g xs) groups) ≡ held (entry_at xs i) groups
unfolding held
listed-frames xs [] i = sym (held-none (entry_at xs i))
listed-frames xs (g ∷ gs) i =
    grind (arith, nat_tests, sum_by-cons (law_of_times.times i) (indices_on 0 g xs) (map (λ g. indices_on 0 g xs) gs), times-page_indices 0 g xs i, listed-frames xs gs i, times-cons)

-- what holds of each group's pages holds where one is left out
some-groups : (xs : List (Option Entry)) (groups : List ℕ) → ((g : ℕ) → 1 ≤ times g groups → 1 ≤ pages_on g xs) → law.AreSome (map (λ g. indices_on 0 g xs) groups)
some-groups xs [] h = tt
some-groups xs (g ∷ gs) h = grind (arith, length-page_indices 0 g xs, h g (times-head g gs), some-groups xs gs, h, times-tail)

members-frames : (xs : List (Option Entry)) (groups : List ℕ) → sum_by (λ (group : List ℕ). length group) (map (λ g. indices_on 0 g xs) groups) ≡ sum_by (λ (g : ℕ). pages_on g xs) groups
members-frames xs [] = refl
members-frames xs (g ∷ gs) =
    grind (arith, sum_by-cons (λ (group : List ℕ). length group) (indices_on 0 g xs) (map (λ g. indices_on 0 g xs) gs), sum_by-cons (λ (g : ℕ). pages_on g xs) g gs, length-page_indices 0 g xs, members-frames xs gs)

some-members : (xs : List (Option Entry)) (groups : List ℕ) → ((g : ℕ) → 1 ≤ times g groups → 1 ≤ pages_on g xs) → length groups ≤ sum_by (λ (g : ℕ). pages_on g xs) groups
some-members xs [] h = omega arith
some-members xs (g ∷ gs) h = grind (arith, sum_by-cons (λ (g : ℕ). pages_on g xs) g gs, h g (times-head g gs), h, times-tail, some-members xs gs)

-- the pages on the groups' frames, counted group by group and page by page
held-frames : (xs : List (Option Entry)) (groups : List ℕ) → sum_by (λ (g : ℕ). pages_on g xs) groups ≡ sum_by (λ (x : Option Entry). held x groups) xs
unfolding pages_on held
held-frames [] [] = refl
held-frames [] (g ∷ gs) = grind (arith, sum_by-cons (λ (g : ℕ). 0) g gs, held-frames [] gs)
held-frames (x ∷ xs) groups = grind (arith, sum_by-cons (λ (y : Option Entry). held y groups) x xs, held-frames xs groups, one_more groups)
  where
    one_more : (gs : List ℕ) → sum_by (λ (g : ℕ). sum_by (on_one g) (x ∷ xs)) gs ≡ held x gs + sum_by (λ (g : ℕ). sum_by (on_one g) xs) gs
    one_more [] = let none = held-none x in omega (arith, none)
    one_more (g ∷ gs) =
        grind (arith, sum_by-cons (λ (g : ℕ). sum_by (on_one g) (x ∷ xs)) g gs, sum_by-cons (λ (g : ℕ). sum_by (on_one g) xs) g gs, sum_by-cons (on_one g) x xs, one_more gs, nat_tests, times-cons)

zeros-frames : (xs : List (Option Entry)) → ((i : ℕ) → zeros_at (option_map state_of (entry_at xs i)) ≡ on_one 0 (entry_at xs i)) → sum_by zeros_at (states_of xs) ≡ pages_on 0 xs
unfolding pages_on
zeros-frames [] h = refl
zeros-frames (x ∷ xs) h =
    grind (arith, sum_by-cons zeros_at (option_map state_of x) (states_of xs), sum_by-cons (on_one 0) x xs, h 0, zeros-frames xs (λ i. h (suc i)))

-- the pages that share a frame are those of the groups and those of zeros
shared-frames : (xs : List (Option Entry)) (groups : List ℕ)
    → ((i : ℕ) → shared_at (option_map state_of (entry_at xs i)) ≡ held (entry_at xs i) groups + zeros_at (option_map state_of (entry_at xs i)))
    → sum_by shared_at (states_of xs) ≡ sum_by (λ (x : Option Entry). held x groups) xs + sum_by zeros_at (states_of xs)
shared-frames [] groups h = refl
shared-frames (x ∷ xs) groups h =
    grind (arith, sum_by-cons shared_at (option_map state_of x) (states_of xs), sum_by-cons zeros_at (option_map state_of x) (states_of xs), sum_by-cons (λ (y : Option Entry). held y groups) x xs, h 0, shared-frames xs groups (λ i. h (suc i)))

module _ (table : TableState) (is : IsTable table) where
  -- a page stands in as many groups as its status says
  grouped : (i : ℕ) → held (entry_at table.entries i) table.groups ≡ law.grouped_at (option_map state_of (entry_at table.entries i))
  unfolding held
  grouped i = grind (arith, nat_tests, is.groups, entry_fits)

  -- the groups are those of the pages that are reported to be grouped
  are_listed : (pass : Pass) → law.AreListed (sharing_of table pass)
  unfolding groups_of
  are_listed pass = grind (arith, some-groups table.entries table.groups, group_of, listed-frames, grouped, state-at table pass)

  zeros : (i : ℕ) → zeros_at (option_map state_of (entry_at table.entries i)) ≡ on_one 0 (entry_at table.entries i)
  zeros i = grind (arith, nat_tests, not_equal 0, equal 0, entry_fits)

  shared : (i : ℕ) → shared_at (option_map state_of (entry_at table.entries i)) ≡ held (entry_at table.entries i) table.groups + zeros_at (option_map state_of (entry_at table.entries i))
  shared i = grind (arith, nat_tests, grouped i)

  -- the need, reported by the pages that share a frame: one for each of them, less one for each group
  pub need-answer : (pass : Pass)
      → (length table.groups ≤ sum_by shared_at (states_of table.entries)) × (sum_by shared_at (states_of table.entries) - length table.groups ≡ unmerge_need (sharing_of table pass))
  unfolding unmerge_need members zero_pages groups_of
  need-answer pass =
      grind (arith, members-frames table.entries table.groups, some-members table.entries table.groups, group_of, length-map table.groups (λ g. indices_on 0 g table.entries), held-frames table.entries table.groups, shared-frames table.entries table.groups shared)

  -- the pages on the zero frame, as callers see them
  pub zeros-answer : (pass : Pass) → pages_on 0 table.entries ≡ zero_pages (sharing_of table pass)
  unfolding zero_pages
  zeros-answer pass = sym (zeros-frames table.entries zeros)

-- a pass, where a law holds for any
pub some_pass : Pass
some_pass = new_pass 0 0 (record { pages_to_scan = 0; run = 0; use_zero_pages = 0; max_page_sharing = 0 })

-- an index without a page stays as it is
pub no_page : (table : TableState) (i : ℕ) (x : Option Entry) (pass : Pass) → x ≡ entry_at table.entries i → is_some x ≡ false
    → (broken (sharing_of table pass) i ≡ sharing_of table pass) × (break_cost (sharing_of table pass) i ≡ 0)
no_page table i x pass h1 h2 = grind (arith, nat_tests, law.broken-own (sharing_of table pass) i, law.cost-none (sharing_of table pass) i, state-at table pass i)

-- the breaks of the first indices, and of one more
pub broken_next : (s : Sharing) (n : ℕ) → pages_broken s 0 (n + 1) ≡ broken (pages_broken s 0 n) n
broken_next s n = grind (arith, nat_tests, pages_broken-last s 0 n)

pub cost_next : (s : Sharing) (n : ℕ) → cost_from s 0 (n + 1) ≡ cost_from s 0 n + break_cost (pages_broken s 0 n) n
cost_next s n = grind (arith, nat_tests, cost_from-last s 0 n)

-- fewer breaks take less
cost_from-less : (s : Sharing) (n m : ℕ) → cost_from s 0 n ≤ cost_from s 0 (n + m)
cost_from-less s n zero = grind arith
cost_from-less s n (suc m) = grind (arith, cost_from-less s n m, cost_from-last s 0 (n + m))

module _ (table : TableState) (is : IsTable table) (pass : Pass) where
  -- what the breaks of all pages take
  pub all_cost : (n : ℕ) → n ≡ length table.entries → cost_from (sharing_of table pass) 0 n ≡ unmerge_need (sharing_of table pass)
  all_cost n e = grind (arith, length-states table.entries, law.unmerging_costs (sharing_of table pass) (are_listed table is pass))

  pub nothing_shared : SharesNothing (pages_broken (sharing_of table pass) 0 (length table.entries))
  nothing_shared = grind (arith, length-states table.entries, law.broken_share_nothing (sharing_of table pass) (are_listed table is pass))

  -- there is room for the next break where there is room for all
  pub next_fits : (now : Sharing) (n used used_now frames : ℕ) → n < length table.entries → now ≡ pages_broken (sharing_of table pass) 0 n
      → used_now ≡ used + cost_from (sharing_of table pass) 0 n → used + unmerge_need (sharing_of table pass) ≤ frames → used_now + break_cost now n ≤ frames
  next_fits now n used used_now frames there broken taken room =
      let m : ℕ = length table.entries - (n + 1) in
      grind (arith, cost_next (sharing_of table pass) n, cost_from-less (sharing_of table pass) (n + 1) m, all_cost (n + 1 + m))

-- where the frames that unmerging takes may be had, there is room for it
module _ (table : TableState) (shapes : List (Option Shape)) (tenants : List Tenant) (pass : Pass) (reserved : ℕ) (is : IsMemory table shapes tenants reserved)
    (enough : unmerge_need (view_of table shapes tenants pass).sharing ≤ have_of (view_of table shapes tenants pass)) where
  pub need_reserved : reserved + (used_by table + unmerge_need (view_of table shapes tenants pass).sharing) ≤ length table.arena
  unfolding view_of
  need_reserved = grind (arith, free_is table shapes tenants pass)

  pub need_fits : (now : Pass) → used_by table + unmerge_need (sharing_of table now) ≤ length table.arena
  unfolding view_of unmerge_need members zero_pages
  need_fits now = grind (arith, need_reserved)

-- the state of sharing after all pages were taken out and the scanner was stopped
pub unmerged_is : (old new : TableState) (pass now : Pass) → now ≡ record pass { options = record pass.options { run = 2 } }
    → ((p : Pass) → sharing_of new p ≡ pages_broken (sharing_of old p) 0 (length old.entries)) → sharing_of new now ≡ unmerged (sharing_of old pass)
unfolding unmerged
unmerged_is old new pass now stopped broken = grind (arith, nat_tests, length-states)
