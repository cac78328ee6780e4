-- A page table stays sound where a page is taken away that has its own frame, or leaves others on its frame.
use Rattle.page_table.proofs.Base.{◌≡◌, ℕ, zero, suc, ◌+◌, ◌-◌, ◌<◌, ◌≤◌, ◌==◌, true, false, if◌then◌else◌, length, slice_index_or, slice_set, Some, None, option_map, refl, arith, length-set, map-set, set-set, nat_tests, common_steps, Pass, Sharing, is_shared, broken, gone, gone_from, broken-own, Entry, TableState, CountsState, IsTable, IsGroup, IsOwnAt, IsSound, AreCountsOf, one_if_zero, entry_at, state_of, groups_of, sharing_of, pages_on, used_by}
use Rattle.page_table.proofs.Entries.{one_when, indices_on-set, groups-kept, one_if_zero-above, group_of, counts-set, inside, equal, some_on, is_alone, entry_fits, table-changed, counted-changed, apart_alone, pages_on-changed, own_pages-set, without-here, state-at}
use Rattle.page_table.proofs.Ending.{groups-left}

-- the table without the page at an index
abbrev pub vacated : TableState → ℕ → TableState
vacated table i = record table { entries = slice_set table.entries i None }

module _ (table : TableState) (i : ℕ) (entry : Entry) (is : IsTable table) (here : entry_at table.entries i ≡ Some entry)
    (company : is_shared entry.status ≡ true → 1 < one_if_zero entry.frame + pages_on entry.frame table.entries) where
  pages_on-vacated : (g : ℕ) → pages_on g (vacated table i).entries + one_when (entry.frame == g) ≡ pages_on g table.entries
  pages_on-vacated g = grind (arith, pages_on-changed table.entries i entry None here g)

  -- each group still has pages
  still : (g : ℕ) → IsGroup table g → 1 ≤ pages_on g (vacated table i).entries
  still g h1 = grind (arith, nat_tests, pages_on-vacated g, one_if_zero-above g, company, is_alone, entry_fits)

  groups-own : is_shared entry.status ≡ false → groups_of (vacated table i) ≡ groups_of table
  unfolding groups_of
  groups-own own = grind (arith, nat_tests, groups-kept table.entries (vacated table i).entries table.groups, indices_on-set, is_alone, entry_fits, here)

  pub sharing-vacated : (pass : Pass) → sharing_of (vacated table i) pass ≡ record (gone (sharing_of table pass) i) { pins = pass.pins }
  unfolding gone broken groups_of
  sharing-vacated pass = grind (arith, nat_tests, common_steps, state-at, set-set, map-set (option_map state_of) table.entries i None, groups-left table.entries (vacated table i).entries i table.groups, without-here, still, group_of, groups-own)

  pub used-vacated : used_by (vacated table i) + (if is_shared entry.status then 0 else 1) ≡ used_by table
  used-vacated = grind (arith, own_pages-set, inside)

  -- the frame of a page that has its own is unused then
  freed : (old : CountsState) → AreCountsOf table old → one_if_zero (slice_index_or old.counts entry.frame 0 - 1) ≡ (if is_shared entry.status then 0 else 1)
  freed old counted = grind (arith, nat_tests, some_on, equal, company, one_if_zero-above, is_alone, entry_fits)

  pub sound-vacated : (old new : CountsState) → AreCountsOf table old → new.counts ≡ slice_set old.counts entry.frame (slice_index_or old.counts entry.frame 0 - 1)
      → length new.unused ≡ length old.unused + one_if_zero (slice_index_or old.counts entry.frame 0 - 1)
      → IsSound (vacated table i) new
  sound-vacated old new counted counts unused =
      record {
        fits = table-changed table (vacated table i) i None is refl refl refl is.pages is.zero tt (λ j y ne e a. grind (arith, nat_tests, pages_on-vacated y.frame, apart_alone table i j entry y here e ne a.one, a)) still;
        counted = grind (arith, nat_tests, counted-changed, length-set, used-vacated, freed old counted, counts-set, pages_on-vacated, some_on, equal, entry_fits);
      }

-- one page more goes
pub gone_from-last : (s : Sharing) (i n : ℕ) → gone_from s i (n + 1) ≡ gone (gone_from s i n) (i + n)
unfolding gone_from
gone_from-last s i zero = grind arith
gone_from-last s i (suc n) = grind (arith, gone_from-last (gone s i) (i + 1) n)

-- a page whose group ended goes then
pub gone_ended : (old ended new : TableState) (pass : Pass) (i : ℕ) → sharing_of ended pass ≡ broken (sharing_of old pass) i → IsOwnAt ended i → sharing_of new pass ≡ record (gone (sharing_of ended pass) i) { pins = pass.pins }
    → sharing_of new pass ≡ record (gone (sharing_of old pass) i) { pins = pass.pins }
unfolding gone
gone_ended old ended new pass i h1 h2 h3 = grind (arith, nat_tests, broken-own, state-at ended pass i)

-- one page more goes, whatever is pinned
pub gone-more : (old part new : TableState) (pass : Pass) (i n : ℕ) → sharing_of part pass ≡ record (gone_from (sharing_of old pass) i n) { pins = pass.pins }
    → sharing_of new pass ≡ record (gone (sharing_of part pass) (i + n)) { pins = pass.pins } → sharing_of new pass ≡ record (gone_from (sharing_of old pass) i (n + 1)) { pins = pass.pins }
unfolding gone broken
gone-more old part new pass i n h1 h2 = grind (arith, nat_tests, gone_from-last)
