-- What a memory says of a map that was taken away.
use Rattle.page_table.proofs.Base.{◌≡◌, ◌∙◌, ℕ, zero, suc, ◌+◌, ◌-◌, ◌*◌, ◌<◌, ◌≤◌, ◌&&◌, nat_le, nat_lt, not, Bool, false, List, [], ◌∷◌, length, map, filter, replicate, slice_index_or, slice_set, Option, Some, None, option_map, refl, ap, arith, length-map, length-replicate, ext_get_or, nat_tests, ordered, Pass, Shape, part_of, with_part, FlatMap, map_at, map_index_of, PinsFit, Sharing, is_shared, broken, gone, gone_from, part_dropped, waiting_outside, ended_at, dropped, moved_on, length-with_part, Waiter, Tenant, page_count, MemoryState, part, free_of, have_of, OtherTenantsUnchanged, AreMapsKeptBut, KeepsSettings, TableState, IsTable, AreOwnKeptOutside, ArePagesOf, IsPageAt, state_of, states_of, contents_of, sharing_of, waiting_of, used_by, view_of, is_listed, AreWaiters, IsMemory, IsPass}
use Rattle.page_table.proofs.Creating.{filled_more, with_part-none, length-contents, filled_at, read_refilled, wide_refilled, memory_refilled, one_refilled}
use Rattle.page_table.proofs.Reading.{content_in, few_pages, map_at-part, map_at-past}
use Rattle.page_table.proofs.Waiters.{waiter-kept, pins-kept}
use Rattle.page_table.proofs.Writing.{OneMap}
use Rattle.page_table.proofs.Unpinning.{fit-fewer, outside-pinned, others-unpinned, tenant-unpinned, pins-inside}
use Rattle.page_table.proofs.Vacating.{gone_from-last}
use Rattle.page_table.proofs.Entries.{free_is, state-at, page_of_entry}
use Rattle.page_table.proofs.Maps.{map_at-maps_of}

-- the waiting pages outside some indices
abbrev pub outside : ℕ → ℕ → List Waiter → List Waiter
outside first end ws = filter (λ w. not (nat_le first w.page_index && nat_lt w.page_index end)) ws

listed-outside : (first end i : ℕ) (ws : List Waiter) → is_listed i ws ≡ false → is_listed i (outside first end ws) ≡ false
listed-outside first end i [] none = refl
listed-outside first end i (w ∷ ws) none = grind (arith, listed-outside first end i ws)

waiters-outside : (old new : TableState) (c : Option ℕ) (first n : ℕ) (ws : List Waiter) → AreOwnKeptOutside first n old new → AreWaiters old.entries c ws → AreWaiters new.entries c (outside first (first + n) ws)
waiters-outside old new c first n [] kept are = tt
waiters-outside old new c first n (w ∷ ws) kept are = grind (arith, nat_tests, waiter-kept, listed-outside, waiters-outside old new c first n ws kept are.2)

-- the pass without the waiting pages at some indices, and without the pins of their map
abbrev pub left_outside : ℕ → ℕ → Pass → Pass
left_outside first end pass =
    record pass { waiting = record pass.waiting { listed = outside first end pass.waiting.listed }; pins = with_part pass.pins first (replicate 256 false) }

pub pass-outside : (old new : TableState) (pass : Pass) (first n : ℕ) → IsPass old pass → AreOwnKeptOutside first n old new → length new.arena ≡ length old.arena
    → length new.entries ≡ length old.entries → n ≤ 256 → first + 256 ≤ length pass.pins → IsPass new (left_outside first (first + n) pass)
pass-outside old new pass first n is kept arena long few inside =
    record {
      waiters = waiters-outside old new pass.cursor first n pass.waiting.listed kept is.waiters;
      room = omega (arith, arena, is.room);
      cursor = is.cursor;
      pins = pins-kept old new (left_outside first (first + n) pass) (fit-fewer (states_of old.entries) pass.pins first 256 inside is.pins) long (λ i entry pinned e volatile. kept i entry (grind (arith, outside-pinned pass.pins first 256 i inside pinned)) e (ap is_shared volatile));
    }

gone_from-pins : (s : Sharing) (i n : ℕ) → i + n ≤ length s.pins → (gone_from s i n).pins ≡ with_part s.pins i (replicate n false)
unfolding gone_from gone broken
gone_from-pins s i zero inside = with_part-none s.pins i
gone_from-pins s i (suc n) inside = let one : suc n ≡ n + 1 = omega arith in rw one (grind (arith, gone_from-last s i n, gone_from-pins s i n, filled_more s.pins i n false))

-- after a map's pages nothing is pinned
filled-same : (pins : List Bool) (at n d : ℕ) → at + n + d ≤ length pins → ((i : ℕ) → at + n ≤ i → i < at + n + d → slice_index_or pins i false ≡ false)
    → with_part pins at (replicate (n + d) false) ≡ with_part pins at (replicate n false)
filled-same pins at n d inside none = grind (arith, nat_tests, length-replicate n false, length-replicate, length-with_part pins at, ext_get_or false, filled_at pins at, filled_at pins at n)

-- the waiting list without some pages, as callers see it
waiting-outside : (first n : ℕ) (ws : List Waiter) → map waiting_of (outside first (first + n) ws) ≡ waiting_outside first n (map waiting_of ws)
waiting-outside first n [] = refl
waiting-outside first n (w ∷ ws) = grind (arith, waiting-outside first n ws)

-- which pages share frames after the pages went, before the pass is looked at
pub sharing-outside : (old new : TableState) (pass : Pass) (first n : ℕ) → n ≤ 256 → first + 256 ≤ length pass.pins
    → ((i : ℕ) → first + n ≤ i → i < first + 256 → slice_index_or pass.pins i false ≡ false)
    → sharing_of new pass ≡ record (gone_from (sharing_of old pass) first n) { pins = pass.pins }
    → sharing_of new (left_outside first (first + n) pass) ≡ record (gone_from (sharing_of old pass) first n) { waiting = waiting_outside first n (sharing_of old pass).waiting }
sharing-outside old new pass first n few inside none answer =
    grind (arith, nat_tests, waiting-outside first n pass.waiting.listed, filled-same pass.pins first n (256 - n), gone_from-pins (sharing_of old pass) first n)

-- a map that is there has one of eight numbers
pub number_small : (memory : MemoryState) (t m : ℕ) (shape : Shape) → option_map (λ (flat : FlatMap). flat.shape) (map_at (part memory t).maps m) ≡ Some shape → m < 8
unfolding part
number_small memory t m shape e = grind (arith, nat_tests, map_at-past, ordered)

-- a map was taken away, and nothing else has changed
pub record Drops (old new : MemoryState) (tenant m : ℕ) (shape : Shape) : Type 0 where
  pub taken : part new tenant ≡ part_dropped (part old tenant) m
  pub other_maps : AreMapsKeptBut m (part old tenant) (part new tenant)
  pub others : OtherTenantsUnchanged tenant old new
  pub sharing : new.sharing ≡ dropped old.sharing (map_index_of tenant m * 256) (page_count shape)
  pub freed : free_of old ≤ free_of new
  pub have : have_of new + free_of old ≡ have_of old + free_of new
  pub settings : KeepsSettings old new

module _ (table : TableState) (shapes : List (Option Shape)) (tenants : List Tenant) (pass : Pass) (reserved tenant m : ℕ) (shape : Shape) (now : MemoryState) (same : view_of table shapes tenants pass ≡ now)
    (is : IsMemory table shapes tenants reserved) (inside : tenant < length now.tenants) (here : option_map (λ (flat : FlatMap). flat.shape) (map_at (part now tenant).maps m) ≡ Some shape) where
  abbrev k : ℕ
  k = map_index_of tenant m

  small : m < 8
  small = number_small now tenant m shape here

  tenant_inside : tenant < length tenants
  unfolding view_of
  tenant_inside = rw (← same) at inside

  pub index_inside : k < length shapes
  index_inside = let h = small in let t = tenant_inside in omega (arith, is.numbers, h, t)

  old_pages : ArePagesOf shape (part_of (contents_of table) (k * 256) 256)
  unfolding view_of part
  old_pages = grind (arith, nat_tests, map_at-part, map_at-maps_of, small, index_inside)

  pub few : page_count shape ≤ 256
  few = few_pages shape old_pages.shaped

  all : k * 256 + 256 ≤ length (contents_of table)
  all = let h = index_inside in omega (arith, is.maps.page_indices, h)

  pub page_indices_inside : k * 256 + page_count shape ≤ length table.entries
  page_indices_inside = let long = length-contents table in let h = all in let f = few in omega (arith, long, h, f)

  pub pages_there : (i : ℕ) → i < page_count shape → IsPageAt table (k * 256 + i)
  pages_there i less = let f = few in ap length (content_in (contents_of table) k i (omega (arith, less, f))) ∙ old_pages.there i less

  pub map_pins : PinsFit (states_of table.entries) pass.pins → k * 256 + 256 ≤ length pass.pins
  map_pins fit = omega (arith, length-contents table, length-map table.entries (option_map state_of), all, fit.as_many)

  -- no index after the map's pages is pinned
  pub unpinned_following : IsTable table → PinsFit (states_of table.entries) pass.pins → (i : ℕ) → k * 256 + page_count shape ≤ i → i < k * 256 + 256 → slice_index_or pass.pins i false ≡ false
  unpinned_following fits fit i from less = grind (arith, nat_tests, content_in (contents_of table) k (i - k * 256), old_pages, state-at table pass i, page_of_entry table i, fit.volatile i)

  module _ (new : TableState) (contents : contents_of new ≡ with_part (contents_of table) (k * 256) (replicate (page_count shape) []))
      (used : used_by new ≤ used_by table) (arena : length new.arena ≡ length table.arena) where
    abbrev pages_new : List (List ℕ)
    pages_new = part_of (contents_of new) (k * 256) 256

    none_new : (n : ℕ) → slice_index_or pages_new n [] ≡ []
    none_new n = grind (arith, nat_tests, read_refilled table new shapes tenants reserved tenant m (page_count shape) [] None is small index_inside few contents arena n, old_pages.none n)

    abbrev shapes_new : List (Option Shape)
    shapes_new = slice_set shapes k None

    pub memory_dropped : IsMemory new shapes_new tenants reserved
    memory_dropped = memory_refilled table new shapes tenants reserved tenant m (page_count shape) [] None is small index_inside few contents arena (omega (arith, used, is.room)) none_new

    pub long_new : length new.entries ≡ length table.entries
    long_new = grind (arith, length-contents, wide_refilled table new shapes tenants reserved tenant m (page_count shape) [] None is small index_inside few contents arena)

    module _ (fits : IsTable table) (fit : PinsFit (states_of table.entries) pass.pins) (done : Pass) (ended : sharing_of new done ≡ ended_at (sharing_of new (left_outside (k * 256) (k * 256 + page_count shape) pass)) pass.cursor)
        (answer : sharing_of new pass ≡ record (gone_from (sharing_of table pass) (k * 256) (page_count shape)) { pins = pass.pins }) where
      abbrev before : MemoryState
      before = view_of table shapes tenants pass

      abbrev after : MemoryState
      after = view_of new shapes_new tenants done

      pins_after : done.pins ≡ with_part pass.pins (tenant * 2048 + m * 256) (replicate 256 false)
      unfolding moved_on
      pins_after = grind (arith, nat_tests)

      tenant_pins : tenant * 2048 + 2048 ≤ length pass.pins
      tenant_pins = let t = tenant_inside in pins-inside table shapes tenants pass reserved is fit tenant t

      one : OneMap before after tenant m None (with_part (part_of pass.pins (tenant * 2048) 2048) (m * 256) (replicate 256 false))
      one =
          let within : m * 256 + 256 ≤ 2048 = omega (arith, small) in
          one_refilled table new shapes tenants reserved tenant m (page_count shape) [] None is small index_inside few contents arena pass done (with_part (part_of pass.pins (tenant * 2048) 2048) (m * 256) (replicate 256 false))
          (rw pins_after (tenant-unpinned pass.pins tenant (m * 256) 256 within tenant_pins)) (λ u ne. rw pins_after (others-unpinned pass.pins tenant (m * 256) 256 u within tenant_pins ne))

      pub drops : Drops before after tenant m shape
      unfolding view_of dropped part
      drops = grind (arith, nat_tests, free_is table shapes tenants pass, free_is new shapes_new tenants done, one, sharing-outside, few, map_pins, unpinned_following)
