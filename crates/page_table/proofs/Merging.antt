-- What a memory gives after pages came to share frames, or left shared ones: the bytes of each page stay.
use Rattle.page_table.proofs.Base.{◌≡◌, ◌≢◌, ℕ, ◌+◌, ◌*◌, ◌<◌, ◌≤◌, List, length, Option, refl, arith, Bool, nat_tests, Pass, Shape, Page, part_of, page_index_of, break_cost, Sharing, Tenant, MemoryState, part, free_of, have_of, IsPageOf, IsOwn, AreKept, OtherTenantsUnchanged, KeepsSettings, with_pins, TableState, IsOwnAt, contents_of, sharing_of, used_by, break_frames, view_of, IsMemory}
use Rattle.page_table.proofs.Reading.{page_located, page_number, few_pages}
use Rattle.page_table.proofs.Entries.{free_is, state-at}

-- The pages' bytes stay, and frames were taken and given back. The pins and what is reported of sharing are those of the table and the pass, before and after.
pub record Moves (old new : MemoryState) (pins pins_now : List Bool) (answer reported_now : Sharing) (taken given : ℕ) : Type 0 where
  pub maps : new.maps ≡ old.maps
  pub kept : pins_now ≡ pins → AreKept old new
  pub sharing : (change : Sharing → Sharing) → reported_now ≡ change answer → new.sharing ≡ change old.sharing
  pub settings : KeepsSettings old new
  pub free : free_of new + taken ≡ free_of old + given
  pub have : have_of new + taken ≡ have_of old + given

-- another table with the same pages, on as many frames
module _ (table new : TableState) (shapes : List (Option Shape)) (tenants : List Tenant) (pass now : Pass) (contents : contents_of new ≡ contents_of table) (arena : length new.arena ≡ length table.arena) where
  abbrev before : MemoryState
  before = view_of table shapes tenants pass

  abbrev after : MemoryState
  after = view_of new shapes tenants now

  -- another tenant's part stays where its pins do
  pub parts_but : (t : ℕ) → ((u : ℕ) → u ≢ t → part_of now.pins (u * 2048) 2048 ≡ part_of pass.pins (u * 2048) 2048) → OtherTenantsUnchanged t before after
  unfolding view_of part
  parts_but t pins u ne = rw (contents, pins u ne) refl

  -- a tenant's part has other pins
  pub part_pinned : (t : ℕ) → part after t ≡ with_pins (part_of after.sharing.pins (t * 2048) 2048) (part before t)
  unfolding view_of part
  part_pinned t = rw contents refl

  -- what the change says of a memory that callers saw before
  pub moves : (seen : MemoryState) → before ≡ seen → (taken given reserved : ℕ) → IsMemory table shapes tenants reserved → reserved + used_by new ≤ length table.arena
      → used_by new + given ≡ used_by table + taken → Moves seen after pass.pins now.pins (sharing_of table pass) (sharing_of new now) taken given
  unfolding view_of part
  moves seen same taken given reserved is room used = grind (arith, nat_tests, free_is table shapes tenants pass, free_is new shapes tenants now, contents, arena)

-- how many frames the break of a page takes, as callers see it
module _ (table : TableState) (shapes : List (Option Shape)) (tenants : List Tenant) (pass : Pass) (costs : (pass : Pass) (i : ℕ) → break_cost (sharing_of table pass) i ≡ break_frames table i) where
  pub cost_reported : (i : ℕ) → break_cost (view_of table shapes tenants pass).sharing i ≡ break_frames table i
  unfolding view_of
  cost_reported i = costs pass i

  -- where the frames that a break takes may be had, there is room for it beside those reserved
  pub cost_reserved : (reserved i : ℕ) → IsMemory table shapes tenants reserved → break_cost (view_of table shapes tenants pass).sharing i ≤ have_of (view_of table shapes tenants pass)
      → reserved + (used_by table + break_frames table i) ≤ length table.arena
  unfolding view_of
  cost_reserved reserved i is enough = grind (arith, costs pass i, free_is table shapes tenants pass)

-- a page with a frame of its own, as callers see it
pub own_reported : (table : TableState) (shapes : List (Option Shape)) (tenants : List Tenant) (pass : Pass) (page : Page) → IsOwnAt table (page_index_of page)
    → IsOwn (view_of table shapes tenants pass) page
unfolding view_of
own_reported table shapes tenants pass page own = grind (arith, nat_tests, state-at table pass (page_index_of page))

module _ (table : TableState) (shapes : List (Option Shape)) (tenants : List Tenant) (pass : Pass) (reserved : ℕ) (is : IsMemory table shapes tenants reserved) where
  pub number_small : (page : Page) → IsPageOf (view_of table shapes tenants pass) page → page.number < 256
  number_small page there =
      grind (arith, page_located table shapes tenants pass reserved page is there, page_number table shapes tenants pass reserved page is there, few_pages)

  pub map_small : (page : Page) → IsPageOf (view_of table shapes tenants pass) page → page.map < 8
  map_small page there = (page_located table shapes tenants pass reserved page is there).small
