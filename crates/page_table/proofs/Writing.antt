-- What a memory gives after bytes of a page were written.
use Rattle.page_table.proofs.Base.{◌≡◌, ◌≢◌, ◌∙◌, Bool, ℕ, ◌+◌, ◌*◌, ◌<◌, ◌≤◌, List, [], length, slice_index_or, slice_set, Option, Some, None, IfSome, false, option_map, refl, ap, arith, concat, get_or-set_same, get_or-set_other, get_or_past, length-take-le, nat_tests, common_steps, Pass, Shape, Page, part_of, with_part, FlatMap, map_at, map_index_of, page_index_of, byte_len_of, is_shared, length-with_part, Tenant, page_count, MemoryState, part, bytes_of_map, IsPageOf, IsOwn, map_written, part_written, OtherTenantsUnchanged, AreMapsKeptBut, KeepsSettings, TableState, entry_at, flat_of, ArePages, ArePagesOf, contents_of, groups_of, used_by, view_of, IsMemory, take-with_part, drop-with_part_before}
use Rattle.std.proofs.Common.{length-set}
use Rattle.page_table.proofs.Maps.{maps_of-changed, length-maps_of, part_of-set_same, part_of-set_other, concat-written, length-concat}
use Rattle.page_table.proofs.Entries.{state-at}
use Rattle.page_table.proofs.Reading.{IsLocated, page_located, page_number, few_pages, content_in, map_at-part}

-- one map of a tenant became another one, or none, and nothing else of its part has changed but its pins
pub record OneMap (old new : MemoryState) (t m : ℕ) (flat : Option FlatMap) (pins : List Bool) : Type 0 where
  pub part_new : part new t ≡ record (part old t) { maps = slice_set (part old t).maps m flat; pins = pins }
  pub there : map_at (part new t).maps m ≡ flat
  pub other_maps : AreMapsKeptBut m (part old t) (part new t)
  pub others : OtherTenantsUnchanged t old new
  pub settings : KeepsSettings old new

-- the pages of one map change, and perhaps its shape
module _ (table new : TableState) (shapes renewed : List (Option Shape)) (tenants : List Tenant) (reserved t m : ℕ) (is : IsMemory table shapes tenants reserved)
    (small : m < 8) (inside : map_index_of t m < length shapes) (long : length renewed ≡ length shapes) (wide : length (contents_of new) ≡ length (contents_of table))
    (other_shapes : (j : ℕ) → j ≢ map_index_of t m → slice_index_or renewed j None ≡ slice_index_or shapes j None)
    (other_pages : (j : ℕ) → j ≢ map_index_of t m → part_of (contents_of new) (j * 256) 256 ≡ part_of (contents_of table) (j * 256) 256)
    (arena : length new.arena ≡ length table.arena) where
  pub memory_changed : reserved + used_by new ≤ length table.arena → ArePages (slice_index_or renewed (map_index_of t m) None) (part_of (contents_of new) (map_index_of t m * 256) 256)
      → IsMemory new renewed tenants reserved
  memory_changed room right = grind (arith, nat_tests, wide)

  pub one_map : (pass now : Pass) (flat : Option FlatMap) (pins : List Bool)
      → option_map (flat_of (part_of (contents_of new) (map_index_of t m * 256) 256)) (slice_index_or renewed (map_index_of t m) None) ≡ flat
      → part_of now.pins (t * 2048) 2048 ≡ pins → ((u : ℕ) → u ≢ t → part_of now.pins (u * 2048) 2048 ≡ part_of pass.pins (u * 2048) 2048)
      → OneMap (view_of table shapes tenants pass) (view_of new renewed tenants now) t m flat pins
  unfolding view_of part
  one_map pass now flat pins here own others =
      grind (arith, nat_tests, maps_of-changed shapes renewed (contents_of table) (contents_of new) (map_index_of t m) flat, part_of-set_same, get_or-set_other, part_of-set_other, get_or-set_same, length-maps_of, map_at-part)

-- bytes of a page were written, and nothing else has changed
pub record Writes (old new : MemoryState) (page : Page) (at : ℕ) (bytes : List ℕ) : Type 0 where
  pub written : part new page.tenant ≡ part_written (part old page.tenant) page.map (page.number * 4096 + at) bytes
  pub bytes_new : bytes_of_map new page ≡ with_part (bytes_of_map old page) (page.number * 4096 + at) bytes
  pub other_maps : AreMapsKeptBut page.map (part old page.tenant) (part new page.tenant)
  pub others : OtherTenantsUnchanged page.tenant old new
  pub sharing : new.sharing ≡ old.sharing
  pub frames : new.frames ≡ old.frames
  pub settings : KeepsSettings old new

-- bytes written into one page, among the pages of a map
module _ (shape : Shape) (pages : List (List ℕ)) (n at : ℕ) (bytes : List ℕ) (are : ArePagesOf shape pages) (there : n < page_count shape) (in_page : at + length bytes ≤ 4096) (in_map : n * 4096 + at + length bytes ≤ byte_len_of shape) where
  abbrev written : List ℕ
  written = with_part (slice_index_or pages n []) at bytes

  whole : length (concat pages) ≡ page_count shape * 4096
  whole = length-concat pages (page_count shape) are.there are.none

  joined : concat (slice_set pages n written) ≡ with_part (concat pages) (n * 4096 + at) bytes
  joined = concat-written pages n at bytes (λ m le. are.there m (omega (arith, le, there))) in_page

  pub flat_written : flat_of (slice_set pages n written) shape ≡ map_written (n * 4096 + at) bytes (flat_of pages shape)
  flat_written = grind (arith, nat_tests, joined, take-with_part, whole)

  pub pages_written : ArePagesOf shape (slice_set pages n written)
  pages_written =
      grind (arith, nat_tests, there, get_or-set_other, written, joined, drop-with_part_before, whole, get_or_past, length-with_part, get_or-set_same)

module _ (table new : TableState) (shapes : List (Option Shape)) (tenants : List Tenant) (pass : Pass) (reserved : ℕ) (page : Page) (at : ℕ) (bytes : List ℕ) (is : IsMemory table shapes tenants reserved) (there : IsPageOf (view_of table shapes tenants pass) page) (in_page : at + length bytes ≤ 4096) (in_map : page.number * 4096 + at + length bytes ≤ length (bytes_of_map (view_of table shapes tenants pass) page))
    (contents : contents_of new ≡ slice_set (contents_of table) (page_index_of page) (with_part (slice_index_or (contents_of table) (page_index_of page) []) at bytes))
    (entries : new.entries ≡ table.entries) (groups : new.groups ≡ table.groups) (arena : length new.arena ≡ length table.arena) where
  abbrev k : ℕ
  k = map_index_of page.tenant page.map

  abbrev old_pages : List (List ℕ)
  old_pages = part_of (contents_of table) (k * 256) 256

  abbrev loc : IsLocated shapes (contents_of table) page.tenant page.map (page.number * 4096)
  loc = page_located table shapes tenants pass reserved page is there

  number : page.number < page_count loc.shape
  number = page_number table shapes tenants pass reserved page is there

  small : page.number < 256
  small = let few = few_pages loc.shape loc.pages.shaped in let h = number in omega arith

  in_bytes : page.number * 4096 + at + length bytes ≤ byte_len_of loc.shape
  unfolding view_of part
  in_bytes = grind (arith, nat_tests, common_steps, old_pages, length-concat, length-take-le)

  contents_new : contents_of new ≡ slice_set (contents_of table) (k * 256 + page.number) (with_part (slice_index_or old_pages page.number []) at bytes)
  contents_new = contents ∙ ap (λ l. slice_set (contents_of table) (k * 256 + page.number) (with_part l at bytes)) (content_in (contents_of table) k page.number small)

  pages_new : part_of (contents_of new) (k * 256) 256 ≡ slice_set old_pages page.number (with_part (slice_index_or old_pages page.number []) at bytes)
  pages_new = ap (λ l. part_of l (k * 256) 256) contents_new ∙ part_of-set_same (contents_of table) (k * 256) page.number 256 (with_part (slice_index_or old_pages page.number []) at bytes) small

  others_new : (j : ℕ) → j ≢ k → part_of (contents_of new) (j * 256) 256 ≡ part_of (contents_of table) (j * 256) 256
  others_new j ne = ap (λ l. part_of l (j * 256) 256) contents_new ∙ part_of-set_other (contents_of table) k page.number j 256 (with_part (slice_index_or old_pages page.number []) at bytes) small ne

  abbrev flat_new : FlatMap
  flat_new = map_written (page.number * 4096 + at) bytes (flat_of old_pages loc.shape)

  wide : length (contents_of new) ≡ length (contents_of table)
  wide = ap length contents ∙ length-set (contents_of table) (page_index_of page) (with_part (slice_index_or (contents_of table) (page_index_of page) []) at bytes)

  pub memory_written : IsMemory new shapes tenants reserved
  memory_written = grind (arith, nat_tests, pages_written, old_pages, memory_changed, wide, others_new, pages_new, number, in_bytes)

  abbrev before : MemoryState
  before = view_of table shapes tenants pass

  abbrev after : MemoryState
  after = view_of new shapes tenants pass

  one : OneMap before after page.tenant page.map (Some flat_new) (part before page.tenant).pins
  unfolding view_of part
  one = grind (arith, nat_tests, one_map table new shapes shapes tenants reserved page.tenant page.map is loc.small loc.inside refl wide (λ j ne. refl) others_new arena pass pass (Some flat_new), loc, pages_new, flat_written loc.shape old_pages page.number at bytes loc.pages, number, in_bytes)

  pub writes : Writes before after page at bytes
  unfolding view_of part groups_of
  writes = grind (arith, nat_tests, one, loc)

pub own_entry : (table : TableState) (shapes : List (Option Shape)) (tenants : List Tenant) (pass : Pass) (page : Page) → IsOwn (view_of table shapes tenants pass) page
    → IfSome (entry_at table.entries (page_index_of page)) (λ entry. is_shared entry.status ≡ false)
unfolding view_of
own_entry table shapes tenants pass page own = grind (arith, nat_tests, state-at table pass (page_index_of page))
