-- What a memory says of a page that is there.
use Rattle.page_table.proofs.Base.{◌≡◌, ◌∙◌, ℕ, ◌+◌, ◌*◌, ◌<◌, ◌≤◌, List, [], length, take, drop, slice_index_or, Option, Some, None, option_map, unwrap_or, sym, ap, arith, get_or_past, get_or-take, get_or-drop, nat_tests, common_steps, ordered, Pass, Shape, Page, part_of, FlatMap, FlatMaps, map_at, map_index_of, page_index_of, page_bytes, IsShape, byte_len_of, state_at, Entry, Tenant, page_count, part, bytes_of_map, frame_at, IsPageOf, TableState, IsPageAt, maps_of, flat_of, ArePagesOf, AreMaps, contents_of, entry_at, state_of, view_of, IsMemory}
use Rattle.std.proofs.Common.{length-take}
use Rattle.page_table.proofs.Maps.{map_at-maps_of, page_bytes-page}
use Rattle.page_table.proofs.Entries.{reported_here}

-- a tenant's map by its number, among the maps of all tenants
pub map_at-part : (maps : FlatMaps) (t m : ℕ) → m < 8 → map_at (part_of maps (t * 8) 8) m ≡ map_at maps (map_index_of t m)
unfolding part_of
map_at-part maps t m small = get_or-take 8 (drop (t * 8) maps) m None small ∙ get_or-drop (t * 8) maps m None

-- a tenant has no map of another number
pub map_at-past : (maps : FlatMaps) (t m : ℕ) → 8 ≤ m → map_at (part_of maps (t * 8) 8) m ≡ None
unfolding part_of
map_at-past maps t m h1 = grind (arith, nat_tests, length-take 8 (drop (t * 8) maps), get_or_past (take 8 (drop (t * 8) maps)) m None)

-- the bytes of what may be a map
abbrev pub bytes_in : Option FlatMap → List ℕ
bytes_in flat = unwrap_or (option_map (λ (flat : FlatMap). flat.bytes) flat) []

-- a byte of a tenant's map is in a map of the memory
pub record IsLocated (shapes : List (Option Shape)) (contents : List (List ℕ)) (t m at : ℕ) : Type 0 where
  pub small : m < 8
  pub inside : map_index_of t m < length shapes
  pub shape : Shape
  pub here : slice_index_or shapes (map_index_of t m) None ≡ Some shape
  pub pages : ArePagesOf shape (part_of contents (map_index_of t m * 256) 256)
  pub within : at < byte_len_of shape
  pub flat : map_at (part_of (maps_of shapes contents) (t * 8) 8) m ≡ Some (flat_of (part_of contents (map_index_of t m * 256) 256) shape)

pub located : (shapes : List (Option Shape)) (contents : List (List ℕ)) (t m at : ℕ) → AreMaps shapes contents
    → at < length (bytes_in (map_at (part_of (maps_of shapes contents) (t * 8) 8) m)) → IsLocated shapes contents t m at
located shapes contents t m at are there = grind (arith, nat_tests, common_steps, map_at-past, ordered, map_at-part, map_at-maps_of)

-- the pages of a shape within the limits are at most 256
pub few_pages : (shape : Shape) → IsShape shape → page_count shape ≤ 256
few_pages shape is = let h = is.paged in omega arith

-- the content of a page by its number in its map
pub content_in : (contents : List (List ℕ)) (k n : ℕ) → n < 256 → slice_index_or contents (k * 256 + n) [] ≡ slice_index_or (part_of contents (k * 256) 256) n []
unfolding part_of
content_in contents k n small = sym (get_or-take 256 (drop (k * 256) contents) n [] small ∙ get_or-drop (k * 256) contents n [])

module _ (table : TableState) (shapes : List (Option Shape)) (tenants : List Tenant) (pass : Pass) (reserved : ℕ) (page : Page) (is : IsMemory table shapes tenants reserved) (there : IsPageOf (view_of table shapes tenants pass) page) where
  pub page_located : IsLocated shapes (contents_of table) page.tenant page.map (page.number * 4096)
  unfolding view_of part
  page_located = located shapes (contents_of table) page.tenant page.map (page.number * 4096) is.maps there

  pub page_number : page.number < page_count page_located.shape
  page_number = let h = page_located.within in omega arith

  page_small : page.number < 256
  page_small = let few = few_pages page_located.shape page_located.pages.shaped in let h = page_number in omega arith

  pub is_page_at : IsPageAt table (page_index_of page)
  is_page_at = ap length (content_in (contents_of table) (map_index_of page.tenant page.map) page.number page_small) ∙ page_located.pages.there page.number page_number

  pub content_is : slice_index_or (contents_of table) (page_index_of page) [] ≡ page_bytes (bytes_of_map (view_of table shapes tenants pass) page) page.number
  unfolding view_of part
  content_is = grind (arith, nat_tests, content_in, page_small, page_bytes-page, page_number)

  pub state_is : (entry : Entry) → entry_at table.entries (page_index_of page) ≡ Some entry → state_at (view_of table shapes tenants pass).sharing (page_index_of page) ≡ Some (state_of entry)
  unfolding view_of
  state_is entry e = reported_here state_of table.entries (page_index_of page) entry e

  pub frame_is : (entry : Entry) → entry_at table.entries (page_index_of page) ≡ Some entry → frame_at (view_of table shapes tenants pass) (page_index_of page) ≡ Some entry.frame
  unfolding view_of
  frame_is entry e = reported_here (λ (entry : Entry). entry.frame) table.entries (page_index_of page) entry e
