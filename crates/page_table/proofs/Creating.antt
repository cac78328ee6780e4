-- New pages at indices one after another, and what a memory says of a new map.
use Rattle.page_table.proofs.Base.{◌≡◌, ◌≢◌, ◌∙◌, ℕ, zero, suc, ◌+◌, ◌-◌, ◌*◌, ◌<◌, ◌≤◌, List, [], ◌∷◌, ◌++◌, length, take, replicate, slice_index_or, slice_set, Option, Some, None, Bool, option_map, refl, sym, ap, arith, nat_le, nat_lt, ◌&&◌, if◌then◌else◌, concat, get_or-set_same, get_or-set_other, length-replicate, append-nil, take-append-drop, replicate-append-replicate, take-replicate, drop-replicate, length-map, nat_tests, get_or-replicate, ext_get_or, Pass, Shape, part_of, with_part, map_at, map_index_of, zero_page, IsShape, byte_len_of, new_page, length-with_part, replicate-zero_page, length-zero_page, Entry, Tenant, page_count, MemoryState, part, have_of, zero_map, part_created, with_new_pages, view_of, IsMemory, TableState, groups_of, used_by, state_of, states_of, maps_of, flat_of, ArePages, ArePagesOf, contents_of, entry_content}
use Rattle.std.proofs.Common.{length-set}
use Rattle.page_table.specs.Changes.{HasMap}
use Rattle.page_table.proofs.Maps.{map_at-maps_of, part-at, written-at, part-kept, lies-apart}
use Rattle.page_table.proofs.Reading.{content_in, few_pages, map_at-part}
use Rattle.page_table.proofs.Entries.{free_is}
use Rattle.page_table.proofs.Writing.{OneMap, memory_changed, one_map}

pub with_part-none : {X : Type 0} (xs : List X) (at : ℕ) → xs ≡ with_part xs at []
unfolding with_part
with_part-none xs at = grind (arith, nat_tests, append-nil (take at xs), take-append-drop at xs)

-- what is read where equal elements were filled in
pub filled_at : {X : Type 0} (xs : List X) (at n i : ℕ) (x d : X) → at + n ≤ length xs
    → slice_index_or (with_part xs at (replicate n x)) i d ≡ (if nat_le at i && nat_lt i (at + n) then x else slice_index_or xs i d)
filled_at xs at n i x d fits = grind (arith, nat_tests, written-at xs (replicate n x) at i d, length-replicate n x, get_or-replicate n (i - at) x d)

-- one more of many equal elements
pub filled_more : {X : Type 0} (xs : List X) (at n : ℕ) (x : X) → at + n < length xs → slice_set (with_part xs at (replicate n x)) (at + n) x ≡ with_part xs at (replicate (n + 1) x)
filled_more xs at n x inside =
    ext_get_or x _ _ (grind (arith, length-set, length-with_part, length-replicate)) (λ i less. grind (arith, nat_tests, filled_at xs at n i x x, filled_at xs at (n + 1) i x x, get_or-set_same (with_part xs at (replicate n x)) (at + n) x x, get_or-set_other (with_part xs at (replicate n x)) (at + n) i x x, length-set, length-with_part xs at (replicate n x), length-replicate n x))

pub length-contents : (table : TableState) → length (contents_of table) ≡ length table.entries
unfolding contents_of
length-contents table = length-map table.entries (entry_content table.arena)

pub length-states : (entries : List (Option Entry)) → length (states_of entries) ≡ length entries
length-states entries = length-map entries (option_map state_of)

-- pages of zeros one after another
zeros_joined : (n m : ℕ) → n ≡ 4096 → zero_page ++ replicate m 0 ≡ replicate (n + m) 0
zeros_joined n m e = ap (λ l. l ++ replicate m 0) (sym (replicate-zero_page n e)) ∙ replicate-append-replicate n m 0

concat-zeros : (pages : List (List ℕ)) (count : ℕ) → ((n : ℕ) → slice_index_or pages n [] ≡ (if nat_lt n count then zero_page else [])) → concat pages ≡ replicate (count * 4096) 0
concat-zeros [] zero read = refl
concat-zeros [] (suc count) read = grind (arith, nat_tests, read 0, length-zero_page)
concat-zeros (page ∷ pages) zero read = grind (arith, nat_tests, read 0, concat-zeros pages 0 (λ n. grind (arith, nat_tests, read (suc n))))
concat-zeros (page ∷ pages) (suc count) read =
    grind (arith, nat_tests, read 0, concat-zeros pages count (λ n. grind (arith, nat_tests, read (suc n))), zeros_joined 4096 (count * 4096) refl)

-- what is filled in one of several parts leaves the others
pub others-filled : {X : Type 0} (xs : List X) (at k m n j width : ℕ) (x : X) → at ≡ k * width + m → m + n ≤ width → at + n ≤ length xs → j ≢ k
    → part_of (with_part xs at (replicate n x)) (j * width) width ≡ part_of xs (j * width) width
others-filled xs at k m n j width x page_index few inside ne =
    part-kept xs (with_part xs at (replicate n x)) (j * width) width x (grind (arith, length-with_part, length-replicate)) (λ i from less. grind (arith, nat_tests, lies-apart j k width, lies-apart k j width, filled_at xs at n i x x))

-- a map whose pages are new
module _ (shape : Shape) (pages : List (List ℕ)) (is : IsShape shape) (read : (n : ℕ) → slice_index_or pages n [] ≡ (if nat_lt n (page_count shape) then zero_page else [])) where
  pub pages_created : ArePagesOf shape pages
  pages_created =
      record {
        shaped = is;
        there = λ n less. grind (arith, nat_tests, read n, length-zero_page);
        none = λ n past. grind (arith, nat_tests, read n);
        padded = rw (concat-zeros pages (page_count shape) read) (drop-replicate (byte_len_of shape) (page_count shape * 4096) 0);
      }

  pub flat_created : flat_of pages shape ≡ zero_map shape
  flat_created = grind (arith, concat-zeros pages (page_count shape) read, take-replicate {X = ℕ} (byte_len_of shape) (page_count shape * 4096) 0)

-- what a new map at an index without one needs is there
module _ (table : TableState) (shapes : List (Option Shape)) (tenants : List Tenant) (pass : Pass) (reserved tenant m : ℕ) (shape : Shape)
    (is : IsMemory table shapes tenants reserved) (small : m < 8) (inside : tenant < length tenants) (empty : slice_index_or shapes (map_index_of tenant m) None ≡ None) (shaped : IsShape shape) where
  pub index_inside : map_index_of tenant m < length shapes
  index_inside = omega (arith, is.numbers, inside, small)

  pub no_contents : (i : ℕ) → map_index_of tenant m * 256 ≤ i → i < map_index_of tenant m * 256 + page_count shape → slice_index_or (contents_of table) i [] ≡ []
  no_contents i from less = grind (arith, nat_tests, few_pages shape shaped, content_in (contents_of table) (map_index_of tenant m) (i - map_index_of tenant m * 256), is.maps.each (map_index_of tenant m) index_inside, empty)

-- the first pages of one map were filled alike, and another shape stands at its index
module _ (table new : TableState) (shapes : List (Option Shape)) (tenants : List Tenant) (reserved t m count : ℕ) (page : List ℕ) (shape : Option Shape) (is : IsMemory table shapes tenants reserved) (small : m < 8) (inside : map_index_of t m < length shapes)
    (few : count ≤ 256) (contents : contents_of new ≡ with_part (contents_of table) (map_index_of t m * 256) (replicate count page)) (arena : length new.arena ≡ length table.arena) where
  pub wide_refilled : length (contents_of new) ≡ length (contents_of table)
  wide_refilled = grind (arith, length-replicate count page, length-with_part)

  pub read_refilled : (n : ℕ) → slice_index_or (part_of (contents_of new) (map_index_of t m * 256) 256) n [] ≡ (if nat_lt n count then page else slice_index_or (part_of (contents_of table) (map_index_of t m * 256) 256) n [])
  read_refilled n = grind (arith, part-at, filled_at)

  others_refilled : (j : ℕ) → j ≢ map_index_of t m → part_of (contents_of new) (j * 256) 256 ≡ part_of (contents_of table) (j * 256) 256
  others_refilled j ne = grind (arith, others-filled (contents_of table) (map_index_of t m * 256) (map_index_of t m) 0 count j 256 page)

  pub memory_refilled : reserved + used_by new ≤ length table.arena → ArePages shape (part_of (contents_of new) (map_index_of t m * 256) 256) → IsMemory new (slice_set shapes (map_index_of t m) shape) tenants reserved
  memory_refilled room right =
      grind (arith, nat_tests, memory_changed table new shapes (slice_set shapes (map_index_of t m) shape) tenants reserved t m is small inside, length-set, wide_refilled, get_or-set_other, others_refilled, get_or-set_same)

  pub one_refilled : (pass now : Pass) (pins : List Bool) → part_of now.pins (t * 2048) 2048 ≡ pins → ((u : ℕ) → u ≢ t → part_of now.pins (u * 2048) 2048 ≡ part_of pass.pins (u * 2048) 2048)
      → OneMap (view_of table shapes tenants pass) (view_of new (slice_set shapes (map_index_of t m) shape) tenants now) t m (option_map (flat_of (part_of (contents_of new) (map_index_of t m * 256) 256)) shape) pins
  one_refilled pass now pins own others =
      one_map table new shapes (slice_set shapes (map_index_of t m) shape) tenants reserved t m is small inside (length-set shapes (map_index_of t m) shape) wide_refilled (λ j ne. get_or-set_other shapes (map_index_of t m) j shape None ne) others_refilled arena
      pass now _ pins (ap (option_map (flat_of (part_of (contents_of new) (map_index_of t m * 256) 256))) (get_or-set_same shapes (map_index_of t m) shape None inside)) own others

-- a number without a map has no shape
pub shape_none : (shapes : List (Option Shape)) (contents : List (List ℕ)) (t m : ℕ) → m < 8 → map_at (part_of (maps_of shapes contents) (t * 8) 8) m ≡ None → slice_index_or shapes (map_index_of t m) None ≡ None
shape_none shapes contents t m h1 h2 = grind (arith, nat_tests, map_at-part, map_at-maps_of)

module _ (table new : TableState) (shapes : List (Option Shape)) (tenants : List Tenant) (pass : Pass) (reserved tenant m : ℕ) (shape : Shape) (mergeable : Bool)
    (is : IsMemory table shapes tenants reserved) (small : m < 8) (inside : tenant < length tenants) (empty : slice_index_or shapes (map_index_of tenant m) None ≡ None) (shaped : IsShape shape)
    (contents : contents_of new ≡ with_part (contents_of table) (map_index_of tenant m * 256) (replicate (page_count shape) zero_page))
    (states : states_of new.entries ≡ with_part (states_of table.entries) (map_index_of tenant m * 256) (replicate (page_count shape) (Some (new_page mergeable))))
    (groups : groups_of new ≡ groups_of table) (used : used_by new ≡ used_by table + page_count shape) (arena : length new.arena ≡ length table.arena)
    (room : reserved + used_by table + page_count shape ≤ length table.arena) where
  abbrev k : ℕ
  k = map_index_of tenant m

  page_index_inside : k < length shapes
  page_index_inside = omega (arith, is.numbers, inside, small)

  few : page_count shape ≤ 256
  few = few_pages shape shaped

  abbrev pages_new : List (List ℕ)
  pages_new = part_of (contents_of new) (k * 256) 256

  read : (n : ℕ) → slice_index_or pages_new n [] ≡ (if nat_lt n (page_count shape) then zero_page else [])
  read n = grind (arith, nat_tests, read_refilled table new shapes tenants reserved tenant m (page_count shape) zero_page (Some shape) is small page_index_inside few contents arena n, is.maps.each k page_index_inside, empty)

  pub memory_created : IsMemory new (slice_set shapes k (Some shape)) tenants reserved
  memory_created =
      memory_refilled table new shapes tenants reserved tenant m (page_count shape) zero_page (Some shape) is small page_index_inside few contents arena (omega (arith, used, room)) (pages_created shape pages_new shaped read)

  abbrev before : MemoryState
  before = view_of table shapes tenants pass

  abbrev after : MemoryState
  after = view_of new (slice_set shapes k (Some shape)) tenants pass

  one : OneMap before after tenant m (Some (zero_map shape)) (part_of pass.pins (tenant * 2048) 2048)
  one =
      rw (← ap (λ f. Some f) (flat_created shape pages_new shaped read)) (one_refilled table new shapes tenants reserved tenant m (page_count shape) zero_page (Some shape) is small page_index_inside few contents arena pass pass (part_of pass.pins (tenant * 2048) 2048) refl (λ u ne. refl))

  created_after : part after tenant ≡ part_created (part before tenant) m shape
  unfolding view_of part
  created_after = one.part_new

  sharing_after : after.sharing ≡ with_new_pages before.sharing (k * 256) (page_count shape) mergeable
  unfolding view_of with_new_pages
  sharing_after = rw (states, groups) refl

  have_after : have_of after + page_count shape ≡ have_of before
  unfolding view_of
  have_after = grind (arith, nat_tests, free_is table shapes tenants pass, free_is new (slice_set shapes k (Some shape)) tenants pass)

  pub creates : HasMap tenant m shape mergeable before after
  creates = grind (arith, nat_tests, free_is, have_after, created_after, one, sharing_after)

-- the conditions of a new map, over what callers see
module _ (table : TableState) (shapes : List (Option Shape)) (tenants : List Tenant) (pass : Pass) (now : MemoryState) (same : view_of table shapes tenants pass ≡ now) where
  pub tenant_inside : (t : ℕ) → t < length now.tenants → t < length tenants
  unfolding view_of
  tenant_inside t h = rw (← same) at h

  pub number_empty : (t m : ℕ) → m < 8 → map_at (part now t).maps m ≡ None → slice_index_or shapes (map_index_of t m) None ≡ None
  unfolding view_of part
  number_empty t m small h = shape_none shapes (contents_of table) t m small (rw (← same) at h)

  pub room_inside : (reserved count : ℕ) → IsMemory table shapes tenants reserved → count ≤ have_of now → reserved + used_by table + count ≤ length table.arena
  unfolding view_of
  room_inside reserved count is h = grind (arith, nat_tests, free_is table shapes tenants pass)
