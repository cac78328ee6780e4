-- Frames reserved for open runs, and what the maps of a memory meet.
use Rattle.page_table.proofs.Base.{get_or_default, ◌≡◌, ◌∙◌, ℕ, ◌+◌, ◌-◌, ◌*◌, ◌<◌, ◌≤◌, List, length, sum_by, slice_index_or, slice_set, Option, arith, get_or-set_same, get_or-set_other, sum_by-set, nat_tests, zero, suc, [], ◌∷◌, map, drop, Some, None, IfSome, option_map, is_none, position, refl, All, position_or_len, get_or_past, get_or-take, get_or-drop, concat, length-take-le, All-nil, All-cons, All-head, All-tail, All-append, All-take, All-drop, Shape, Pass, Tenant, MemoryState, part, unreserved_tenant, free_of, have_of, OtherTenantsUnchanged, TableState, contents_of, maps_of, used_by, view_of, IsMemory, part_of, FlatMap, FlatMaps, map_at, map_index_of, IsFlatMap, IsPage, page_at, Entry, free_number, flat_of, entry_content, ArePages, ArePagesOf, AreMaps}
use Rattle.std.proofs.Common.{length-set}
use Rattle.page_table.proofs.Maps.{length-maps_of}
use Rattle.page_table.proofs.Entries.{free_is}
pub use Rattle.page_table.proofs.Maps.{length-part}
use Rattle.page_table.proofs.Maps.{map_at-maps_of, length-maps_of, length-concat}
use Rattle.page_table.proofs.Reading.{map_at-part}

-- two lists that are free at the same indices have the same first free entry
same_prefix : (maps : FlatMaps) (shapes : List (Option Shape)) → length maps ≡ length shapes → ((i : ℕ) → is_none (slice_index_or maps i None) ≡ is_none (slice_index_or shapes i None))
    → position_or_len (λ (slot : Option FlatMap). is_none slot) maps ≡ position_or_len (λ (slot : Option Shape). is_none slot) shapes
same_prefix [] [] e h = refl
same_prefix [] (s ∷ shapes) e h = absurd (omega arith)
same_prefix (m ∷ maps) [] e h = absurd (omega arith)
same_prefix (m ∷ maps) (s ∷ shapes) e h = grind (arith, h 0, same_prefix maps shapes (omega arith) (λ i. h (suc i)))

-- the maps' indices are free where no shape is
free_of_maps : (shapes : List (Option Shape)) (contents : List (List ℕ)) (from width : ℕ)
    → position (λ (slot : Option FlatMap). is_none slot) (part_of (maps_of shapes contents) from width) ≡ position (λ (slot : Option Shape). is_none slot) (part_of shapes from width)
unfolding part_of
free_of_maps shapes contents from width = grind (arith, nat_tests, same_prefix, length-part, length-maps_of, get_or-take, get_or-drop, map_at-maps_of, get_or_past)

-- the first free number of a tenant is the first index of its shapes without one
pub free_number_reported : (table : TableState) (shapes : List (Option Shape)) (tenants : List Tenant) (pass : Pass) (t : ℕ)
    → free_number (part (view_of table shapes tenants pass) t) ≡ position (λ (slot : Option Shape). is_none slot) (part_of shapes (t * 8) 8)
unfolding view_of part
free_number_reported table shapes tenants pass t = free_of_maps shapes (contents_of table) (t * 8) 8

module _ (table : TableState) (shapes : List (Option Shape)) (tenants : List Tenant) (pass : Pass) (t : ℕ) where
  pub map_reported : (m : ℕ) → m < 8 → map_at (part (view_of table shapes tenants pass) t).maps m ≡ option_map (flat_of (part_of (contents_of table) (map_index_of t m * 256) 256)) (slice_index_or shapes (map_index_of t m) None)
  unfolding view_of part
  map_reported m small = map_at-part (maps_of shapes (contents_of table)) t m small ∙ map_at-maps_of shapes (contents_of table) (map_index_of t m)

-- the bytes of pages

abbrev IsByte : ℕ → Type 0
IsByte byte = byte < 256

pages_small : (arena : List (List ℕ)) (f : ℕ) → All IsPage arena → All IsByte (page_at arena f)
pages_small [] f all = All-nil IsByte
pages_small (page ∷ arena) zero all = IsPage.bytes (All-head IsPage page arena all)
pages_small (page ∷ arena) (suc f) all = pages_small arena f (All-tail IsPage page arena all)

contents_small : (arena : List (List ℕ)) (entries : List (Option Entry)) → All IsPage arena → All (λ page. All IsByte page) (map (entry_content arena) entries)
contents_small arena [] all = All-nil (λ page. All IsByte page)
contents_small arena (None ∷ xs) all = All-cons (λ page. All IsByte page) [] (map (entry_content arena) xs) (All-nil IsByte) (contents_small arena xs all)
contents_small arena (Some x ∷ xs) all = All-cons (λ page. All IsByte page) (page_at arena x.frame) (map (entry_content arena) xs) (pages_small arena x.frame all) (contents_small arena xs all)

concat_small : (pages : List (List ℕ)) → All (λ page. All IsByte page) pages → All IsByte (concat pages)
concat_small [] all = All-nil IsByte
concat_small (page ∷ pages) all = All-append IsByte page (concat pages) (All-head (λ p. All IsByte p) page pages all) (concat_small pages (All-tail (λ p. All IsByte p) page pages all))

flat_is : (shape : Shape) (pages : List (List ℕ)) → ArePagesOf shape pages → All (λ page. All IsByte page) pages → IsFlatMap (flat_of pages shape)
flat_is shape pages are all = grind (arith, nat_tests, length-concat pages, length-take-le, All-take IsByte, concat_small pages all)

-- a map that is there is within the limits
pub map_is : (table : TableState) (shapes : List (Option Shape)) (k : ℕ) → AreMaps shapes (contents_of table) → k < length shapes → All IsPage table.arena
    → IfSome (option_map (flat_of (part_of (contents_of table) (k * 256) 256)) (slice_index_or shapes k None)) IsFlatMap
unfolding contents_of part_of
map_is table shapes k are inside all = by_shape (slice_index_or shapes k None) (are.each k inside)
  where
    by_shape : (shape : Option Shape) → ArePages shape (part_of (contents_of table) (k * 256) 256) → IfSome (option_map (flat_of (part_of (contents_of table) (k * 256) 256)) shape) IsFlatMap
    by_shape None h = tt
    by_shape (Some shape) h =
        flat_is shape (part_of (contents_of table) (k * 256) 256) h
        (All-take (λ page. All IsByte page) 256 (drop (k * 256) (contents_of table)) (All-drop (λ page. All IsByte page) (k * 256) (contents_of table) (contents_small table.arena table.entries all)))

-- what is reserved for a tenant's open run
abbrev pub reserve_in : Tenant → ℕ
reserve_in tenant = tenant.reserve

-- the reserves of all tenants, where one of them has another
pub sum-recorded : (tenants : List Tenant) (t : ℕ) (kept : Tenant) → t < length tenants
    → sum_by reserve_in (slice_set tenants t kept) + (slice_index_or tenants t unreserved_tenant).reserve ≡ sum_by reserve_in tenants + kept.reserve
sum-recorded tenants t kept inside = sum_by-set reserve_in tenants t kept unreserved_tenant inside

-- a tenant's reserve is one of all
pub reserve-small : (tenants : List Tenant) (t : ℕ) → t < length tenants → (slice_index_or tenants t unreserved_tenant).reserve ≤ sum_by reserve_in tenants
reserve-small tenants t inside = let answer = sum-recorded tenants t unreserved_tenant inside in omega (arith, answer)

module _ (table : TableState) (shapes : List (Option Shape)) (tenants : List Tenant) (pass : Pass) (reserved : ℕ) (is : IsMemory table shapes tenants reserved) where
  abbrev memory : MemoryState
  memory = view_of table shapes tenants pass

  long : length (maps_of shapes (contents_of table)) ≡ length tenants * 8
  long = length-maps_of shapes (contents_of table) ∙ is.numbers

  -- a tenant has eight entries for maps
  pub eight_maps : (t : ℕ) → t < length memory.tenants → length (part memory t).maps ≡ 8
  unfolding view_of part
  eight_maps t inside = omega (arith, length-part (maps_of shapes (contents_of table)) (t * 8) 8, long, inside)

  -- a tenant with eight entries for maps is there
  pub tenant_there : (t : ℕ) → length (part memory t).maps ≡ 8 → t < length tenants
  unfolding view_of part
  tenant_there t eight = omega (arith, length-part (maps_of shapes (contents_of table)) (t * 8) 8, long, eight)

  -- no more frames are reserved than are free
  pub reserved_fits : sum_by reserve_in memory.tenants ≤ free_of memory
  unfolding view_of
  reserved_fits = omega (arith, free_is table shapes tenants pass (omega (arith, is.room)), is.room, is.sum)

  -- another record of one tenant
  module _ (t : ℕ) (kept : Tenant) (eight : length (part memory t).maps ≡ 8) (room : kept.reserve ≤ have_of memory + (part memory t).reserve) where
    abbrev recorded : List Tenant
    recorded = slice_set tenants t kept

    abbrev before : ℕ
    before = (slice_index_or tenants t unreserved_tenant).reserve

    pub before_small : before ≤ reserved
    before_small = let answer = reserve-small tenants t (tenant_there t eight) in omega (arith, answer, is.sum)

    pub fits : reserved - before + kept.reserve + used_by table ≤ length table.arena
    unfolding view_of part
    fits = omega (arith, free_is table shapes tenants pass (omega (arith, is.room)), is.room, is.sum, room, before_small)

    abbrev after : MemoryState
    after = view_of table shapes recorded pass

    pub have_recorded : have_of after + kept.reserve ≡ have_of memory + (part memory t).reserve
    unfolding view_of part
    have_recorded = grind (arith, nat_tests, sum-recorded tenants t kept, tenant_there t eight, reserve-small tenants t, free_is table shapes tenants pass, free_is table shapes recorded pass)

-- what another record of one tenant needs and leaves, over what callers see
pub record Records (old new : MemoryState) (table : TableState) (shapes : List (Option Shape)) (tenants : List Tenant) (reserved t before : ℕ) (kept : Tenant) : Type 0 where
  pub there : t < length tenants
  pub least : before ≤ reserved
  pub small : reserved - before + kept.reserve ≤ 4096
  pub memory : IsMemory table shapes (slice_set tenants t kept) (reserved - before + kept.reserve)
  pub recorded_part : part new t ≡ record (part old t) { reserve = kept.reserve; running = kept.running }
  pub others : OtherTenantsUnchanged t old new
  pub have : have_of new + kept.reserve ≡ have_of old + (part old t).reserve
  pub all : new ≡ record old { tenants = slice_set old.tenants t kept }

-- what is recorded of a tenant that is there is what its part says
pub recorded_is : (table : TableState) (shapes : List (Option Shape)) (tenants : List Tenant) (pass : Pass) (reserved : ℕ) → IsMemory table shapes tenants reserved
    → (now : MemoryState) → view_of table shapes tenants pass ≡ now → (t : ℕ) (found : Tenant) → length (part now t).maps ≡ 8 → found ≡ slice_index_or tenants t found → found.reserve ≡ (part now t).reserve
unfolding view_of part
recorded_is table shapes tenants pass reserved is now same t found eight at = grind (arith, nat_tests, tenant_there table shapes tenants pass reserved is t, get_or_default)

pub records : (table : TableState) (shapes : List (Option Shape)) (tenants : List Tenant) (pass : Pass) (reserved : ℕ) → IsMemory table shapes tenants reserved
    → (now : MemoryState) → view_of table shapes tenants pass ≡ now → (t before : ℕ) (kept : Tenant)
    → length (part now t).maps ≡ 8 → kept.reserve ≤ have_of now + (part now t).reserve → before ≡ (part now t).reserve
    → Records now (view_of table shapes (slice_set tenants t kept) pass) table shapes tenants reserved t before kept
unfolding view_of part
records table shapes tenants pass reserved is now same t before kept eight room answer = grind (arith, nat_tests, tenant_there table shapes tenants pass reserved is t, before_small table shapes tenants pass reserved is t kept, fits table shapes tenants pass reserved is t kept, sum-recorded, tenant_there, before_small, length-set, fits, get_or-set_same, get_or-set_other, have_recorded table shapes tenants pass reserved is t kept)
