-- How many pages of a map aren't pinned, reported by how many are.
use Rattle.page_table.proofs.Base.{◌≡◌, ◌∙◌, ◌*◌, ℕ, Some, option_map, ap, arith, nat_tests, zero, suc, ◌+◌, ◌-◌, ◌<◌, ◌≤◌, Bool, true, false, if◌then◌else◌, List, ◌∷◌, length, slice_index_or, Option, refl, get_or_default, get_or_past, sum_by-cons, ext_get_or, ordered, part_of, FlatMap, map_at, map_index_of, unpinned_from, pinned_among, part, Shape, PinsFit, Pass, Tenant, page_count, MemoryState, pages_of_map, TableState, IsTable, states_of, view_of, IsMemory}
use Rattle.page_table.proofs.Dropping.{number_small, few, map_pins, unpinned_following}
use Rattle.page_table.proofs.Reading.{map_at-part}
use Rattle.page_table.proofs.Maps.{map_at-maps_of, part-at, length-part}
use Rattle.page_table.proofs.memory.Memory.unpinned.Goals as goal

abbrev one_if : Bool → ℕ
one_if b = if b then 1 else 0

part-cons : (pins : List Bool) (at n : ℕ) → at < length pins → part_of pins at (suc n) ≡ slice_index_or pins at false ∷ part_of pins (at + 1) n
part-cons pins at n inside = ext_get_or false _ _ (grind (arith, length-part)) (λ i less. grind (arith, nat_tests, part-at))

pinned-cons : (pins : List Bool) (at n : ℕ) → at < length pins → pinned_among (part_of pins at (suc n)) ≡ one_if (slice_index_or pins at false) + pinned_among (part_of pins (at + 1) n)
pinned-cons pins at n inside = ap pinned_among (part-cons pins at n inside) ∙ sum_by-cons one_if (slice_index_or pins at false) (part_of pins (at + 1) n)

none-pinned : (pins : List Bool) (at n : ℕ) → at + n ≤ length pins → ((i : ℕ) → at ≤ i → i < at + n → slice_index_or pins i false ≡ false) → pinned_among (part_of pins at n) ≡ 0
unfolding part_of
none-pinned pins at zero inside none = refl
none-pinned pins at (suc n) inside none = grind (arith, nat_tests, pinned-cons, none-pinned pins (at + 1) n)

-- each of some pages is pinned or not, and after them none is
all-answer : (pins : List Bool) (at n d : ℕ) → at + n + d ≤ length pins → ((i : ℕ) → at + n ≤ i → i < at + n + d → slice_index_or pins i false ≡ false) → unpinned_from pins at n + pinned_among (part_of pins at (n + d)) ≡ n
unfolding unpinned_from part_of
all-answer pins at zero d inside none = grind (arith, nat_tests, none-pinned)
all-answer pins at (suc n) d inside none =
    let next : suc n + d ≡ suc (n + d) = omega arith in
    grind (arith, nat_tests, ap (λ (m : ℕ). pinned_among (part_of pins at m)) next, pinned-cons pins at (n + d), get_or_default pins at true false, all-answer pins (at + 1) n d)

-- a part's pages, in the part
unpinned-in_part : (pins : List Bool) (first at n : ℕ) → at + n ≤ 2048 → unpinned_from (part_of pins first 2048) at n ≡ unpinned_from pins (first + at) n
unfolding unpinned_from
unpinned-in_part pins first at zero small = refl
unpinned-in_part pins first at (suc n) small = grind (arith, nat_tests, part-at, unpinned-in_part pins first (at + 1) n)

module _ (table : TableState) (shapes : List (Option Shape)) (tenants : List Tenant) (pass : Pass) (reserved t m : ℕ) (shape : Shape) (now : MemoryState) (same : view_of table shapes tenants pass ≡ now)
    (is : IsMemory table shapes tenants reserved) (here : option_map (λ (flat : FlatMap). flat.shape) (map_at (part now t).maps m) ≡ Some shape) where
  -- a tenant that has a map is there
  tenant-inside : t < length now.tenants
  unfolding view_of part
  tenant-inside = grind (arith, nat_tests, number_small now t m shape here, map_at-part, map_at-maps_of, get_or_past shapes, ordered)

  module _ (fits : IsTable table) (fit : PinsFit (states_of table.entries) pass.pins) where
    abbrev k : ℕ
    k = map_index_of t m

    number-inside : k * 256 + 256 ≤ length pass.pins
    number-inside = map_pins table shapes tenants pass reserved t m shape now same is tenant-inside here fit

    few_pages : page_count shape ≤ 256
    few_pages = few table shapes tenants pass reserved t m shape now same is tenant-inside here

    pages-answer : unpinned_from pass.pins (k * 256) (page_count shape) + pinned_among (part_of pass.pins (k * 256) 256) ≡ page_count shape
    pages-answer =
        let rest : page_count shape + (256 - page_count shape) ≡ 256 = omega (arith, few_pages) in
        grind (arith, nat_tests, few_pages, number-inside, ap (λ (n : ℕ). pinned_among (part_of pass.pins (k * 256) n)) rest, all-answer pass.pins (k * 256) (page_count shape) (256 - page_count shape), unpinned_following table shapes tenants pass reserved t m shape now same is tenant-inside here fits fit)

    pins : (part now t).pins ≡ part_of pass.pins (t * 2048) 2048
    unfolding view_of part
    pins = rw (← same) refl

    unpinned-answer : unpinned_from (part now t).pins (m * 256) (pages_of_map (part now t) m) ≡ unpinned_from pass.pins (k * 256) (page_count shape)
    unpinned-answer = grind (arith, nat_tests, number_small, few_pages, pins, unpinned-in_part)

pub pinned-requires : goal.pinned-requires
pinned-requires c = grind (arith, nat_tests, number-inside)

pub overflow_sub-result : goal.overflow_sub-result
overflow_sub-result c = grind (arith, nat_tests, pages-answer c.self.inside.table c.self.inside.shapes.items c.self.inside.tenants.items c.self.inside.pass c.self.inside.reserved c.args.tenant c.args.map c.in-Some.shape c.args.self.now c.self.view_is c.self.invariant.0)

pub returns-in-Some : goal.returns-in-Some
returns-in-Some c = grind (arith, nat_tests, pages-answer c.self.inside.table c.self.inside.shapes.items c.self.inside.tenants.items c.self.inside.pass c.self.inside.reserved c.args.tenant c.args.map c.in-Some.shape c.args.self.now c.self.view_is c.self.invariant.0, unpinned-answer c.self.inside.table c.self.inside.shapes.items c.self.inside.tenants.items c.self.inside.pass c.self.inside.reserved c.args.tenant c.args.map c.in-Some.shape c.args.self.now c.self.view_is c.self.invariant.0)

pub returns-in-None : goal.returns-in-None
unfolding unpinned_from
returns-in-None c = grind (arith, nat_tests)
