-- Pins and open runs: only pages of a tenant that has an open run are pinned.
use Rattle.page_table.proofs.Base.{◌≡◌, ◌≢◌, ◌∙◌, ℕ, zero, suc, ◌+◌, ◌-◌, ◌*◌, ◌/◌, ◌<◌, ◌≤◌, ◌&&◌, Bool, true, false, List, length, replicate, slice_index_or, slice_set, Option, refl, arith, nat_tests, length-replicate, get_or-replicate, get_or-set_same, get_or-set_other, ext_get_or, is_same, Shape, part_of, with_part, page_index_of, Page, PinsFit, Pass, Tenant, unreserved_tenant, part, TableState, states_of, sharing_of, view_of, IsMemory, moved_on, ended_at, OnlyRunsPin}
use Rattle.page_table.proofs.Maps.{part-at}
use Rattle.page_table.proofs.Recording.{tenant_there, length-part}
use Rattle.page_table.proofs.Unpinning.{outside-pinned, pins-inside}
use Rattle.page_table.proofs.Waiters.{pinned_if}

-- a pin of a tenant's page, in the list of all
at-page_index : (t i : ℕ) → i < 2048 → (t * 2048 + i) / 2048 ≡ t
at-page_index t i small = omega (arith, small)

-- the tenant of a page
pub tenant-page_index : (page : Page) → page.map < 8 → page.number < 256 → page_index_of page / 2048 ≡ page.tenant
tenant-page_index page small few = omega (arith, small, few)

none-there : (n i : ℕ) → slice_index_or (replicate n false) i false ≡ false
none-there zero i = refl
none-there (suc n) zero = refl
none-there (suc n) (suc i) = none-there n i

-- a memory without maps
pub runs-new : (tenants page_indices : ℕ) → OnlyRunsPin (replicate tenants unreserved_tenant) (replicate page_indices false)
runs-new tenants page_indices = record { runs = λ i pinned. absurd (let none = none-there page_indices i in cc) }

-- fewer pages are pinned
pub runs-fewer : (tenants : List Tenant) (pins : List Bool) (at n : ℕ) → at + n ≤ length pins → OnlyRunsPin tenants pins → OnlyRunsPin tenants (with_part pins at (replicate n false))
runs-fewer tenants pins at n inside only = record { runs = λ i pinned. only.runs i ((outside-pinned pins at n i inside pinned).1) }

-- one page more is pinned, of a tenant that has an open run
pub runs-more : (tenants : List Tenant) (pins : List Bool) (is_pinned : Bool) (page_index : ℕ) → (is_pinned ≡ true → (slice_index_or tenants (page_index / 2048) unreserved_tenant).running ≡ true) → OnlyRunsPin tenants pins
    → OnlyRunsPin tenants (pinned_if is_pinned page_index pins)
runs-more tenants pins false page_index run only = only
runs-more tenants pins true page_index run only = record { runs = more }
  where
    more : (i : ℕ) → slice_index_or (slice_set pins page_index true) i false ≡ true → (slice_index_or tenants (i / 2048) unreserved_tenant).running ≡ true
    more i pinned = grind (arith, nat_tests, is_same i page_index, get_or-set_other pins page_index i true false, only.runs i, run)

-- another record of a tenant none of whose pages is pinned, unless it has an open run
pub runs-recorded : (tenants : List Tenant) (pins : List Bool) (t : ℕ) (kept : Tenant) → t < length tenants → (kept.running ≡ false → part_of pins (t * 2048) 2048 ≡ replicate 2048 false) → OnlyRunsPin tenants pins
    → OnlyRunsPin (slice_set tenants t kept) pins
runs-recorded tenants pins t kept inside none only = record { runs = recorded }
  where
    own : (i : ℕ) → i / 2048 ≡ t → slice_index_or (part_of pins (t * 2048) 2048) (i - t * 2048) false ≡ slice_index_or pins i false
    own i here = grind (arith, nat_tests, part-at pins (t * 2048) 2048 (i - t * 2048) false)

    recorded : (i : ℕ) → slice_index_or pins i false ≡ true → (slice_index_or (slice_set tenants t kept) (i / 2048) unreserved_tenant).running ≡ true
    recorded i pinned = grind (arith, nat_tests, is_same (i / 2048) t, get_or-set_same tenants t kept unreserved_tenant, get_or-set_other tenants t (i / 2048) kept unreserved_tenant, only.runs i, own i, get_or-replicate 2048 (i - t * 2048) false false)

-- the end of a pass leaves the pins
pub pins-ended : (new : TableState) (left done : Pass) (c : Option ℕ) → sharing_of new done ≡ ended_at (sharing_of new left) c → done.pins ≡ left.pins
unfolding moved_on
pins-ended new left done c ended = grind (arith, nat_tests)

-- where a tenant has no open run, none of its pages is pinned
module _ (table : TableState) (shapes : List (Option Shape)) (tenants : List Tenant) (pass : Pass) (reserved : ℕ) (is : IsMemory table shapes tenants reserved) (fit : PinsFit (states_of table.entries) pass.pins)
    (only : OnlyRunsPin tenants pass.pins) (t : ℕ) (eight : length (part (view_of table shapes tenants pass) t).maps ≡ 8) where
  pub none-pinned_of : (part (view_of table shapes tenants pass) t).running ≡ false → (part (view_of table shapes tenants pass) t).pins ≡ replicate 2048 false
  unfolding view_of part
  none-pinned_of idle = ext_get_or false _ _ long each
    where
      long : length (part_of pass.pins (t * 2048) 2048) ≡ length (replicate 2048 false)
      long = grind (arith, nat_tests, length-part pass.pins (t * 2048) 2048, length-replicate 2048 false, pins-inside table shapes tenants pass reserved is fit t, tenant_there table shapes tenants pass reserved is t eight)

      each : (i : ℕ) → i < length (part_of pass.pins (t * 2048) 2048) → slice_index_or (part_of pass.pins (t * 2048) 2048) i false ≡ slice_index_or (replicate 2048 false) i false
      each i less = grind (arith, nat_tests, long, length-replicate 2048 false, part-at pass.pins (t * 2048) 2048 i false, get_or-replicate 2048 i false false, only.runs (t * 2048 + i), at-page_index t i)
