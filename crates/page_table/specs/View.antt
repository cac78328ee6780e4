-- How a memory's parts read together, and what holds of them.
use Rattle.std.specs.Prelude.{◌≡◌, ℕ, ◌+◌, ◌*◌, ◌/◌, ◌<◌, ◌≤◌, ◌==◌, nat_le, Bool, true, false, List, [], ◌∷◌, length, sum_by, slice_index_or, Option, None, Some, IfSome, ⊤}
use Rattle.std.specs.List.{list_any}
use Rattle.host_types.specs.declared.shape.Shape.{Shape}
use Rattle.host_types.specs.declared.status.Status.TheVariants.{Waiting}
use Rattle.host_types.specs.Pins.{PinsFit}
use Rattle.host_types.specs.Sharing.{PageState}
use Rattle.host_types.specs.Visits.{is_mergeable}
use Rattle.unstable_tree.specs.declared.tree.Waiter.{Waiter}
use Rattle.page_table.specs.declared.entry.Entry.{Entry}
use Rattle.page_table.specs.declared.pass.Pass.{Pass}
use Rattle.page_table.specs.declared.tenant.Tenant.{Tenant}
use Rattle.page_table.specs.State.{MemoryState, unreserved_tenant}
use Rattle.page_table.specs.Table.{TableState, entry_at, AreMaps, maps_of, contents_of, frames_of, states_of, sharing_of, used_by}

-- what callers see of a memory
unfoldable pub view_of : TableState → List (Option Shape) → List Tenant → Pass → MemoryState
view_of table shapes tenants pass =
    record {
      tenants = tenants;
      maps = maps_of shapes (contents_of table);
      sharing = sharing_of table pass;
      arena = table.arena;
      frames = frames_of table.entries;
    }

-- the parts of a memory fit together
pub record IsMemory (table : TableState) (shapes : List (Option Shape)) (tenants : List Tenant) (reserved : ℕ) : Type 0 where
  pub maps : AreMaps shapes (contents_of table)
  pub numbers : length shapes ≡ length tenants * 8
  pub few : length tenants ≤ 16
  pub frames : length table.arena ≤ 4096
  pub sum : reserved ≡ sum_by (λ (tenant : Tenant). tenant.reserve) tenants
  pub room : reserved + used_by table ≤ length table.arena

-- a page waits at the index
abbrev pub is_listed : ℕ → List Waiter → Bool
is_listed i waiters = list_any (λ w. w.page_index == i) waiters

-- the page at an index was visited in this pass
abbrev pub is_at_or_before : Option ℕ → ℕ → Bool
is_at_or_before None i = true
is_at_or_before (Some c) i = nat_le i c

-- a waiting page has a frame of its own, has the status Waiting, and was visited in this pass
pub record IsWaiter (entries : List (Option Entry)) (cursor : Option ℕ) (w : Waiter) : Type 0 where
  pub entry : Entry
  pub here : entry_at entries w.page_index ≡ Some entry
  pub frame : entry.frame ≡ w.frame
  pub status : entry.status ≡ Waiting
  pub mergeable : entry.mergeable ≡ true
  pub at_or_before : is_at_or_before cursor w.page_index ≡ true

-- pages that wait, each at its own index
abbrev pub AreWaiters : List (Option Entry) → Option ℕ → List Waiter → Type 0
AreWaiters entries cursor [] = ⊤
AreWaiters entries cursor (w ∷ ws) = IsWaiter entries cursor w × (is_listed w.page_index ws ≡ false) × AreWaiters entries cursor ws

-- unless a pass begins, a page after the cursor may be merged
abbrev pub IsAhead : List (Option PageState) → Option ℕ → Type 0
IsAhead pages None = ⊤
IsAhead pages (Some c) =
    (i : ℕ) × (c < i) × (is_mergeable (slice_index_or pages i None) ≡ true)

-- the pass fits the table
pub record IsPass (table : TableState) (pass : Pass) : Type 0 where
  pub waiters : AreWaiters table.entries pass.cursor pass.waiting.listed
  pub room : length table.arena ≤ pass.waiting.room
  pub cursor : IfSome pass.cursor (λ c. c < 32768)
  pub pins : PinsFit (states_of table.entries) pass.pins

-- a page is pinned only while its tenant has a run open; each tenant has 2048 indices for pages
pub record OnlyRunsPin (tenants : List Tenant) (pins : List Bool) : Type 0 where
  pub runs : (i : ℕ) → slice_index_or pins i false ≡ true → (slice_index_or tenants (i / 2048) unreserved_tenant).running ≡ true
