-- What a call leaves of its seat, and what its turn did to the memory.
use Rattle.std.specs.Prelude.{◌≡◌, ◌*◌, ℕ, false, List, [], ◌∷◌, ◌++◌, length, All, IsNone}
use Rattle.host_types.specs.declared.fault.Fault.{Fault}
use Rattle.host_types.specs.declared.fault.Fault.TheVariants.{NoMap}
use Rattle.host_types.specs.Memory.{map_at}
use Rattle.host_types.specs.Pages.{map_index_of}
use Rattle.host_types.specs.Unmerging.{with_option}
use Rattle.host_types.specs.Tenant.{TenantPart}
use Rattle.host_types.specs.Visits.{visit, dropped}
use Rattle.host_types.specs.declared.options.Opt.{Opt}
use Rattle.host_types.specs.declared.visited.Visited.{Visited}
use Rattle.page_table.specs.State.{MemoryState, part}
use Rattle.page_table.specs.Changes.{contents_now, pages_of_map, OtherTenantsUnchanged, KeepsSettings}
use Rattle.map_helpers.specs.Updates.{part_updated, updated_sharing_as}
use Rattle.turn.specs.Seats.{SeatState}

-- a seat that holds nothing, as it knows the memory after so many turns
abbrev pub resting_with : SeatState → MemoryState → List (MemoryState × MemoryState) → SeatState
resting_with seat memory turns = record seat { view = record seat.view { holds = false; seen = memory; turns = turns } }

-- the same seat of the same turn, with the same tenants, which holds nothing
abbrev pub IsSameSeat : SeatState → SeatState → Type 0
IsSameSeat old new = new ≡ resting_with old new.view.seen new.view.turns

-- the memory as the seat's last turn left it: a call that changed nothing found it so
abbrev pub memory_left : SeatState → MemoryState
memory_left seat = seat.view.seen

-- the seat made one turn, and this is what became of the memory in it
pub record HasChanged (changed : MemoryState → MemoryState → Type 0) (old new : SeatState) : Type 0 where
  pub taken : MemoryState
  pub made : new.view.turns ≡ old.view.turns ++ (taken, memory_left new) ∷ []
  pub change : changed taken (memory_left new)

-- the seat made more turns, after those that it had made
pub record HasGoneOn (old new : SeatState) : Type 0 where
  pub more : List (MemoryState × MemoryState)
  pub made : new.view.turns ≡ old.view.turns ++ more

-- the memory stays as it was taken
abbrev pub IsUnchanged : MemoryState → MemoryState → Type 0
IsUnchanged old new = new ≡ old

-- an option was set, and nothing else changed
abbrev pub HasSet : Opt → ℕ → MemoryState → MemoryState → Type 0
HasSet option value old new =
    new ≡ record old { sharing = record old.sharing { options = with_option old.sharing.options option value } }

-- A value was written to an element of a map of a tenant, which had this part before: its maps are those of the
-- update, and no page is pinned for it. The pages that it wrote left their groups and the frame of zeros, and nothing
-- else changed of which pages share frames, nor another tenant's part.
pub record HasUpdated (owned : TenantPart) (tenant m key : ℕ) (value : List ℕ) (old new : MemoryState) : Type 0 where
  pub written : part new tenant ≡ part_updated owned m key value 0
  pub sharing : new.sharing ≡ updated_sharing_as false owned old.sharing tenant m key 0
  pub others : OtherTenantsUnchanged tenant old new
  pub settings : KeepsSettings old new

-- A map of a tenant was dropped: its pages left their groups, the frame of zeros and the waiting list, and the pass
-- ended if no page after the cursor may be merged; nothing else changed of which pages share frames, and no other
-- tenant's part.
pub record HasDropped (tenant m : ℕ) (old new : MemoryState) : Type 0 where
  pub sharing : new.sharing ≡ dropped old.sharing (map_index_of tenant m * 256) (pages_of_map (part old tenant) m)
  pub others : OtherTenantsUnchanged tenant old new
  pub settings : KeepsSettings old new

-- why a map isn't dropped: the tenant has no map of the number
abbrev pub LacksMap : TenantPart → ℕ → Fault → Type 0
LacksMap owned m fault = (fault ≡ NoMap) × IsNone (map_at owned.maps m)

-- the scanner made one visit
pub record IsVisit (old new : MemoryState) : Type 0 where
  pub visited : Visited
  pub is : visit (contents_now old) old.sharing ≡ (visited, new.sharing)
  pub maps : new.maps ≡ old.maps

-- the seat made so many turns, one visit each; what others did between them shows in the memory as it was taken
pub record HasVisited (visits : ℕ) (old new : SeatState) : Type 0 where
  pub turns : List (MemoryState × MemoryState)
  pub made : new.view.turns ≡ old.view.turns ++ turns
  pub count : length turns ≡ visits
  pub each : All (λ turn. IsVisit turn.0 turn.1) turns

-- a visit of the scanner left the memory so
pub record IsVisited (memory : MemoryState) : Type 0 where
  pub before : MemoryState
  pub visited : Visited
  pub is : visit (contents_now before) before.sharing ≡ (visited, memory.sharing)
  pub maps : memory.maps ≡ before.maps
