-- Runs of a seat's tenant: how they are handed over, and when they aren't made.
use Rattle.std.specs.Prelude.{◌≡◌, ◌≢◌, ◌⊎◌, ℕ, ◌≤◌, false, List, length}
use Rattle.host_types.specs.declared.fault.Fault.{Fault}
use Rattle.host_types.specs.declared.fault.Fault.TheVariants.{NoProgram, BadContext, OutOfMemory}
use Rattle.host_types.specs.Tenant.{TenantPart}
use Rattle.page_table.specs.State.{MemoryState, have_of}
use Rattle.verifier.specs.Named.{named_shapes}
use Rattle.admission.specs.Reserve.{needed_from}
use Rattle.verifier.specs.Verified.{Accepted}
use Rattle.interp.specs.Fits.{HaveShapes}
use Rattle.interp.specs.StandsFor.{Running, IsBegun}
use Rattle.host_calls.specs.Programs.{RefusesBegin}
use Rattle.turn.specs.Seats.{SeatState}
use Rattle.tenant_workers.specs.Calls.{HasChanged, IsUnchanged}

-- a run as it began with a program, before its first step
pub record IsFresh (v : Accepted) (run : Running) : Type 0 where
  pub begun : IsBegun v run.context run
  pub steps : run.steps ≡ 0

-- the tenant has no open run, and nothing is reserved for it
pub record IsResting (owned : TenantPart) : Type 0 where
  pub running : owned.running ≡ false
  pub reserve : owned.reserve ≡ 0

-- when a run isn't made: a map that the program names and has a shape for isn't the tenant's with that shape, or
-- else there aren't the frames for it
abbrev pub RefusesRunOfTenant : Accepted → TenantPart → Fault → Type 0
RefusesRunOfTenant v owned fault =
    ((fault ≡ NoProgram) × ¬ (HaveShapes (named_shapes v.subject) owned.maps)) ⊎ (HaveShapes (named_shapes v.subject) owned.maps × RefusesBegin v owned fault)

-- where memory ran out, the tenant has the maps that the program names
abbrev pub LacksMemory : Accepted → TenantPart → Fault → Type 0
LacksMemory v owned fault = (fault ≡ OutOfMemory) × HaveShapes (named_shapes v.subject) owned.maps

-- why a run of a program isn't made on a context: the context hasn't the program's size; or it has, and the run
-- itself isn't made, or else memory ran out
abbrev pub RefusesRunOnContext : Accepted → List ℕ → TenantPart → Fault → Type 0
RefusesRunOnContext v context owned fault =
    ((fault ≡ BadContext) × (length context ≢ v.subject.context_size))
    ⊎ ((length context ≡ v.subject.context_size) × (RefusesRunOfTenant v owned fault ⊎ LacksMemory v owned fault))

-- The turn in which a run or a load was refused left the memory as it found it. A context of another size takes no turn.
abbrev pub LeavesMemory : SeatState → SeatState → Fault → Type 0
LeavesMemory old new fault = ((fault ≡ BadContext) × (new ≡ old)) ⊎ HasChanged IsUnchanged old new

-- where memory ran out, frames were not missing
abbrev pub HasFramesForRun : Accepted → TenantPart → MemoryState → Fault → Type 0
HasFramesForRun v owned memory fault = fault ≡ OutOfMemory → needed_from v owned 0 ≤ have_of memory
