-- What a host keeps, and which systems it stands for.
use Rattle.std.specs.Prelude.{◌≡◌, ◌==◌, ℕ, suc, ◌+◌, Bool, if◌then◌else◌, List, [], ◌∷◌, length, map, slice_get, option_map, IfSome, Option, Some, None, Result, Ok, Err}
use Rattle.std.specs.List.{AllZip, All}
use Rattle.host_types.specs.declared.fault.Fault.{Fault}
use Rattle.host_types.specs.Sharing.{Sharing}
use Rattle.page_table.specs.declared.tenant.Tenant.{Tenant as Recorded}
use Rattle.page_table.specs.State.{MemoryState}
use Rattle.verifier.specs.Named.{named_shapes}
use Rattle.verifier.specs.Verified.{Accepted, IsVerified}
use Rattle.interp.specs.Fits.{HaveShapes}
use Rattle.interp.specs.StandsFor.{StandsFor}
use Rattle.host_types.specs.declared.event.Event.{Event}
use Rattle.host_types.specs.declared.event.Event.TheVariants.{CreateMap, Load, Begin, Step, HostUpdate, HostLookup, Unload, DropMap}
use Rattle.host_core.specs.declared.reply.Reply.{Reply}
use Rattle.host_core.specs.declared.reply.Reply.TheVariants.{Value, Refused}
use Rattle.host_core.specs.declared.tenant_event.TenantEvent.{TenantEvent}
use Rattle.host_core.specs.declared.tenant_event.TenantEvent.TheVariants as tenant_event
use Rattle.host_core.specs.declared.tenant.OpenRun.{OpenRun as KeptRun}
use Rattle.host_core.specs.World.{OpenRun, Tenant, World, System, IsTenant, all_maps, names_there, owned_by}
use Rattle.host_core.specs.Happens.{Happens, IsPromised, RunHappens, StepsHappen, changed_system}

-- a tenant as a host keeps it: its accepted programs by index, and its open run, if it has one
pub record TenantView : Type 0 where
  pub programs : List (Option Accepted)
  pub run : Option KeptRun

-- the tenants by number, and the memory of their maps
pub record HostView : Type 0 where
  pub tenants : List TenantView
  pub memory : MemoryState

-- what is said of a program holds of each that is there
abbrev pub EachProgram : (Accepted → Type 0) → List (Option Accepted) → Type 0
EachProgram Holds programs = All (λ slot. IfSome slot Holds) programs

-- a program is kept at an index, and one of its instructions, reached or not, names the map
abbrev pub names_in : ℕ → Option Accepted → Bool
names_in m slot = names_there m (option_map (λ accepted. accepted.subject) slot)

-- An open run stands for one of the system: it is a run of the program at its index, stands for its state,
-- and made as many steps.
pub record StandsForRun (programs : List (Option Accepted)) (kept : KeptRun) (r : OpenRun) : Type 0 where
  pub accepted : Accepted
  pub numbered : slice_get programs kept.program ≡ Some (Some accepted)
  pub program : r.program ≡ accepted.subject
  pub state : StandsFor accepted kept.run r.state
  pub steps : kept.run.steps ≡ r.steps

-- there is no open run on either side, or there is one that stands for the other
abbrev pub StandsForAnyRun : List (Option Accepted) → Option KeptRun → Option OpenRun → Type 0
StandsForAnyRun programs None None = Unit {0}
StandsForAnyRun programs None (Some r) = ⊥
StandsForAnyRun programs (Some kept) None = ⊥
StandsForAnyRun programs (Some kept) (Some r) = StandsForRun programs kept r

-- A kept tenant stands for one of the system: at each index their programs are the same, each of which was
-- accepted, and the maps that it names are the tenant's with its shapes; and so are their open runs.
pub record StandsForTenant (kept : TenantView) (tenant : Tenant) : Type 0 where
  pub programs : tenant.programs ≡ map (option_map (λ accepted. accepted.subject)) kept.programs
  pub verified : EachProgram IsVerified kept.programs
  pub shapes : EachProgram (λ accepted. HaveShapes (named_shapes accepted.subject) tenant.maps) kept.programs
  pub run : StandsForAnyRun kept.programs kept.run tenant.run
  pub fulfils : IsTenant tenant

-- what is recorded of the tenant t in the memory
abbrev pub recorded_of : Sharing → ℕ → Tenant → Recorded
recorded_of sharing t tenant =
    record { reserve = (owned_by sharing t tenant).reserve; running = (owned_by sharing t tenant).running }

-- what is recorded of some tenants, the first of whom has the number t
unfoldable pub recorded_in : Sharing → ℕ → World → List Recorded
recorded_in sharing t [] = []
recorded_in sharing t (tenant ∷ w) = recorded_of sharing t tenant ∷ recorded_in sharing (suc t) w

-- A memory stands for the tenants' private maps and for the pages that share frames, and it has recorded of each
-- tenant whether it has an open run, and just what that may need.
pub record StandsForMemory (memory : MemoryState) (x : System) : Type 0 where
  pub maps : memory.maps ≡ all_maps x.world
  pub eight : All (λ (tenant : Tenant). length tenant.maps ≡ 8) x.world
  pub sharing : memory.sharing ≡ x.sharing
  pub frames : length memory.arena ≡ x.frames
  pub recorded : memory.tenants ≡ recorded_in x.sharing 0 x.world

-- a host stands for a system if its memory does, and each of its tenants stands for the system's
pub record StandsForSystem (view : HostView) (x : System) : Type 0 where
  pub memory : StandsForMemory view.memory x
  pub tenants : AllZip StandsForTenant view.tenants x.world

-- a refusal is a reply too
abbrev pub reply_of : Result Reply Fault → Reply
reply_of (Ok reply) = reply
reply_of (Err fault) = Refused fault

-- the event of a host that an event of the tenant t is
abbrev pub event_of : ℕ → TenantEvent → Event
event_of t (tenant_event.CreateMap value_size entries mergeable) = CreateMap t value_size entries mergeable
event_of t (tenant_event.Load text context_size) = Load t text.now context_size
event_of t (tenant_event.Begin k context) = Begin t k context.now
event_of t tenant_event.Step = Step t
event_of t (tenant_event.Update m key value) = HostUpdate t m key value.now
event_of t (tenant_event.Lookup m key) = HostLookup t m key
event_of t (tenant_event.Unload k) = Unload t k
event_of t (tenant_event.DropMap m) = DropMap t m

-- What a lookup returns that copies the value, and what becomes of the bytes: the value's length and, where they have it, the
-- value, or the refusal and the bytes as they were.
abbrev pub IsCopied : Reply → Result ℕ Fault → List ℕ → List ℕ → Type 0
IsCopied (Value bytes) (Ok size) old new = (size ≡ length bytes) × (new ≡ (if length bytes == length old then bytes else old))
IsCopied (Refused fault) (Err refused) old new = (refused ≡ fault) × (new ≡ old)
IsCopied reply result old new = ⊥

-- An event of a tenant was answered, and changed nothing: in each system for which the memory stands and in which the tenant
-- stands for the one with the number, the event happens and keeps the promise.
abbrev pub IsAnswered : ℕ → TenantView → MemoryState → Event → Reply → Type 0
IsAnswered t kept memory event reply =
    (x : System) (tenant : Tenant) → slice_get x.world t ≡ Some tenant → StandsForTenant kept tenant → StandsForMemory memory x
    → Happens x event reply x × IsPromised x event reply x

-- An event of a tenant was served: in each system for which the memory stood and in which the tenant stood
-- for the one with the number, the event happens, keeps the promise, and leaves a tenant there and
-- pages for which tenant and memory stand now.
abbrev pub IsServed : ℕ → TenantView → MemoryState → Event → Reply → TenantView → MemoryState → Type 0
IsServed t old before event reply new after =
    (x : System) (tenant : Tenant) → slice_get x.world t ≡ Some tenant → StandsForTenant old tenant → StandsForMemory before x
    → (next : Tenant) × (sharing : Sharing) × StandsForTenant new next × StandsForMemory after (changed_system x t next sharing)
    × Happens x event reply (changed_system x t next sharing) × IsPromised x event reply (changed_system x t next sharing)

-- Steps of a tenant were made, up to a limit: in each such system they happen as Step events of that
-- tenant, and leave one there and pages for which tenant and memory stand now.
abbrev pub HasMadeSteps : ℕ → TenantView → MemoryState → ℕ → Option Reply → TenantView → MemoryState → Type 0
HasMadeSteps t old before limit last new after =
    (x : System) (tenant : Tenant) → slice_get x.world t ≡ Some tenant → StandsForTenant old tenant → StandsForMemory before x
    → (next : Tenant) × (sharing : Sharing) × StandsForTenant new next × StandsForMemory after (changed_system x t next sharing)
    × StepsHappen x t limit last (changed_system x t next sharing)

-- A whole run of a tenant was made on a context: in each such system it happens, and leaves a tenant there and pages for which
-- tenant and memory stand now.
abbrev pub HasMadeRun : ℕ → TenantView → MemoryState → ℕ → List ℕ → Reply → TenantView → MemoryState → Type 0
HasMadeRun t old before k context reply new after =
    (x : System) (tenant : Tenant) → slice_get x.world t ≡ Some tenant → StandsForTenant old tenant → StandsForMemory before x
    → (next : Tenant) × (sharing : Sharing) × StandsForTenant new next × StandsForMemory after (changed_system x t next sharing)
    × RunHappens x t k context reply (changed_system x t next sharing)

-- how many steps a kept run made
abbrev pub steps_of : Option KeptRun → ℕ
steps_of None = 0
steps_of (Some kept) = kept.run.steps

-- a run that goes on made so many steps more
abbrev pub HasCounted : TenantView → ℕ → Option Reply → TenantView → Type 0
HasCounted old steps None new = steps_of old.run + steps ≡ steps_of new.run
HasCounted old steps (Some last) new = Unit {0}

-- the tenant and the memory stand for a system
abbrev pub IsKept : ℕ → TenantView → MemoryState → Type 0
IsKept t kept memory = (x : System) × (tenant : Tenant) × (slice_get x.world t ≡ Some tenant) × StandsForTenant kept tenant × StandsForMemory memory x
