-- What each tenant has when no thread has started yet (docs/HOST.md): a function of the file's commands, but for the
-- programs, which are those that were accepted.
use Rattle.std.specs.Prelude.{◌≡◌, ◌≢◌, ◌++◌, ◌<◌, ℕ, All, List, [], ◌∷◌, length, get_or, slice_get, fold, IfSome, IsSomeAnd, MatchOption, Some}
use Rattle.host_types.specs.declared.fault.Fault.{Fault}
use Rattle.host_types.specs.declared.fault.Fault.TheVariants.{BadOption, BadTenant}
use Rattle.host_types.specs.Tenant.{TenantPart}
use Rattle.host_types.specs.Unmerging.{with_option}
use Rattle.host_types.specs.OptionTable.{MayBe}
use Rattle.host_types.specs.declared.options.Options.{Options}
use Rattle.bpf_decode.specs.Text.{IsWellFormed}
use Rattle.verifier.specs.Verified.{Accepted, IsVerified}
use Rattle.page_table.specs.Changes.{part_created, HasMap}
use Rattle.page_table.specs.Limits.{shape_of}
use Rattle.page_table.specs.State.{MemoryState, free_number, part}
use Rattle.map_helpers.specs.Updates.{part_updated}
use Rattle.host_calls.specs.Calls.{FitsNewMap, FitsValue, RefusesNewMap, RefusesUpdate, NamesHave}
use Rattle.host_calls.specs.Programs.{RefusesProgram, subject_of}
use Rattle.turn.specs.Seats.{SeatState, own_part}
use Rattle.tenant_workers.specs.Calls.{HasChanged}
use Rattle.tenant_workers.specs.declared.plans.TenantPlan.{TenantPlan}
use Rattle.host_types.specs.declared.event.Event.{Event}
use Rattle.host_types.specs.declared.event.Event.TheVariants.{CreateMap, Load, HostUpdate, Set}
use Rattle.host_types.specs.Events.{tenant_of}
use Rattle.host_file.specs.declared.command.Command.{Command}
use Rattle.host_file.specs.declared.command.Command.TheVariants.{Apply}
use Rattle.serving.specs.AtFirst.{first_part}

-- what a tenant has: its part, and its programs by number
pub record Home : Type 0 where
  pub part : TenantPart
  pub programs : List Accepted

abbrev pub home_of : TenantPlan → Home
home_of plan = record { part = own_part plan.seat; programs = plan.programs.items }

-- what it has at first: no map, and no program
abbrev pub first_home : Home
first_home = record { part = first_part; programs = [] }

-- the tenant has that, and nothing is to be run
pub record IsNewPlan (plan : TenantPlan) : Type 0 where
  pub part : own_part plan.seat ≡ first_part
  pub programs : plan.programs.items ≡ []
  pub runs : plan.runs.items ≡ []

-- what an event gives the tenant that it names: a map of zeros at its first free number, a program at the next
-- number, a value in a map; other events give nothing
abbrev pub IsGiven : Event → Home → Home → Type 0
IsGiven (CreateMap tenant value_size entries mergeable) old new =
    FitsNewMap old.part (shape_of value_size entries)
    × IsSomeAnd (free_number old.part) (λ m. new ≡ record old { part = part_created old.part m (shape_of value_size entries) })
IsGiven (Load tenant text context_size) old new =
    (v : Accepted) × (v.subject ≡ subject_of old.part text context_size) × IsVerified v × IsWellFormed text
    × (new ≡ record old { programs = old.programs ++ v ∷ [] })
IsGiven (HostUpdate tenant map key value) old new =
    FitsValue old.part map key value × (new ≡ record old { part = part_updated old.part map key value 0 })
IsGiven event old new = new ≡ old

-- what a command of the file does for a tenant before a thread starts
abbrev pub IsOpenedFor : ℕ → Command → Home → Home → Type 0
IsOpenedFor t (Apply event) old new = (tenant_of event ≡ Some t → IsGiven event old new) × (tenant_of event ≢ Some t → new ≡ old)
IsOpenedFor t command old new = new ≡ old

-- what all of them do, in the file's order
abbrev pub AreOpenedFor : ℕ → List Command → Home → Home → Type 0
AreOpenedFor t [] old new = new ≡ old
AreOpenedFor t (command ∷ commands) old new = (between : Home) × IsOpenedFor t command old between × AreOpenedFor t commands between new

-- the tenants' plans after these commands: each tenant has what they give it, and the runs that it had
pub record HaveOpened (commands : List Command) (old new : List TenantPlan) : Type 0 where
  pub as_many : length new ≡ length old
  pub homes : (t : ℕ) (plan : TenantPlan) → t < length old → AreOpenedFor t commands (home_of (get_or old t plan)) (home_of (get_or new t plan))
  pub runs : (t : ℕ) (plan : TenantPlan) → t < length old → (get_or new t plan).runs.items ≡ (get_or old t plan).runs.items

-- The memory in which a tenant was refused, where it had this part: missing frames are named with what could be had of it.
pub record IsFoundIn (owned : TenantPart) (fault : Fault) (memory : MemoryState) : Type 0 where
  pub tenant : ℕ
  pub known : part memory tenant ≡ owned
  pub printed : NamesHave memory fault

-- why an event isn't done for its tenant
abbrev pub RefusesGift : Event → Home → Fault → Type 0
RefusesGift (CreateMap tenant value_size entries mergeable) old fault =
    RefusesNewMap old.part (shape_of value_size entries) fault × ((found : MemoryState) × IsFoundIn old.part fault found)
RefusesGift (Load tenant text context_size) old fault = RefusesProgram (subject_of old.part text context_size) fault
RefusesGift (HostUpdate tenant map key value) old fault =
    RefusesUpdate old.part map key value fault × ((found : MemoryState) × IsFoundIn old.part fault found)
RefusesGift event old fault = ⊥

-- Why an option isn't set: it can't have the value. No page shares a frame before the threads start, so that is all.
abbrev pub RefusesSetting : Event → Fault → Type 0
RefusesSetting (Set option value) fault = (fault ≡ BadOption) × ¬ (MayBe option value)
RefusesSetting event fault = ⊥

-- a command that sets an option sets it to a value that it may have
abbrev pub IsSettable : Command → Type 0
IsSettable (Apply (Set option value)) = MayBe option value
IsSettable command = Unit {0}

-- the options after a command, which sets one if it may
abbrev pub options_after : Options → Command → Options
options_after options (Apply (Set option value)) = with_option options option value
options_after options command = options

-- the options that are set when all commands were opened
abbrev pub options_set : Options → List Command → Options
options_set options commands = fold options_after options commands

-- why an event isn't done, where the tenants have this
abbrev pub RefusesOpening : List Home → Event → Fault → Type 0
RefusesOpening homes event fault =
    MatchOption (tenant_of event) (RefusesSetting event fault) (λ t. MatchOption (slice_get homes t) (fault ≡ BadTenant) (λ home. RefusesGift event home fault))

-- Of so many tenants' commands an event was refused, the first one: each tenant had just what the commands before it gave
-- it, and none of these sets an option to a value that it can't have.
pub record IsStopped (tenants : ℕ) (commands : List Command) (event : Event) (fault : Fault) : Type 0 where
  pub front : List Command
  pub rest : List Command
  pub stands : commands ≡ front ++ Apply event ∷ rest
  pub homes : List Home
  pub as_many : length homes ≡ tenants
  pub opened : (t : ℕ) → IfSome (slice_get homes t) (AreOpenedFor t front first_home)
  pub settable : All IsSettable front
  pub refused : RefusesOpening homes event fault

-- the memory with other options
abbrev pub with_options : MemoryState → Options → MemoryState
with_options memory options = record memory { sharing = record memory.sharing { options = options } }

-- the map that an event makes may be merged, or not, as the event says: its tenant's seat made one turn for it
abbrev pub IsMadeBy : Event → SeatState → SeatState → Type 0
IsMadeBy (CreateMap tenant value_size entries mergeable) old new =
    IsSomeAnd (free_number (own_part old)) (λ m. HasChanged (HasMap old.view.first m (shape_of value_size entries) mergeable) old new)
IsMadeBy event old new = Unit {0}
