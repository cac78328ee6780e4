-- Runs on a tenant's part.
use Rattle.std.specs.Prelude.{◌≡◌, ◌≢◌, ℕ, ◌+◌, ◌<◌, ◌≤◌, true, false, List, length, replicate}
use Rattle.host_types.specs.declared.fault.Fault.{Fault}
use Rattle.host_types.specs.declared.fault.Fault.TheVariants.{NoFrames, NoProgram, BadContext, OutOfMemory, BadTenant}
use Rattle.host_types.specs.Tenant.{TenantPart}
use Rattle.bpf_decode.specs.Text.{instructions_of}
use Rattle.page_table.specs.Changes.{with_reserve}
use Rattle.page_table.specs.State.{MemoryState, part, have_of}
use Rattle.verifier.specs.Named.{named_shapes}
use Rattle.verifier.specs.Verified.{Accepted}
use Rattle.admission.specs.Reserve.{needed_from}
use Rattle.interp.specs.declared.need.Need.{Need}
use Rattle.interp.specs.Fits.{HaveShapes}
use Rattle.interp.specs.Machine.{MachineState, Exits}
use Rattle.interp.specs.Runs.{Runs}
use Rattle.interp.specs.StandsFor.{Running, StandsFor, Asks}
use Rattle.tenant_runs.specs.declared.answers.RunReply.{RunReply}

-- A run under way stands for a state whose maps are the tenant's; it is the tenant's open run, and what the rest of it
-- may need is reserved for the tenant.
pub record IsUnderWay (v : Accepted) (run : Running) (s : MachineState) (owned : TenantPart) : Type 0 where
  pub stands : StandsFor v run s
  pub maps : owned.maps ≡ s.memory.maps
  pub running : owned.running ≡ true
  pub reserve : needed_from v owned run.slot ≤ owned.reserve

-- a run that was under way asks something in its state
pub record IsAsking (v : Accepted) (s : MachineState) (need : Need) (run : Running) (owned : TenantPart) : Type 0 where
  pub asks : Asks v s need run
  pub eight : length owned.maps ≡ 8
  pub maps : owned.maps ≡ s.memory.maps
  pub running : owned.running ≡ true
  pub reserve : needed_from v owned s.slot ≤ owned.reserve

-- a tenant's part, with what may be had beside what is reserved for it: its run may take both
abbrev pub part_with_have : MemoryState → ℕ → TenantPart
part_with_have memory tenant = with_reserve (have_of memory + (part memory tenant).reserve) (part memory tenant)

-- A whole run on a tenant's part: the tenant has the maps that the program names, the context has its size, the reply
-- is that of the standard's machine, whose maps are the tenant's afterwards, and the tenant has no open run any
-- more: nothing is reserved, and no page is pinned.
pub record HasRun (v : Accepted) (context : List ℕ) (old new : TenantPart) (reply : RunReply) : Type 0 where
  pub shapes : HaveShapes (named_shapes v.subject) old.maps
  pub sized : length context ≡ v.subject.context_size
  pub runs : Runs v.subject.text context old.maps reply.steps (Exits reply.ret new.maps)
  pub few : reply.steps ≤ instructions_of v.subject.text
  pub released : new.reserve ≡ 0
  pub ended : new.running ≡ false
  pub unpinned : new.pins ≡ replicate 2048 false

-- a tenant may run a program: it is there, and each map that the program names and has a shape for is its own
-- with that shape
pub record MayRun (v : Accepted) (memory : MemoryState) (tenant : ℕ) : Type 0 where
  pub there : tenant < length memory.tenants
  pub shapes : HaveShapes (named_shapes v.subject) (part memory tenant).maps

-- when a run isn't opened: the first refusal, in this order, whose condition holds
abbrev pub RefusesOpen : Accepted → List ℕ → MemoryState → ℕ → Fault → Type 0
RefusesOpen v context memory tenant BadContext = length context ≢ v.subject.context_size
RefusesOpen v context memory tenant (NoFrames need have) =
    (length context ≡ v.subject.context_size) × (need ≡ needed_from v (part memory tenant) 0) × (have ≡ have_of memory) × (have < need)
RefusesOpen v context memory tenant OutOfMemory =
    (length context ≡ v.subject.context_size) × (needed_from v (part memory tenant) 0 ≤ have_of memory)
RefusesOpen v context memory tenant _ = ⊥

-- when a program isn't run: the first refusal, in this order, whose condition holds
abbrev pub RefusesRun : Accepted → List ℕ → MemoryState → ℕ → Fault → Type 0
RefusesRun v context memory tenant BadTenant = length memory.tenants ≤ tenant
RefusesRun v context memory tenant NoProgram = (tenant < length memory.tenants) × ¬ (HaveShapes (named_shapes v.subject) (part memory tenant).maps)
RefusesRun v context memory tenant fault = MayRun v memory tenant × RefusesOpen v context memory tenant fault
