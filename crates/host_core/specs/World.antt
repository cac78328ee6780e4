-- What a host is, without any of its machinery: each tenant's private memory, programs and open run, and
-- which pages share frames.
use Rattle.std.specs.Prelude.{◌≡◌, ℕ, ◌+◌, ◌-◌, ◌*◌, ◌≤◌, suc, Bool, false, true, List, [], ◌∷◌, flat_map, length, position, replicate, slice_get, slice_index_or, is_none, is_some, IfSome, Option, None, Some}
use Rattle.std.specs.List.{list_any}
use Rattle.host_types.specs.declared.options.Options.{Options}
use Rattle.host_types.specs.Bytes.{part_of}
use Rattle.host_types.specs.Memory.{FlatMaps}
use Rattle.host_types.specs.Sharing.{Sharing, frames_free}
use Rattle.host_types.specs.Tenant.{AreFlatMaps, TenantPart}
use Rattle.bpf_decode.specs.Text.{instructions_before}
use Rattle.page_table.specs.State.{no_sharing}
use Rattle.verifier.specs.Named.{names}
use Rattle.verifier.specs.Subject.{Subject}
use Rattle.verifier.specs.Table.{tight_table}
use Rattle.verifier.specs.Verified.{Accepted}
use Rattle.admission.specs.Reserve.{needed_from}
use Rattle.interp.specs.Machine.{MachineState, Outcome, Next, start_state}
use Rattle.interp.specs.Runs.{Reaches, Runs}

-- Where a run begins, so far as it is known: with a context and the maps as they were then; or, for a run that
-- was found open, with the state that it had, after so many steps. For example, of a list of events before which three steps of
-- a run were made, the run begins at `found_open s 3`, where s is the state after these steps.
pub data Beginning : Type 0 where
  started : List ℕ → FlatMaps → Beginning
  found_open : MachineState → ℕ → Beginning

-- so many steps in all lead a program from a beginning to an outcome
abbrev pub Leads : List ℕ → Beginning → ℕ → Outcome → Type 0
Leads text (started context maps) steps outcome = Runs text context maps steps outcome
Leads text (found_open s before) steps outcome = (since : ℕ) × (before + since ≡ steps) × Reaches text s since outcome

-- An open run: its program and its beginning; the state that it reached, and in how many steps.
pub record OpenRun : Type 0 where
  pub program : Subject
  pub beginning : Beginning
  pub state : MachineState
  pub steps : ℕ

-- a tenant: its maps and its programs by index, and its open run, if it has one
pub record Tenant : Type 0 where
  pub maps : FlatMaps
  pub programs : List (Option Subject)
  pub run : Option OpenRun

-- the tenants by number
abbrev pub World : Type 0
World = List Tenant

-- a world, which of its pages share frames, and how many frames there are
pub record System : Type 0 where
  pub world : World
  pub sharing : Sharing
  pub frames : ℕ

-- the program at one of a tenant's indices, if there is one
abbrev pub program_at : Tenant → ℕ → Option Subject
program_at tenant k = slice_index_or tenant.programs k None

-- the first of a tenant's indices where no program is
abbrev pub free_program : Tenant → Option ℕ
free_program tenant = position (λ (slot : Option Subject). is_none slot) tenant.programs

-- a program stands at an index, and one of its instructions, reached or not, names the map
abbrev pub names_there : ℕ → Option Subject → Bool
names_there m None = false
names_there m (Some p) = names p.text m

-- one of a tenant's programs names the map
abbrev pub is_used : Tenant → ℕ → Bool
is_used tenant m = list_any (names_there m) tenant.programs

-- a tenant of a new host has eight entries for maps and eight for programs, none of them taken, and no run
abbrev pub new_tenant : Tenant
new_tenant = record { maps = replicate 8 None; programs = replicate 8 None; run = None }

-- a new host: no page is there
abbrev pub new_system : ℕ → ℕ → Options → System
new_system frames tenants options =
    record { world = replicate tenants new_tenant; sharing = no_sharing (tenants * 2048) options; frames = frames }

-- a run that has just begun
abbrev pub begun_run : Subject → List ℕ → FlatMaps → OpenRun
begun_run program context maps = record { program = program; beginning = started context maps; state = start_state context maps; steps = 0 }

-- The state of an open run is the one that the standard reaches from its beginning in as many steps, and
-- they are no more than the instructions before its slot.
pub record IsOpenRun (r : OpenRun) : Type 0 where
  pub reached : Leads r.program.text r.beginning r.steps (Next r.state)
  pub steps : r.steps ≤ instructions_before r.program.text r.state.slot

-- A run that begins where it was found is open, however it came there.
abbrev pub FoundIsOpen : Type 0
FoundIsOpen = (r : OpenRun) → r.beginning ≡ found_open r.state r.steps → r.steps ≤ instructions_before r.program.text r.state.slot → IsOpenRun r

-- a tenant has eight entries for programs, and with an open run it has the maps of that run's state
pub record IsTenant (tenant : Tenant) : Type 0 where
  pub maps : AreFlatMaps tenant.maps
  pub eight : length tenant.programs ≡ 8
  pub run : IfSome tenant.run IsOpenRun
  pub same : IfSome tenant.run (λ r. tenant.maps ≡ r.state.memory.maps)

-- each tenant is as its open run says
abbrev pub IsWorld : World → Type 0
IsWorld w = (t : ℕ) → IfSome (slice_get w t) IsTenant

-- the maps of all tenants, those of one after those of the other
abbrev pub all_maps : World → FlatMaps
all_maps w = flat_map (λ (tenant : Tenant). tenant.maps) w

-- a program with what is known at each of its slots
abbrev pub accepted_of : Subject → Accepted
accepted_of program = record { subject = program; table = tight_table program }

-- which of the pages of the tenant t are pinned, by index
abbrev pub pins_of : Sharing → ℕ → List Bool
pins_of sharing t = part_of sharing.pins (t * 2048) 2048

-- How many frames the rest of an open run on these maps may need: no more than its stores may take, and no more than
-- the pages that it may write and that aren't pinned.
abbrev pub reserve_of : List Bool → FlatMaps → Option OpenRun → ℕ
reserve_of pins maps None = 0
reserve_of pins maps (Some r) =
    needed_from (accepted_of r.program) (record { maps = maps; reserve = 0; running = true; pins = pins }) r.state.slot

-- what belongs to the tenant t of the memory: its maps, what its open run may need, if it has one, and its pinned pages
abbrev pub owned_by : Sharing → ℕ → Tenant → TenantPart
owned_by sharing t tenant =
    record {
      maps = tenant.maps;
      reserve = reserve_of (pins_of sharing t) tenant.maps tenant.run;
      running = is_some tenant.run;
      pins = pins_of sharing t;
    }

-- what the open runs of some tenants may need, the first of whom has the number t
unfoldable pub reserved_from : Sharing → ℕ → World → ℕ
reserved_from sharing t [] = 0
reserved_from sharing t (tenant ∷ w) = (owned_by sharing t tenant).reserve + reserved_from sharing (suc t) w

-- what all open runs may need
abbrev pub reserved_in : System → ℕ
reserved_in x = reserved_from x.sharing 0 x.world

-- the frames that may be had: the free ones less those that open runs may need
abbrev pub have_in : System → ℕ
have_in x = frames_free x.frames x.sharing - reserved_in x

-- all open runs together need no more frames than are free
abbrev pub IsCovered : System → Type 0
IsCovered x = reserved_in x ≤ frames_free x.frames x.sharing
