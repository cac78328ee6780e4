-- Steps of an open run that are made in one go.
use Rattle.std.specs.Prelude.{◌≡◌, ◌≢◌, ℕ, zero, suc, ◌+◌, ◌≤◌, true, List, length, sum_by, slice_get, Option, Some, None}
use Rattle.host_types.specs.Pins.{released}
use Rattle.host_types.specs.Sharing.{Sharing, frames_free}
use Rattle.host_types.specs.Tenant.{TenantPart, AreFlatMaps}
use Rattle.bpf_decode.specs.Text.{instructions_of}
use Rattle.page_table.specs.declared.tenant.Tenant.{Tenant as Recorded}
use Rattle.page_table.specs.Changes.{without_run}
use Rattle.page_table.specs.Reads.{ReadsAs}
use Rattle.page_table.specs.State.{MemoryState, part}
use Rattle.verifier.specs.Verified.{Accepted}
use Rattle.admission.specs.Reserve.{needed_from}
use Rattle.interp.specs.declared.need.Need.{Need}
use Rattle.interp.specs.Needs.{maps_after}
use Rattle.interp.specs.Machine.{MachineState, Next, Exits, step}
use Rattle.interp.specs.OnMaps.{IsRoomy}
use Rattle.interp.specs.StandsFor.{Running, StandsFor, Follows, with_context}
use Rattle.interp.specs.Written.{written}
use Rattle.tenant_runs.specs.Storing.{maps_of_part, HasStoreFrames}
use Rattle.host_core.specs.declared.tenant.OpenRun.{OpenRun as KeptRun}
use Rattle.host_core.specs.World.{pins_of}
use Rattle.host_core.specs.Happens.{sharing_after}

-- the kept run on a context that it has no copy of
abbrev pub on_context : List ℕ → KeptRun → KeptRun
on_context context kept = record kept { run = with_context context kept.run }

-- An open run of a program stands for a state whose maps are the tenant's, and just what the rest of it may
-- need is reserved for the tenant.
pub record IsUnderWayAt (programs : List (Option Accepted)) (kept : KeptRun) (v : Accepted) (s : MachineState) (owned : TenantPart) : Type 0 where
  pub numbered : slice_get programs kept.program ≡ Some (Some v)
  pub stands : StandsFor v kept.run s
  pub maps : owned.maps ≡ s.memory.maps
  pub running : owned.running ≡ true
  pub reserve : owned.reserve ≡ needed_from v owned s.slot

-- An open run that stood for a state made one step: what it asks, or its end, is still to be done.
pub record HasMadeStep (programs : List (Option Accepted)) (kept : KeptRun) (v : Accepted) (s : MachineState) (need : Need) (run : Running) (owned : TenantPart) : Type 0 where
  pub under : IsUnderWayAt programs kept v s owned
  pub follows : Follows v s need run
  pub counted : run.steps ≡ kept.run.steps + 1

-- how many frames the rest of an open run of the tenant t may need that stands for a state
abbrev pub needed_in : Accepted → ℕ → Sharing → MachineState → ℕ
needed_in v t sharing s =
    needed_from v (record { maps = s.memory.maps; reserve = 0; running = true; pins = pins_of sharing t }) s.slot

-- what the part of the tenant t is where an open run stands for a state
abbrev pub part_in : Accepted → ℕ → Sharing → MachineState → TenantPart
part_in v t sharing s =
    record { maps = s.memory.maps; reserve = needed_in v t sharing s; running = true; pins = pins_of sharing t }

-- how many frames are recorded as reserved for open runs
abbrev pub reserved_of : MemoryState → ℕ
reserved_of memory = sum_by (λ (tenant : Recorded). tenant.reserve) memory.tenants

-- The beginning of steps in one go: what was reserved for the run may be had, so that as much may be had as the rest of it may need.
pub record IsStarted (v : Accepted) (t : ℕ) (s : MachineState) (before released : MemoryState) : Type 0 where
  pub sharing : released.sharing ≡ before.sharing
  pub frames : length released.arena ≡ length before.arena
  pub eight : length (part released t).maps ≡ 8
  pub all : reserved_of before ≡ reserved_of released + needed_in v t before.sharing s
  pub reads : ReadsAs released
  pub roomy : IsRoomy (maps_of_part t) (HasStoreFrames t) v s released

-- what other tenants have pinned stays
abbrev pub KeepsPins : ℕ → Sharing → Sharing → Type 0
KeepsPins t before after = (u : ℕ) → u ≢ t → pins_of after u ≡ pins_of before u

-- One step of an open run of the tenant t after which it goes on: it changes the maps as what it asks does, and the pages that it writes are
-- broken, and pinned if they were taken out. `all` frames were reserved, `mine` of them for this run: as many are free as the others have and the rest of this one may need.
pub record IsMade (v : Accepted) (t all mine frames : ℕ) (s : MachineState) (before : Sharing) (next : MachineState) (after : Sharing) : Type 0 where
  pub makes : step v.subject.text s ≡ Some (Next next)
  pub need : Need
  pub value : List ℕ
  pub maps : next.memory.maps ≡ maps_after need value s.memory.maps
  pub shares : after ≡ sharing_after before t (written v.subject.text s)
  pub others : KeepsPins t before after
  pub enough : all + needed_in v t after next ≤ frames_free frames after + mine

-- n such steps
abbrev pub AreMade : Accepted → ℕ → ℕ → ℕ → ℕ → MachineState → Sharing → ℕ → MachineState → Sharing → Type 0
AreMade v t all mine frames s before zero next after = (next ≡ s) × (after ≡ before)
AreMade v t all mine frames s before (suc n) next after =
    (u : MachineState) × (between : Sharing) × AreMade v t all mine frames s before n u between × IsMade v t all mine frames u between next after

-- n steps of a run for which just what it may need was reserved
abbrev pub AreMadeFrom : Accepted → MachineState → ℕ → ℕ → MemoryState → MachineState → Sharing → Type 0
AreMadeFrom v s n t before next after = AreMade v t (reserved_of before) (needed_in v t before.sharing s) (length before.arena) s before.sharing n next after

-- n steps, after which the run stands for a later state
pub record IsOn (v : Accepted) (s : MachineState) (n t : ℕ) (before : MemoryState) (run : Running) (after : MemoryState) : Type 0 where
  pub next : MachineState
  pub reached : AreMadeFrom v s n t before next after.sharing
  pub stands : StandsFor v run next
  pub owned : part after t ≡ part_in v t after.sharing next

-- steps, and one more that asks something of the tenant's maps: the pages that it writes are broken
pub record IsAnswered (v : Accepted) (s : MachineState) (n t : ℕ) (before : MemoryState) (run : Running) (after : MemoryState) : Type 0 where
  pub made : ℕ
  pub last : n ≡ suc made
  pub here : MachineState
  pub between : Sharing
  pub reached : AreMadeFrom v s made t before here between
  pub next : MachineState
  pub makes : step v.subject.text here ≡ Some (Next next)
  pub need : Need
  pub value : List ℕ
  pub writes : next.memory.maps ≡ maps_after need value here.memory.maps
  pub stands : StandsFor v run next
  pub owned : part after t ≡ part_in v t after.sharing next
  pub sharing : after.sharing ≡ sharing_after between t (written v.subject.text here)

-- steps, and one more with which the run ends, and with it its pins
pub record IsEnded (v : Accepted) (s : MachineState) (n t : ℕ) (number : ℕ) (before : MemoryState) (run : Running) (after : MemoryState) : Type 0 where
  pub made : ℕ
  pub last : n ≡ suc made
  pub here : MachineState
  pub between : Sharing
  pub reached : AreMadeFrom v s made t before here between
  pub makes : step v.subject.text here ≡ Some (Exits number here.memory.maps)
  pub flat : AreFlatMaps here.memory.maps
  pub few : run.steps ≤ instructions_of v.subject.text
  pub owned : part after t ≡ without_run (part_in v t between here)
  pub sharing : after.sharing ≡ released between t

-- what a batch of steps did, by what the run returned, if it ended
pub data HasDone (v : Accepted) (s : MachineState) (n t : ℕ) (before : MemoryState) (run : Running) (after : MemoryState) : Option ℕ → Type 0 where
  went_on : IsOn v s n t before run after → HasDone v s n t before run after None
  answered : IsAnswered v s n t before run after → HasDone v s n t before run after None
  ended : (number : ℕ) → IsEnded v s n t number before run after → HasDone v s n t before run after (Some number)

-- a run that stood for a state made steps, one at least and no more than a limit
abbrev pub HasAdvanced : Accepted → MachineState → ℕ → ℕ → Running → MemoryState → Option ℕ → Running → MemoryState → Type 0
HasAdvanced v s t limit old before result new after =
    (n : ℕ) × (1 ≤ n) × (n ≤ limit) × (new.steps ≡ old.steps + n) × HasDone v s n t before new after result
