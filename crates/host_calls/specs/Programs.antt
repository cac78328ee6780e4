-- What a tenant's programs are verified by, and when a run of one may not begin: over the tenant's part alone.
use Rattle.std.specs.Prelude.{◌≡◌, ◌⊎◌, ℕ, ◌<◌, List, map, Option, option_map}
use Rattle.host_types.specs.declared.fault.Fault.{Fault}
use Rattle.host_types.specs.declared.fault.Fault.TheVariants.{Program, NoFrames, BadContext, OutOfMemory}
use Rattle.host_types.specs.declared.fault.Refused.{Refused}
use Rattle.host_types.specs.declared.shape.Shape.{Shape}
use Rattle.host_types.specs.Memory.{FlatMap, FlatMaps}
use Rattle.host_types.specs.Tenant.{TenantPart}
use Rattle.bpf_decode.specs.Text.{IsWellFormed, IsFirstFault}
use Rattle.verifier.specs.Subject.{Subject, IsContextSize, padded}
use Rattle.verifier.specs.Table.{IsRefusal}
use Rattle.verifier.specs.Verified.{Accepted}
use Rattle.admission.specs.Reserve.{needed_from}

-- the shapes of a tenant's maps by number: none where it has no such map
abbrev pub shapes_of : FlatMaps → List (Option Shape)
shapes_of maps = map (option_map (λ (flat : FlatMap). flat.shape)) maps

-- a text as a program for maps of these shapes
abbrev pub subject_for : List (Option Shape) → List ℕ → ℕ → Subject
subject_for shapes text size = record { text = text; shapes = padded shapes; context_size = size }

-- a text as a program of the tenant
abbrev pub subject_of : TenantPart → List ℕ → ℕ → Subject
subject_of owned text size = subject_for (shapes_of owned.maps) text size

-- Why a text isn't accepted: by its first fault, or else by the first rule that it breaks; or, where it has no
-- fault, for want of memory.
abbrev pub IsVerdict : Subject → Fault → Type 0
IsVerdict p fault = ((fault ≡ OutOfMemory) × IsWellFormed p.text)
    ⊎ ((refusal : Refused) × (fault ≡ Program refusal) × (IsFirstFault p.text refusal ⊎ (IsWellFormed p.text × IsRefusal p refusal)))

-- why a program isn't loaded: its context is out of limits, or else its text isn't accepted
abbrev pub RefusesProgram : Subject → Fault → Type 0
RefusesProgram p fault =
    ((fault ≡ BadContext) × ¬ (IsContextSize p.context_size)) ⊎ (IsContextSize p.context_size × IsVerdict p fault)

-- when a run doesn't begin for want of frames: fewer may be had than the tenant's whole run of the program may need
abbrev pub RefusesBegin : Accepted → TenantPart → Fault → Type 0
RefusesBegin v owned (NoFrames need have) = (need ≡ needed_from v owned 0) × (have < need)
RefusesBegin v owned _ = ⊥
