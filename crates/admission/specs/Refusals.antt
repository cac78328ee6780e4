-- When a run may not begin.
use Rattle.std.specs.Prelude.{◌≡◌, ℕ, ◌<◌}
use Rattle.host_types.specs.declared.fault.Fault.{Fault}
use Rattle.host_types.specs.declared.fault.Fault.TheVariants.{NoFrames}
use Rattle.page_table.specs.State.{MemoryState, have_of}

-- when no frames are reserved for a run: it needs more than new pages may have
abbrev pub RefusesFrames : MemoryState → ℕ → Fault → Type 0
RefusesFrames memory needed (NoFrames need have) = (need ≡ needed) × (have ≡ have_of memory) × (have < need)
RefusesFrames memory needed _ = ⊥
