-- What is reserved for a run is enough together with what may be had.
use Rattle.std.proofs.Common.{◌≡◌, ◌≤◌, ◌+◌, ℕ, List, refl, arith}
use Rattle.host_types.specs.Memory.{FlatMaps}
use Rattle.page_table.specs.State.{MemoryState, part, have_of}
use Rattle.verifier.specs.Verified.{Accepted}
use Rattle.interp.specs.declared.need.Need.{Need}
use Rattle.interp.specs.declared.need.Need.TheVariants.{Private, Ended, Load, Store, Lookup, Update, Delete}
use Rattle.interp.specs.Needs.{maps_after}
use Rattle.interp.specs.Machine.{MachineState}
use Rattle.interp.specs.declared.control.Awaited.{Awaited}
use Rattle.interp.specs.declared.control.Awaited.TheVariants.{Nothing, Loaded, Returned}
use Rattle.interp.specs.StandsFor.{Running, answered_by}
use Rattle.tenant_runs.specs.UnderWay.{IsUnderWay, IsAsking, part_with_have}

no_less : {need reserve : ℕ} (have : ℕ) → need ≤ reserve → need ≤ have + reserve
no_less have enough = omega (arith, enough)

pub under_way_roomy : (v : Accepted) (run : Running) (s : MachineState) (memory : MemoryState) (tenant : ℕ) → IsUnderWay v run s (part memory tenant) → IsUnderWay v run s (part_with_have memory tenant)
under_way_roomy v run s memory tenant way = record { stands = way.stands; maps = way.maps; running = way.running; reserve = no_less (have_of memory) way.reserve }

pub asking_roomy : (v : Accepted) (s : MachineState) (need : Need) (run : Running) (memory : MemoryState) (tenant : ℕ) → IsAsking v s need run (part memory tenant) → IsAsking v s need run (part_with_have memory tenant)
asking_roomy v s need run memory tenant asking = record { asks = asking.asks; eight = asking.eight; maps = asking.maps; running = asking.running; reserve = no_less (have_of memory) asking.reserve }

-- only an update takes a value
pub unvalued : (need : Need) (value other : List ℕ) (maps : FlatMaps) → ((m key flags : ℕ) → need ≡ Update m key flags → ⊥) → maps_after need value maps ≡ maps_after need other maps
unvalued Private value other maps none = refl
unvalued (Ended number) value other maps none = refl
unvalued (Load m at size) value other maps none = refl
unvalued (Store m at size number) value other maps none = refl
unvalued (Lookup m key) value other maps none = refl
unvalued (Delete m key) value other maps none = refl
unvalued (Update m key flags) value other maps none = absurd (none m key flags refl)

-- a run that takes an answer stays at its slot
pub answered_slot : (awaited : Awaited) (run : Running) (number : ℕ) → (answered_by awaited run number).slot ≡ run.slot
answered_slot (Loaded i size extension) run number = refl
answered_slot Returned run number = refl
answered_slot Nothing run number = refl
