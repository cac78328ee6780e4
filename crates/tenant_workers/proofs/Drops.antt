-- Why a map isn't dropped of a tenant that is there.
use Rattle.std.proofs.Common.{◌≡◌, ℕ, ◌*◌, length, refl}
use Rattle.host_types.specs.declared.fault.Fault.{Fault}
use Rattle.host_types.specs.declared.fault.Fault.TheVariants.{NoMap, BadTenant}
use Rattle.page_table.specs.State.{MemoryState, part}
use Rattle.page_table.specs.Changes.{RefusesDrop}
use Rattle.host_calls.proofs.Elements.{tenant-missing}
use Rattle.tenant_workers.specs.Calls.{LacksMap}

-- it has no map of the number
pub refused_there : (memory : MemoryState) (t m : ℕ) (fault : Fault) → length memory.maps ≡ length memory.tenants * 8 → length (part memory t).maps ≡ 8
    → RefusesDrop memory t m fault → LacksMap (part memory t) m fault
refused_there memory t m NoMap all eight (inside, none) = (refl, none)
refused_there memory t m BadTenant all eight past = absurd (tenant-missing memory t all past eight)
refused_there memory t m fault all eight impossible = absurd impossible
