-- What a run asks of a tenant's part, and what becomes of it.
use Rattle.std.specs.Prelude.{◌≡◌, ℕ, List, length, option_map, unwrap_or, IsSomeAnd}
use Rattle.host_types.specs.Memory.{map_at}
use Rattle.host_types.specs.Sharing.{Sharing}
use Rattle.host_types.specs.Tenant.{TenantPart}
use Rattle.bpf_decode.specs.Opcodes.{byte_count}
use Rattle.map_helpers.specs.Updates.{updated_sharing, update_frames}
use Rattle.page_table.specs.State.{MemoryState}
use Rattle.write_break.specs.Stores.{stored_sharing, store_frames}
use Rattle.interp.specs.declared.need.Need.{Need}
use Rattle.interp.specs.declared.need.Need.TheVariants.{Store, Update}
use Rattle.interp.specs.Needs.{map_of, MayAsk, answer_of, maps_after}

-- the tenant has the map, and what is asked may be asked of it
abbrev pub MayFulfil : TenantPart → Need → List ℕ → Type 0
MayFulfil owned need value = IsSomeAnd (map_at owned.maps (map_of need)) (MayAsk need value)

-- what the tenant's map answers
abbrev pub answer_for : TenantPart → Need → ℕ
answer_for owned need = unwrap_or (option_map (answer_of need) (map_at owned.maps (map_of need))) 0

-- how many frames it takes: a store and an update take out the pages that they write
abbrev pub frames_fulfilled : TenantPart → Sharing → ℕ → Need → ℕ
frames_fulfilled owned sharing tenant (Store m at size number) = store_frames sharing tenant m at (byte_count size)
frames_fulfilled owned sharing tenant (Update m key flags) = update_frames owned sharing tenant m key flags
frames_fulfilled owned sharing tenant need = 0

-- what is reserved for the run afterwards: nothing where a map may be written, and else what was
abbrev pub reserve_fulfilled : Need → ℕ → ℕ
reserve_fulfilled (Store m at size number) reserve = 0
reserve_fulfilled (Update m key flags) reserve = 0
reserve_fulfilled need reserve = reserve

-- the tenant's part afterwards, but for its pins
abbrev pub part_fulfilled : TenantPart → Need → List ℕ → TenantPart
part_fulfilled owned need value = record owned { maps = maps_after need value owned.maps; reserve = reserve_fulfilled need owned.reserve }

-- which pages share frames afterwards: those that are written are broken, and pinned where the tenant has an open run
abbrev pub sharing_fulfilled : TenantPart → Sharing → ℕ → Need → Sharing
sharing_fulfilled owned sharing tenant (Store m at size number) = stored_sharing owned.running sharing tenant m at (byte_count size)
sharing_fulfilled owned sharing tenant (Update m key flags) = updated_sharing owned sharing tenant m key flags
sharing_fulfilled owned sharing tenant need = sharing

-- as many tenants and as many frames
pub record KeepsSizes (old new : MemoryState) : Type 0 where
  pub tenants : length new.tenants ≡ length old.tenants
  pub frames : length new.arena ≡ length old.arena
