-- What a memory is to its callers: the maps of all tenants, which pages share frames, and the pages of the frames.
use Rattle.std.specs.Prelude.{ℕ, false, ◌-◌, ◌*◌, List, [], length, replicate, sum_by, slice_index_or, Option, None, option_map, unwrap_or, is_none, position}
use Rattle.host_types.specs.declared.options.Options.{Options}
use Rattle.host_types.specs.declared.shape.Page.{Page}
use Rattle.host_types.specs.Bytes.{part_of}
use Rattle.host_types.specs.Memory.{FlatMap, FlatMaps, map_at}
use Rattle.host_types.specs.Sharing.{Sharing, frames_free}
use Rattle.host_types.specs.Tenant.{TenantPart}
use Rattle.host_types.specs.Pages.{zero_page}
use Rattle.page_table.specs.declared.tenant.Tenant.{Tenant}

-- What is recorded of each tenant beside its maps; the maps of all tenants by index; which pages
-- share frames; the page in each frame; and the frame of each page by index.
pub record MemoryState : Type 0 where
  pub tenants : List Tenant
  pub maps : FlatMaps
  pub sharing : Sharing
  pub arena : List (List ℕ)
  pub frames : List (Option ℕ)

-- a tenant that has no open run, and for whose run no frame is reserved
abbrev pub unreserved_tenant : Tenant
unreserved_tenant = record { reserve = 0; running = false }

-- the state of sharing without pages
abbrev pub no_sharing : ℕ → Options → Sharing
no_sharing page_indices options =
    record { pages = replicate page_indices None; groups = []; waiting = []; cursor = None; options = options; full_scans = 0; pins = replicate page_indices false }

-- a memory without maps: each tenant has eight map numbers, each map 256 pages
unfoldable pub new_memory : ℕ → ℕ → Options → MemoryState
new_memory frames tenants options =
    record {
      tenants = replicate tenants unreserved_tenant;
      maps = replicate (tenants * 8) None;
      sharing = no_sharing (tenants * 2048) options;
      arena = replicate frames zero_page;
      frames = replicate (tenants * 2048) None;
    }

-- what is recorded of the tenant t beside its maps
abbrev pub tenant_at : MemoryState → ℕ → Tenant
tenant_at memory t = slice_index_or memory.tenants t unreserved_tenant

-- what belongs to the tenant t
unfoldable pub part : MemoryState → ℕ → TenantPart
part memory t =
    record {
      maps = part_of memory.maps (t * 8) 8;
      reserve = (tenant_at memory t).reserve;
      running = (tenant_at memory t).running;
      pins = part_of memory.sharing.pins (t * 2048) 2048;
    }

-- the bytes of a tenant's map; none where there is no such map
abbrev pub map_bytes : TenantPart → ℕ → List ℕ
map_bytes owned m = unwrap_or (option_map (λ (flat : FlatMap). flat.bytes) (map_at owned.maps m)) []

-- the bytes of the map that a page is of
abbrev pub bytes_of_map : MemoryState → Page → List ℕ
bytes_of_map memory page = map_bytes (part memory page.tenant) page.map

-- the first of a tenant's map numbers that no map has
abbrev pub free_number : TenantPart → Option ℕ
free_number owned = position (λ (slot : Option FlatMap). is_none slot) owned.maps

-- the frame of the page at an index
abbrev pub frame_at : MemoryState → ℕ → Option ℕ
frame_at memory i = slice_index_or memory.frames i None

-- the frames that no page has, the zero frame aside
abbrev pub free_of : MemoryState → ℕ
free_of memory = frames_free (length memory.arena) memory.sharing

-- the frames that new pages may have: the free ones less all recorded reserves
abbrev pub have_of : MemoryState → ℕ
have_of memory = free_of memory - sum_by (λ (tenant : Tenant). tenant.reserve) memory.tenants
