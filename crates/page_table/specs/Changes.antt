-- What the calls change, and when they refuse.
use Rattle.std.specs.Prelude.{◌≡◌, ◌≢◌, ℕ, ◌+◌, ◌*◌, ◌<◌, ◌≤◌, Bool, true, false, List, [], ◌∷◌, find, length, replicate, slice_set, Option, None, Some, IsSome, IfSome, IsNone, option_map, unwrap_or}
use Rattle.host_types.specs.declared.fault.Fault.{Fault}
use Rattle.host_types.specs.declared.fault.Fault.TheVariants.{NoFrames, TooManyMaps, BadShape, NoMap, BadOption, OutOfMemory, BadTenant}
use Rattle.host_types.specs.declared.options.Options.{Options}
use Rattle.host_types.specs.declared.shape.Page.{Page}
use Rattle.host_types.specs.declared.shape.Shape.{Shape}
use Rattle.host_types.specs.Bytes.{with_part}
use Rattle.host_types.specs.Memory.{FlatMap, map_at}
use Rattle.host_types.specs.OptionTable.{AreOptions}
use Rattle.host_types.specs.Pages.{map_index_of, page_index_of}
use Rattle.host_types.specs.Pins.{is_pinned, released}
use Rattle.host_types.specs.Shapes.{IsShape, byte_len_of}
use Rattle.host_types.specs.Sharing.{Sharing, state_at, new_page, is_shared}
use Rattle.host_types.specs.Tenant.{TenantPart}
use Rattle.host_types.specs.Visits.{Contents, contents_in, is_open, find_partner, is_waiting}
use Rattle.page_table.specs.Limits.{AreLimits, page_count}
use Rattle.page_table.specs.State.{MemoryState, unreserved_tenant, tenant_at, part, bytes_of_map, free_number, frame_at, free_of, have_of}

-- a map whose bytes are all zero
abbrev pub zero_map : Shape → FlatMap
zero_map shape = record { shape = shape; bytes = replicate (byte_len_of shape) 0 }

-- a map with bytes written from an index on
abbrev pub map_written : ℕ → List ℕ → FlatMap → FlatMap
map_written at bytes flat = record flat { bytes = with_part flat.bytes at bytes }

-- a tenant's part with bytes written into its map m
abbrev pub part_written : TenantPart → ℕ → ℕ → List ℕ → TenantPart
part_written owned m at bytes = record owned { maps = slice_set owned.maps m (option_map (map_written at bytes) (map_at owned.maps m)) }

-- a tenant's part with a new map m of zeros
abbrev pub part_created : TenantPart → ℕ → Shape → TenantPart
part_created owned m shape = record owned { maps = slice_set owned.maps m (Some (zero_map shape)) }

-- how many pages a tenant's map has; none where there is no such map
abbrev pub pages_of_map : TenantPart → ℕ → ℕ
pages_of_map owned m = unwrap_or (option_map (λ (flat : FlatMap). page_count flat.shape) (map_at owned.maps m)) 0

-- a tenant's part with another number of frames reserved for its open run
abbrev pub with_reserve : ℕ → TenantPart → TenantPart
with_reserve reserve owned = record owned { reserve = reserve }

-- a tenant's part with other pins
abbrev pub with_pins : List Bool → TenantPart → TenantPart
with_pins pins owned = record owned { pins = pins }

-- a tenant's part with a run open, for which frames are reserved
abbrev pub with_run : ℕ → TenantPart → TenantPart
with_run reserve owned = record owned { reserve = reserve; running = true }

-- a tenant's part without an open run: no frame is reserved, and none of its pages is pinned
abbrev pub without_run : TenantPart → TenantPart
without_run owned = record owned { reserve = 0; running = false; pins = replicate 2048 false }

-- the memory with another number of frames recorded as reserved for a tenant's open run, and nothing else
abbrev pub with_record : MemoryState → ℕ → ℕ → MemoryState
with_record memory tenant reserve =
    record memory { tenants = slice_set memory.tenants tenant (record (tenant_at memory tenant) { reserve = reserve }) }

-- the memory with a tenant's run open, so many frames reserved for it, and nothing else
abbrev pub opened : MemoryState → ℕ → ℕ → MemoryState
opened memory tenant reserve =
    record memory { tenants = slice_set memory.tenants tenant (record { reserve = reserve; running = true }) }

-- the memory with a tenant's run ended: no frame is reserved for it, and its pages aren't pinned
abbrev pub ended : MemoryState → ℕ → MemoryState
ended memory tenant =
    record memory { tenants = slice_set memory.tenants tenant unreserved_tenant; sharing = released memory.sharing tenant }

-- every other tenant's part stays
abbrev pub OtherTenantsUnchanged : ℕ → MemoryState → MemoryState → Type 0
OtherTenantsUnchanged tenant old new = (t : ℕ) → t ≢ tenant → part new t ≡ part old t

-- every tenant's part stays
abbrev pub AreKept : MemoryState → MemoryState → Type 0
AreKept old new = (t : ℕ) → part new t ≡ part old t

-- every other map of a tenant stays
abbrev pub AreMapsKeptBut : ℕ → TenantPart → TenantPart → Type 0
AreMapsKeptBut number old new = (m : ℕ) → m ≢ number → map_at new.maps m ≡ map_at old.maps m

-- there are as many frames as before, and what is recorded of the tenants stays
pub record KeepsSettings (old new : MemoryState) : Type 0 where
  pub tenants : new.tenants ≡ old.tenants
  pub frames : length new.arena ≡ length old.arena

-- the page is there
abbrev pub IsPageOf : MemoryState → Page → Type 0
IsPageOf memory page = page.number * 4096 < length (bytes_of_map memory page)

-- the page has a frame of its own
abbrev pub IsOwn : MemoryState → Page → Type 0
IsOwn memory page = IfSome (state_at memory.sharing (page_index_of page)) (λ state. is_shared state.status ≡ false)

-- the page is mergeable, and has a frame of its own; it may be pinned
abbrev pub MayChange : MemoryState → Page → Type 0
MayChange memory page =
    IfSome (state_at memory.sharing (page_index_of page)) (λ state. (state.mergeable ≡ true) × (is_shared state.status ≡ false))

-- the page may be merged, has a frame of its own, and isn't pinned
abbrev pub MayMerge : MemoryState → Page → Type 0
MayMerge memory page = MayChange memory page × (is_pinned memory.sharing.pins (page_index_of page) ≡ false)

-- the page is not on the waiting list
abbrev pub IsNotWaiting : MemoryState → Page → Type 0
IsNotWaiting memory page = is_waiting memory.sharing (page_index_of page) ≡ false

-- the page had this fingerprint at its last visit
abbrev pub HadFingerprint : MemoryState → Page → ℕ → Type 0
HadFingerprint memory page fingerprint =
    IfSome (state_at memory.sharing (page_index_of page)) (λ state. state.last ≡ Some fingerprint)

-- the bytes of the page at each index
abbrev pub contents_now : MemoryState → Contents
contents_now memory = contents_in memory.maps

-- the frame of a group's pages, which is that of its first one
abbrev pub frame_of_group : MemoryState → Option (List ℕ) → Option ℕ
frame_of_group memory None = None
frame_of_group memory (Some []) = None
frame_of_group memory (Some (i ∷ page_indices)) = frame_at memory i

-- the frame of the earliest group that is open to a page
abbrev pub open_frame : MemoryState → ℕ → Option ℕ
open_frame memory i =
    frame_of_group memory (find (is_open (contents_now memory) memory.sharing (contents_now memory i)) memory.sharing.groups)

-- the earliest page that waits for the page's bytes, by its index
abbrev pub partner_index : MemoryState → ℕ → ℕ → Option ℕ
partner_index memory i fingerprint =
    option_map (λ (entry : ℕ × ℕ). entry.0) (find_partner (contents_now memory) memory.sharing i fingerprint)

-- the pages of a new map, which were never visited
unfoldable pub with_new_pages : Sharing → ℕ → ℕ → Bool → Sharing
with_new_pages sharing page_index count mergeable =
    record sharing { pages = with_part sharing.pages page_index (replicate count (Some (new_page mergeable))) }

-- A map of zeros was made for a tenant, at the number m. Its pages were never visited, and may be merged or not; nothing
-- else changed of which pages share frames, nor another map, another tenant's part or a setting.
pub record HasMap (tenant m : ℕ) (shape : Shape) (mergeable : Bool) (old new : MemoryState) : Type 0 where
  pub created : part new tenant ≡ part_created (part old tenant) m shape
  pub there : map_at (part new tenant).maps m ≡ Some (zero_map shape)
  pub other_maps : AreMapsKeptBut m (part old tenant) (part new tenant)
  pub others : OtherTenantsUnchanged tenant old new
  pub sharing : new.sharing ≡ with_new_pages old.sharing (map_index_of tenant m * 256) (page_count shape) mergeable
  pub free : free_of new + page_count shape ≡ free_of old
  pub have : have_of new + page_count shape ≡ have_of old
  pub settings : KeepsSettings old new

-- what has to hold for a new map: the tenant has a free number, the shape is within the limits, and there are frames
pub record FitsMap (memory : MemoryState) (tenant : ℕ) (shape : Shape) : Type 0 where
  pub numbered : IsSome (free_number (part memory tenant))
  pub shaped : IsShape shape
  pub framed : page_count shape ≤ have_of memory

-- when a new map is refused: the first refusal, in this order, whose condition holds
abbrev pub RefusesMap : MemoryState → ℕ → Shape → Fault → Type 0
RefusesMap memory tenant shape BadTenant = length memory.tenants ≤ tenant
RefusesMap memory tenant shape TooManyMaps =
    (tenant < length memory.tenants) × IsNone (free_number (part memory tenant))
RefusesMap memory tenant shape BadShape = IsSome (free_number (part memory tenant)) × ¬ (IsShape shape)
RefusesMap memory tenant shape (NoFrames need have) =
    IsSome (free_number (part memory tenant)) × IsShape shape × (need ≡ page_count shape) × (have ≡ have_of memory) × (have < need)
RefusesMap memory tenant shape _ = ⊥

-- when a map isn't dropped: the first refusal, in this order, whose condition holds
abbrev pub RefusesDrop : MemoryState → ℕ → ℕ → Fault → Type 0
RefusesDrop memory tenant m BadTenant = length memory.tenants ≤ tenant
RefusesDrop memory tenant m NoMap = (tenant < length memory.tenants) × IsNone (map_at (part memory tenant).maps m)
RefusesDrop memory tenant m _ = ⊥

-- when a new memory is refused: the first refusal, in this order, whose condition holds
abbrev pub RefusesMemory : ℕ → ℕ → Options → Fault → Type 0
RefusesMemory frames tenants options BadShape = ¬ (AreLimits frames tenants)
RefusesMemory frames tenants options BadOption = AreLimits frames tenants × ¬ (AreOptions options)
RefusesMemory frames tenants options OutOfMemory = AreLimits frames tenants × AreOptions options
RefusesMemory frames tenants options _ = ⊥
