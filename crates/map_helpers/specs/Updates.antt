-- What an update by a helper does to a memory, beside what it does to the tenant's maps.
use Rattle.std.specs.Prelude.{◌≡◌, ℕ, ◌+◌, ◌≤◌, ◌==◌, if◌then◌else◌, Bool, List, Option, Some, None, IfSome, IsSomeAnd}
use Rattle.host_types.specs.declared.shape.Shape.{Shape}
use Rattle.host_types.specs.Helpers.{element_at, update_answer, maps_updated}
use Rattle.host_types.specs.Memory.{FlatMap, FlatMemory, InMap, map_at, location_of}
use Rattle.host_types.specs.Sharing.{Sharing}
use Rattle.host_types.specs.Tenant.{TenantPart}
use Rattle.write_break.specs.Stores.{stored_sharing, store_frames}

-- a tenant's part after an update of its map m
abbrev pub part_updated : TenantPart → ℕ → ℕ → List ℕ → ℕ → TenantPart
part_updated owned m key value flags = record owned { maps = maps_updated owned.maps m key value flags }

-- how many frames an update of a tenant's map takes: those of the store that it makes, if it makes one
unfoldable pub cost_in : Option FlatMap → Sharing → ℕ → ℕ → ℕ → ℕ → ℕ
cost_in None sharing tenant m key flags = 0
cost_in (Some flat) sharing tenant m key flags =
    if update_answer flat.shape key flags == 0
    then store_frames sharing tenant m (element_at flat.shape key) flat.shape.value_size
    else 0

abbrev pub update_frames : TenantPart → Sharing → ℕ → ℕ → ℕ → ℕ → ℕ
update_frames owned sharing tenant m key flags = cost_in (map_at owned.maps m) sharing tenant m key flags

-- which pages share frames after an update: the pages of its store are broken, if it makes one, and pinned, if that is asked
unfoldable pub sharing_in : Option FlatMap → Bool → Sharing → ℕ → ℕ → ℕ → ℕ → Sharing
sharing_in None is_pinned sharing tenant m key flags = sharing
sharing_in (Some flat) is_pinned sharing tenant m key flags =
    if update_answer flat.shape key flags == 0
    then stored_sharing is_pinned sharing tenant m (element_at flat.shape key) flat.shape.value_size
    else sharing

abbrev pub updated_sharing_as : Bool → TenantPart → Sharing → ℕ → ℕ → ℕ → ℕ → Sharing
updated_sharing_as is_pinned owned sharing tenant m key flags = sharing_in (map_at owned.maps m) is_pinned sharing tenant m key flags

-- the same for an update that pins where the tenant has an open run
abbrev pub updated_sharing : TenantPart → Sharing → ℕ → ℕ → ℕ → ℕ → Sharing
updated_sharing owned sharing tenant m key flags = updated_sharing_as owned.running owned sharing tenant m key flags

-- An update of a map of this shape, where there is one, takes so many frames at most, whichever pages
-- share frames.
abbrev pub IsEnough : Shape → ℕ → Type 0
IsEnough shape frames =
    (owned : TenantPart) (sharing : Sharing) (tenant m key flags : ℕ)
    → IfSome (map_at owned.maps m) (λ flat. flat.shape ≡ shape) → update_frames owned sharing tenant m key flags ≤ frames

-- Bytes of an element's value are found at their distance from the address: in each flat memory that has
-- a map m of this shape, they are those of the element.
abbrev pub LeadsToElement : Shape → ℕ → ℕ → ℕ → Type 0
LeadsToElement shape m key address =
    (memory : FlatMemory) (at size : ℕ)
    → IsSomeAnd (map_at memory.maps m) (λ flat. flat.shape ≡ shape)
    → 1 ≤ size → at + size ≤ shape.value_size
    → location_of memory (address + at) size ≡ Some (InMap m (element_at shape key + at))
