-- When the host's calls on a tenant's maps are refused, and what a lookup answers: over the tenant's part
-- alone, so that an event of a host and a turn of a worker mean the same.
use Rattle.std.specs.Prelude.{◌≡◌, ◌⊎◌, ℕ, ◌<◌, ◌≤◌, nat_le, nat_lt, ◌==◌, ◌&&◌, Bool, not, if◌then◌else◌, List, [], ◌∷◌, length, Option, Some, None, is_none, IsSome, IsSomeAnd}
use Rattle.host_types.specs.declared.fault.Fault.{Fault}
use Rattle.host_types.specs.declared.fault.Fault.TheVariants.{NoFrames, TooManyMaps, BadShape, NoMap, NoElement, OutOfMemory, BadTenant}
use Rattle.host_types.specs.declared.shape.Shape.{Shape}
use Rattle.host_types.specs.Bytes.{part_of}
use Rattle.host_types.specs.Helpers.{element_at, update_charge}
use Rattle.host_types.specs.Memory.{FlatMap, map_at}
use Rattle.host_types.specs.Shapes.{IsShape, byte_len_of}
use Rattle.host_types.specs.Tenant.{TenantPart}
use Rattle.page_table.specs.Limits.{page_count}
use Rattle.page_table.specs.State.{MemoryState, part, free_number, have_of}

-- the tenant is there: it has its eight entries for maps
abbrev pub IsThere : TenantPart → Type 0
IsThere owned = length owned.maps ≡ 8

-- the value has the size of the map's values, and the map has the element
abbrev pub FitsValue : TenantPart → ℕ → ℕ → List ℕ → Type 0
FitsValue owned m key value = IsSomeAnd (map_at owned.maps m) (λ flat. (key < flat.shape.entries) × (length value ≡ flat.shape.value_size))

-- so many frames are there as are charged for an update of the map
abbrev pub IsCharged : TenantPart → ℕ → ℕ → Type 0
IsCharged owned m have = IsSomeAnd (map_at owned.maps m) (λ flat. update_charge flat.shape ≤ have)

-- the bytes are those of the element's value
abbrev pub IsValue : TenantPart → ℕ → ℕ → List ℕ → Type 0
IsValue owned m key bytes =
    IsSomeAnd (map_at owned.maps m) (λ flat. (key < flat.shape.entries) × (bytes ≡ part_of flat.bytes (element_at flat.shape key) flat.shape.value_size))

-- An element's value is so long, and it is in the bytes where they have its length; else they are as they were.
abbrev pub IsValueIn : TenantPart → ℕ → ℕ → ℕ → List ℕ → List ℕ → Type 0
IsValueIn owned m key size old new =
    (value : List ℕ) × IsValue owned m key value × (size ≡ length value) × (new ≡ (if length value == length old then value else old))

-- the tenant has a number for a new map, and the shape is within the limits
pub record FitsNewMap (owned : TenantPart) (shape : Shape) : Type 0 where
  pub numbered : IsSome (free_number owned)
  pub shaped : IsShape shape

-- the first refusal whose condition holds
abbrev pub first_refusal : List (Bool × Fault) → Option Fault
first_refusal [] = None
first_refusal (condition ∷ conditions) = if condition.0 then Some condition.1 else first_refusal conditions

-- the shape is within the limits
abbrev pub is_shape : Shape → Bool
is_shape shape =
    nat_le 1 shape.value_size && nat_le shape.value_size 4096 && nat_le 1 shape.entries && nat_le shape.entries 65536
    && nat_le (byte_len_of shape) 1048576

-- what is refused of a new map for a tenant that is there, where so many frames may be had
abbrev pub new_map_refusal : TenantPart → Shape → ℕ → Option Fault
new_map_refusal owned shape have = first_refusal (
    (is_none (free_number owned), TooManyMaps)
    ∷ (not (is_shape shape), BadShape)
    ∷ (nat_lt have (page_count shape), NoFrames (page_count shape) have) ∷ [])

-- what is refused of a lookup in what may be a map
abbrev pub lookup_refusal_in : Option FlatMap → ℕ → Option Fault
lookup_refusal_in None key = Some NoMap
lookup_refusal_in (Some flat) key = first_refusal ((nat_le flat.shape.entries key, NoElement) ∷ [])

-- what is refused of a lookup in a map of a tenant that is there
abbrev pub lookup_refusal : TenantPart → ℕ → ℕ → Option Fault
lookup_refusal owned m key = lookup_refusal_in (map_at owned.maps m) key

-- what is refused of an update of what may be a map
abbrev pub update_refusal_in : Option FlatMap → ℕ → List ℕ → ℕ → Option Fault
update_refusal_in None key value have = Some NoMap
update_refusal_in (Some flat) key value have = first_refusal (
    (nat_le flat.shape.entries key, NoElement)
    ∷ (not (length value == flat.shape.value_size), BadShape)
    ∷ (nat_lt have (update_charge flat.shape), NoFrames (update_charge flat.shape) have) ∷ [])

-- what is refused of an update of a map of a tenant that is there, where so many frames may be had
abbrev pub update_refusal : TenantPart → ℕ → ℕ → List ℕ → ℕ → Option Fault
update_refusal owned m key value have = update_refusal_in (map_at owned.maps m) key value have

-- the first refusal of what is asked for a tenant, which may not be there
abbrev pub or_bad_tenant : TenantPart → Option Fault → Option Fault
or_bad_tenant owned refusal = if length owned.maps == 8 then refusal else Some BadTenant

-- what a memory refuses of a new map, of a lookup and of an update
abbrev pub refused_new_map : MemoryState → ℕ → Shape → Option Fault
refused_new_map memory tenant shape = or_bad_tenant (part memory tenant) (new_map_refusal (part memory tenant) shape (have_of memory))

abbrev pub refused_lookup : MemoryState → ℕ → ℕ → ℕ → Option Fault
refused_lookup memory tenant m key = or_bad_tenant (part memory tenant) (lookup_refusal (part memory tenant) m key)

abbrev pub refused_update : MemoryState → ℕ → ℕ → ℕ → List ℕ → Option Fault
refused_update memory tenant m key value =
    or_bad_tenant (part memory tenant) (update_refusal (part memory tenant) m key value (have_of memory))

-- The same over the tenant's part alone. The frames that may be had aren't known there: for those that a refusal names, or
-- for any, it is the first one.
abbrev pub RefusesNewMap : TenantPart → Shape → Fault → Type 0
RefusesNewMap owned shape fault = (have : ℕ) × (or_bad_tenant owned (new_map_refusal owned shape have) ≡ Some fault)

abbrev pub RefusesUpdate : TenantPart → ℕ → ℕ → List ℕ → Fault → Type 0
RefusesUpdate owned m key value fault = (have : ℕ) × (or_bad_tenant owned (update_refusal owned m key value have) ≡ Some fault)

-- a lookup is refused, or memory ran out for one that isn't
abbrev pub RefusesLookup : TenantPart → ℕ → ℕ → Fault → Type 0
RefusesLookup owned m key fault =
    (or_bad_tenant owned (lookup_refusal owned m key) ≡ Some fault)
    ⊎ ((fault ≡ OutOfMemory) × (or_bad_tenant owned (lookup_refusal owned m key) ≡ None))

-- where frames are missing, the refusal names the frames that may be had
abbrev pub NamesHave : MemoryState → Fault → Type 0
NamesHave memory (NoFrames need have) = have ≡ have_of memory
NamesHave memory _ = Unit {0}
