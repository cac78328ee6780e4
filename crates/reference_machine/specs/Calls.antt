-- What a helper reads and leaves.
use Rattle.std.specs.Prelude.{ℕ, ◌+◌, ◌%◌, ◌<◌, ◌==◌, nat_le, if◌then◌else◌, List, length, Option, Some, None, IsSome}
use Rattle.host_types.specs.declared.helper.MapHelper.{MapHelper}
use Rattle.host_types.specs.Bytes.{number_of, part_of}
use Rattle.host_types.specs.Helpers.{helper, update_answer, maps_updated}
use Rattle.host_types.specs.Layout.{stack_size, region_size}
use Rattle.host_types.specs.Memory.{FlatMemory, FlatMaps, ◌>>=◌, only_if, all_set, map_at}
use Rattle.interp.specs.Machine.{MachineState, argument_at, value_arguments}

-- the key at an address
abbrev pub key_at : FlatMemory → ℕ → Option ℕ
key_at memory address =
    (if address % 4 == 0 then argument_at memory address 4 else None) >>= λ bytes. Some (number_of bytes)

-- a location in a region, for a map that is there
pub record IsUpdate (maps : FlatMaps) (m at : ℕ) : Type 0 where
  pub near : at < region_size
  pub there : IsSome (map_at maps m)

-- an update of a map by a value: its answer, and the memory afterwards
abbrev pub updated_by : FlatMemory → ℕ → ℕ → ℕ → List ℕ → Option (ℕ × FlatMemory)
updated_by memory m key flags value =
    map_at memory.maps m >>= λ flat.
    Some (update_answer flat.shape key flags, record memory { maps = maps_updated memory.maps m key value flags })

-- the same by the value at an address, if it is there
abbrev pub updated_from : FlatMemory → ℕ → ℕ → ℕ → ℕ → Option (ℕ × FlatMemory)
updated_from memory m key address flags =
    map_at memory.maps m >>= λ flat.
    argument_at memory address flat.shape.value_size >>= updated_by memory m key flags

-- the same by the value at a location of the context
abbrev pub updated_from_context : FlatMemory → ℕ → ℕ → ℕ → ℕ → Option (ℕ × FlatMemory)
updated_from_context memory m key at flags =
    map_at memory.maps m >>= λ flat.
    only_if (nat_le (at + flat.shape.value_size) (length memory.context)) (part_of memory.context at flat.shape.value_size)
    >>= updated_by memory m key flags

-- the same by the value at a location of the stack, if each of its bytes is set
abbrev pub updated_from_stack : FlatMemory → ℕ → ℕ → ℕ → ℕ → Option (ℕ × FlatMemory)
updated_from_stack memory m key at flags =
    map_at memory.maps m >>= λ flat.
    (if nat_le (at + flat.shape.value_size) stack_size then all_set (part_of memory.stack at flat.shape.value_size) else None)
    >>= updated_by memory m key flags

-- what a helper answers in a state, and the maps afterwards
abbrev pub helper_answer : MapHelper → MachineState → ℕ → ℕ → Option (ℕ × FlatMaps)
helper_answer asked s m key =
    value_arguments asked s m >>= λ arguments. helper asked s.memory.maps m key arguments.0 arguments.1
