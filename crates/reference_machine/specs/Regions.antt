-- Reads and writes in the three kinds of regions.
use Rattle.std.specs.Prelude.{ℕ, ◌+◌, ◌<◌, ◌≤◌, nat_le, if◌then◌else◌, length, map, slice_set, option_map, Option, Some, None}
use Rattle.host_types.specs.Bytes.{number_of, bytes_of, part_of, with_part}
use Rattle.host_types.specs.Layout.{stack_size, region_size}
use Rattle.host_types.specs.Memory.{FlatMap, FlatMemory, ◌>>=◌, only_if, all_set, map_at, is_in_value}

-- a location in a region, and as many bytes as a number has at most
pub record IsLocation (at size : ℕ) : Type 0 where
  pub near : at < region_size
  pub small : size ≤ 8

-- the number of bytes of the context
abbrev pub number_in_context : FlatMemory → ℕ → ℕ → Option ℕ
number_in_context memory at size =
    only_if (nat_le (at + size) (length memory.context)) (number_of (part_of memory.context at size))

-- the number of bytes of the stack, if each of them is set
abbrev pub number_in_stack : FlatMemory → ℕ → ℕ → Option ℕ
number_in_stack memory at size =
    if nat_le (at + size) stack_size then option_map number_of (all_set (part_of memory.stack at size)) else None

-- the number of bytes of a map, if they lie whole in the value of one element
abbrev pub number_in_map : FlatMemory → ℕ → ℕ → ℕ → Option ℕ
number_in_map memory m at size =
    map_at memory.maps m >>= λ flat. only_if (is_in_value flat.shape at size) (number_of (part_of flat.bytes at size))

-- the memory with a number written as `size` bytes of the stack
abbrev pub with_number_in_stack : FlatMemory → ℕ → ℕ → ℕ → Option FlatMemory
with_number_in_stack memory at size number =
    only_if (nat_le (at + size) stack_size) (record memory { stack = with_part memory.stack at (map Some (bytes_of size number)) })

-- the map with a number written as `size` of its bytes
abbrev pub map_with_number : FlatMap → ℕ → ℕ → ℕ → FlatMap
map_with_number flat at size number = record flat { bytes = with_part flat.bytes at (bytes_of size number) }

-- the memory with a number written as `size` bytes of a map, if they lie whole in the value of one element
abbrev pub with_number_in_map : FlatMemory → ℕ → ℕ → ℕ → ℕ → Option FlatMemory
with_number_in_map memory m at size number =
    map_at memory.maps m >>= λ flat.
    only_if (is_in_value flat.shape at size) (record memory { maps = slice_set memory.maps m (Some (map_with_number flat at size number)) })

-- the memory with a number written as `size` bytes of a map that is there
abbrev pub with_number_put : FlatMemory → ℕ → ℕ → ℕ → ℕ → FlatMemory
with_number_put memory m at size number =
    record memory { maps = slice_set memory.maps m (option_map (λ flat. map_with_number flat at size number) (map_at memory.maps m)) }
