-- Shapes of array maps (this project's own limits).
use Rattle.std.specs.Prelude.{ℕ, ◌+◌, ◌*◌, ◌/◌, ◌≤◌}
use Rattle.host_types.specs.declared.shape.Shape.{Shape}

-- the distance of two elements: the value's size, rounded up to a multiple of 8
abbrev pub stride_of : Shape → ℕ
stride_of shape = (shape.value_size + 7) / 8 * 8

-- the bytes of a map
abbrev pub byte_len_of : Shape → ℕ
byte_len_of shape = stride_of shape * shape.entries

-- the shape that a map may have; 1048576 bytes are 256 pages
pub record IsShape (shape : Shape) : Type 0 where
  pub sized : 1 ≤ shape.value_size
  pub small : shape.value_size ≤ 4096
  pub counted : 1 ≤ shape.entries
  pub few : shape.entries ≤ 65536
  pub paged : byte_len_of shape ≤ 1048576
