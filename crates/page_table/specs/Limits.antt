-- How large a memory may be (this project's own limits).
use Rattle.std.specs.Prelude.{ℕ, ◌+◌, ◌/◌, ◌≤◌}
use Rattle.host_types.specs.declared.shape.Shape.{Shape}
use Rattle.host_types.specs.Shapes.{byte_len_of}

-- a memory's frames and tenants
pub record AreLimits (frames tenants : ℕ) : Type 0 where
  pub two_frames : 2 ≤ frames
  pub few_frames : frames ≤ 4096
  pub one_tenant : 1 ≤ tenants
  pub few_tenants : tenants ≤ 16

-- the pages of 4096 bytes that a map needs
abbrev pub page_count : Shape → ℕ
page_count shape = (byte_len_of shape + 4095) / 4096

-- the shape of a map by its two numbers
abbrev pub shape_of : ℕ → ℕ → Shape
shape_of value_size entries = record { value_size = value_size; entries = entries }
