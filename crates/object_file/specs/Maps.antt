-- The maps of an object file.
use Rattle.std.specs.Prelude.{◌≡◌, ℕ, ◌≤◌, ◌⊎◌, List, length, All, []}
use Rattle.host_types.specs.Shapes.{IsShape}
use Rattle.object_file.specs.declared.map.Map.{Map}

-- a map that this host can have, whose first bytes are those of one value, or none
pub record IsMap (map : Map) : Type 0 where
  pub shape : IsShape map.shape
  pub first : (map.first.items ≡ []) ⊎ (length map.first.items ≡ map.shape.value_size)

-- at most eight of them, as a tenant has
pub record AreShapedMaps (maps : List Map) : Type 0 where
  pub few : length maps ≤ 8
  pub each : All IsMap maps
