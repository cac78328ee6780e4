-- What belongs to one tenant.
use Rattle.std.specs.Prelude.{◌≡◌, ℕ, ◌*◌, ◌<◌, Bool, false, List, length, replicate, slice_set, All, None, IfSome}
use Rattle.host_types.specs.Bytes.{with_part}
use Rattle.host_types.specs.Memory.{FlatMap, FlatMaps, map_at}
use Rattle.host_types.specs.Shapes.{IsShape, byte_len_of}

-- A tenant's part: its maps by number; how many frames are reserved for its open run, and whether it has one; and for each
-- of its 2048 indices whether the page there is pinned.
pub record TenantPart : Type 0 where
  pub maps : FlatMaps
  pub reserve : ℕ
  pub running : Bool
  pub pins : List Bool

-- a tenant's part without its map m
abbrev pub part_dropped : TenantPart → ℕ → TenantPart
part_dropped owned m =
    record owned { maps = slice_set owned.maps m None; pins = with_part owned.pins (m * 256) (replicate 256 false) }

-- a map of a shape within the limits, with as many bytes as the shape says
pub record IsFlatMap (flat : FlatMap) : Type 0 where
  pub shape : IsShape flat.shape
  pub sized : length flat.bytes ≡ byte_len_of flat.shape
  pub bytes : All (λ byte. byte < 256) flat.bytes

-- eight maps, each there or not
pub record AreFlatMaps (maps : FlatMaps) : Type 0 where
  pub eight : length maps ≡ 8
  pub each : (m : ℕ) → IfSome (map_at maps m) IsFlatMap
