-- Locations that aren't a helper's to read.
use Rattle.std.proofs.Common.{◌≡◌, ℕ, Bool, true, false, Option, Some, None, refl}
use Rattle.host_types.specs.Memory.{FlatMap, FlatMaps, InMap, map_at, location_in_map, is_in_value, only_if, ◌>>=◌}
use Rattle.interp.specs.Machine.{own_location}

-- no location in a map is one
pub not_own : (maps : FlatMaps) (m at size : ℕ) → (location_in_map maps m at size >>= own_location) ≡ None
not_own maps m at size = by_map (map_at maps m)
  where
    by_test : (test : Bool) → (only_if test (InMap m at) >>= own_location) ≡ None
    by_test true = refl
    by_test false = refl

    by_map : (o : Option FlatMap) → ((o >>= λ flat. only_if (is_in_value flat.shape at size) (InMap m at)) >>= own_location) ≡ None
    by_map None = refl
    by_map (Some flat) = by_test (is_in_value flat.shape at size)
