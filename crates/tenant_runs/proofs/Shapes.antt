-- Whether a tenant has the maps that a program names.
use Rattle.std.proofs.Common.{◌≡◌, ◌<◌, ◌+◌, inl, inr, ℕ, List, length, slice_index_or, Option, None, IfSome, IsSomeAnd, arith}
use Rattle.std.proofs.lemmas.Bool.{cases_lt}
use Rattle.std.proofs.lemmas.List.{get_or_past}
use Rattle.host_types.specs.declared.shape.Shape.{Shape}
use Rattle.host_types.specs.Memory.{FlatMap, FlatMaps, map_at}
use Rattle.interp.specs.Fits.{HaveShapes}

-- the tenant's map with a number has the shape that a list has there, if it has one
abbrev pub HasShapeAt : List (Option Shape) → FlatMaps → ℕ → Type 0
HasShapeAt shapes maps m = IfSome (slice_index_or shapes m None) (λ shape. IsSomeAnd (map_at maps m) (λ (flat : FlatMap). flat.shape ≡ shape))

-- so for the first numbers
abbrev pub HaveFirst : List (Option Shape) → FlatMaps → ℕ → Type 0
HaveFirst shapes maps n = (m : ℕ) → m < n → HasShapeAt shapes maps m

-- one more
pub have_more : (shapes : List (Option Shape)) (maps : FlatMaps) (n : ℕ) → HaveFirst shapes maps n → HasShapeAt shapes maps n → HaveFirst shapes maps (n + 1)
have_more shapes maps n first one m less = elim (cases_lt m n) [
  | inl before ↦ first m before
  | inr past ↦ let same : m ≡ n = omega (arith, less, past) in rw same one
]

-- all eight
pub have_all : (shapes : List (Option Shape)) (maps : FlatMaps) → length shapes ≡ 8 → HaveFirst shapes maps 8 → HaveShapes shapes maps
have_all shapes maps eight first m = elim (cases_lt m 8) [
  | inl less ↦ first m less
  | inr past ↦ rw (get_or_past shapes m None (omega (arith, past, eight))) tt
]
