-- The shapes of a tenant's maps by number, as they are read one after another.
use Rattle.std.proofs.Common.{◌≡◌, ◌<◌, ◌+◌, inl, inr, ℕ, List, length, set, get_or, Option, Some, None, IfSome, subst, sym, ◌∙◌, arith}
use Rattle.std.specs.Option.{option_map}
use Rattle.std.proofs.Math.ListN.{get_or-map}
use Rattle.std.proofs.lemmas.Bool.Decides.{eqb_tells}
use Rattle.std.proofs.lemmas.List.{get_or_default, ext_get_or, length-map, length-set, get_or-set_same, get_or-set_other}
use Rattle.std.proofs.lemmas.List.Elements.{All-map}
use Rattle.host_types.specs.declared.shape.Shape.{Shape}
use Rattle.host_types.specs.Memory.{FlatMap, FlatMaps, map_at}
use Rattle.host_types.specs.Shapes.{IsShape}
use Rattle.host_types.specs.Tenant.{AreFlatMaps, IsFlatMap}
use Rattle.verifier.specs.Verified.{AreShapes}
use Rattle.host_calls.specs.Programs.{shapes_of}

-- eight shapes, of which the first are those of the tenant's maps
abbrev pub AreRead : List (Option Shape) → FlatMaps → ℕ → Type 0
AreRead shapes maps n = (length shapes ≡ 8) × ((m : ℕ) → m < n → get_or shapes m None ≡ get_or (shapes_of maps) m None)

-- the shape of the map with a number stands there
pub shape_of_map : (maps : FlatMaps) (m : ℕ) → get_or (shapes_of maps) m None ≡ option_map (λ (flat : FlatMap). flat.shape) (map_at maps m)
shape_of_map maps m = get_or-map (option_map (λ (flat : FlatMap). flat.shape)) maps m None

-- one more
pub read_more : (shapes : List (Option Shape)) (maps : FlatMaps) (n : ℕ) (shape : Option Shape) → n < 8 → shape ≡ option_map (λ (flat : FlatMap). flat.shape) (map_at maps n)
    → AreRead shapes maps n → AreRead (set shapes n shape) maps (n + 1)
read_more shapes maps n shape within is (eight, read) = (length-set shapes n shape ∙ eight, more)
  where
    more : (m : ℕ) → m < n + 1 → get_or (set shapes n shape) m None ≡ get_or (shapes_of maps) m None
    more m less = elim (eqb_tells m n) [
      | inl same ↦ rw same.1 (get_or-set_same shapes n shape None (omega (arith, within, eight)) ∙ is ∙ sym (shape_of_map maps n))
      | inr other ↦ get_or-set_other shapes n m shape None other.1 ∙ read m (omega (arith, less, other.1))
    ]

-- all eight
pub all_read : (shapes : List (Option Shape)) (maps : FlatMaps) → length maps ≡ 8 → AreRead shapes maps 8 → shapes ≡ shapes_of maps
all_read shapes maps there (eight, read) =
    ext_get_or None shapes (shapes_of maps) (eight ∙ sym there ∙ sym (length-map maps (option_map (λ (flat : FlatMap). flat.shape)))) (λ m less. read m (omega (arith, less, eight)))

-- they are within the limits
pub shapes_valid : (maps : FlatMaps) → AreFlatMaps maps → AreShapes (shapes_of maps)
shapes_valid maps flat =
    let sized = length-map maps (option_map (λ (flat : FlatMap). flat.shape)) in
    let eight = flat.eight in
    record {
      few = omega (arith, sized, eight);
      each = All-map (λ shape. IfSome shape IsShape) (option_map (λ (flat : FlatMap). flat.shape)) maps (λ m d less. valid (get_or maps m d) (subst (λ found. IfSome found IsFlatMap) (get_or_default maps m None d less) (flat.each m)));
    }
  where
    valid : (found : Option FlatMap) → IfSome found IsFlatMap → IfSome (option_map (λ (flat : FlatMap). flat.shape) found) IsShape
    valid None h = tt
    valid (Some flat) h = h.shape
