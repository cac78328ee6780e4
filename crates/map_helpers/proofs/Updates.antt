-- What an update does, by whether it is refused.
use Rattle.std.proofs.Common.{◌≡◌, ◌∙◌, ℕ, ◌==◌, ◌≤◌, Bool, true, false, List, slice_set, Option, Some, None, option_map, IfSome, IsSomeAnd, refl, sym, ap, subst, arith}
use Rattle.std.proofs.lemmas.List.{set-get_or}
use Rattle.host_types.specs.declared.shape.Shape.{Shape}
use Rattle.host_types.specs.declared.helper.MapHelper.TheVariants.{Update}
use Rattle.host_types.specs.Helpers.{helper, element_at, update_answer, update_charge, map_updated, maps_updated}
use Rattle.host_types.specs.Memory.{FlatMap, FlatMaps, map_at}
use Rattle.host_types.specs.Shapes.{IsShape}
use Rattle.host_types.specs.Sharing.{Sharing}
use Rattle.host_types.specs.Tenant.{IsFlatMap}
use Rattle.page_table.specs.Changes.{map_written}
use Rattle.write_break.specs.Stores.{store_frames, stored_sharing}
use Rattle.map_helpers.specs.Updates.{cost_in, sharing_in, IsEnough}
use Rattle.map_helpers.proofs.Charges.{cost-charged}

-- the shape of what may be a map
abbrev pub shape_in : Option FlatMap → Option Shape
shape_in found = option_map (λ (flat : FlatMap). flat.shape) found

module _ (shape : Shape) (key : ℕ) (value : List ℕ) (flags : ℕ) where
  pub helped : (maps : FlatMaps) (m : ℕ) → shape_in (map_at maps m) ≡ Some shape
      → helper Update maps m key value flags ≡ Some (update_answer shape key flags, maps_updated maps m key value flags)
  unfolding helper
  helped maps m there = by_map (map_at maps m) refl there
    where
      by_map : (found : Option FlatMap) → map_at maps m ≡ found → shape_in found ≡ Some shape
          → helper Update maps m key value flags ≡ Some (update_answer shape key flags, maps_updated maps m key value flags)
      by_map None e is = absurd (cc)
      by_map (Some flat) e is = let same : flat.shape ≡ shape = cc in rw (e, same) refl

  -- an update that is refused leaves the maps
  pub maps-refused : (maps : FlatMaps) (m : ℕ) → shape_in (map_at maps m) ≡ Some shape → (update_answer shape key flags == 0) ≡ false → maps_updated maps m key value flags ≡ maps
  unfolding maps_updated map_updated
  maps-refused maps m there refused = ap (slice_set maps m) (kept (map_at maps m) there) ∙ set-get_or maps m None
    where
      kept : (found : Option FlatMap) → shape_in found ≡ Some shape → option_map (map_updated key value flags) found ≡ found
      kept None is = refl
      kept (Some flat) is = let same : flat.shape ≡ shape = cc in rw (same, refused) refl

  -- an update that isn't refused writes the value
  pub maps-written : (maps : FlatMaps) (m : ℕ) → shape_in (map_at maps m) ≡ Some shape → (update_answer shape key flags == 0) ≡ true
      → slice_set maps m (option_map (map_written (element_at shape key) value) (map_at maps m)) ≡ maps_updated maps m key value flags
  unfolding maps_updated map_updated
  maps-written maps m there answered = ap (slice_set maps m) (written (map_at maps m) there)
    where
      written : (found : Option FlatMap) → shape_in found ≡ Some shape → option_map (map_written (element_at shape key) value) found ≡ option_map (map_updated key value flags) found
      written None is = refl
      written (Some flat) is = let same : flat.shape ≡ shape = cc in rw (same, answered) refl

module _ (shape : Shape) (sharing : Sharing) (tenant m key flags : ℕ) where
  pub cost-none : (found : Option FlatMap) → shape_in found ≡ None → cost_in found sharing tenant m key flags ≡ 0
  unfolding cost_in
  cost-none None is = refl
  cost-none (Some flat) is = absurd (cc)

  pub cost-refused : (found : Option FlatMap) → shape_in found ≡ Some shape → (update_answer shape key flags == 0) ≡ false → cost_in found sharing tenant m key flags ≡ 0
  unfolding cost_in
  cost-refused None is refused = refl
  cost-refused (Some flat) is refused = let same : flat.shape ≡ shape = cc in rw (same, refused) refl

  pub cost-written : (found : Option FlatMap) → shape_in found ≡ Some shape → (update_answer shape key flags == 0) ≡ true
      → cost_in found sharing tenant m key flags ≡ store_frames sharing tenant m (element_at shape key) shape.value_size
  unfolding cost_in
  cost-written None is answered = absurd (cc)
  cost-written (Some flat) is answered = let same : flat.shape ≡ shape = cc in rw (same, answered) refl

module _ (shape : Shape) (running : Bool) (sharing : Sharing) (tenant m key flags : ℕ) where
  pub sharing-refused : (found : Option FlatMap) → shape_in found ≡ Some shape → (update_answer shape key flags == 0) ≡ false → sharing_in found running sharing tenant m key flags ≡ sharing
  unfolding sharing_in
  sharing-refused None is refused = refl
  sharing-refused (Some flat) is refused = let same : flat.shape ≡ shape = cc in rw (same, refused) refl

  pub sharing-written : (found : Option FlatMap) → shape_in found ≡ Some shape → (update_answer shape key flags == 0) ≡ true
      → sharing_in found running sharing tenant m key flags ≡ stored_sharing running sharing tenant m (element_at shape key) shape.value_size
  unfolding sharing_in
  sharing-written None is answered = absurd (cc)
  sharing-written (Some flat) is answered = let same : flat.shape ≡ shape = cc in rw (same, answered) refl

-- what holds of the shape of a map that is there
pub of_shape : (P : Shape → Type 0) (shape : Shape) (found : Option FlatMap) → shape_in found ≡ Some shape → P shape → IfSome found (λ flat. P flat.shape)
of_shape P shape None is h = tt
of_shape P shape (Some flat) is h = let same : flat.shape ≡ shape = cc in rw same h

-- a map that is there has a shape within the limits
pub shape-valid : (shape : Shape) (found : Option FlatMap) → shape_in found ≡ Some shape → IfSome found IsFlatMap → IsShape shape
shape-valid shape None is flat = absurd (cc)
shape-valid shape (Some flat) is valid = let same : flat.shape ≡ shape = cc in subst IsShape same valid.shape

-- the size of a map's values
pub value-sized : (shape : Shape) (size : ℕ) (found : Option FlatMap) → shape_in found ≡ Some shape → IsSomeAnd found (λ flat. flat.shape.value_size ≡ size) → shape.value_size ≡ size
value-sized shape size None is sized = absurd (cc)
value-sized shape size (Some flat) is sized = let same : flat.shape ≡ shape = cc in sym (ap (λ (s : Shape). s.value_size) same) ∙ sized

-- an update takes what is charged for it at most
pub charge-enough : (shape : Shape) → IsShape shape → IsEnough shape (update_charge shape)
unfolding cost_in
charge-enough shape valid owned sharing tenant m key flags is = by_map (map_at owned.maps m) is
  where
    by_answer : (answered : Bool) (found : FlatMap) → found.shape ≡ shape → (update_answer shape key flags == 0) ≡ answered → cost_in (Some found) sharing tenant m key flags ≤ update_charge shape
    by_answer true found same e = rw (same, e) (cost-charged sharing tenant m key shape valid)
    by_answer false found same e = rw (same, e) (omega arith)

    by_map : (found : Option FlatMap) → IfSome found (λ flat. flat.shape ≡ shape) → cost_in found sharing tenant m key flags ≤ update_charge shape
    by_map None none = omega arith
    by_map (Some flat) same = by_answer (update_answer shape key flags == 0) flat same refl
