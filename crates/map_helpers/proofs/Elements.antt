-- Where the address of an element leads.
use Rattle.std.proofs.Common.{◌≡◌, ◌∙◌, ℕ, ◌+◌, ◌-◌, ◌*◌, ◌/◌, ◌%◌, ◌<◌, ◌≤◌, ◌==◌, nat_lt, nat_le, true, false, Option, Some, None, IsSomeAnd, refl, ap, arith}
use Rattle.std.proofs.lemmas.Bool.Decides.{nat_tests}
use Rattle.std.proofs.lemmas.Nat.{div-mul-add, mod-mul-add}
use Rattle.host_types.specs.declared.shape.Shape.{Shape}
use Rattle.host_types.specs.Helpers.{element_at, lookup_answer}
use Rattle.host_types.specs.Memory.{FlatMap, FlatMaps, FlatMemory, InMap, map_at, location_in_map, location_of}
use Rattle.host_types.specs.Shapes.{IsShape, stride_of}
use Rattle.host_types.proofs.Elements.{value-in-stride, element-in-map}

-- bytes of an element's value lie among the values of the map
in_value : (maps : FlatMaps) (m : ℕ) (shape : Shape) (key at size : ℕ) → IsSomeAnd (map_at maps m) (λ flat. flat.shape ≡ shape)
    → key < shape.entries → at < stride_of shape → at + size ≤ shape.value_size
    → location_in_map maps m (element_at shape key + at) size ≡ Some (InMap m (element_at shape key + at))
in_value maps m shape key at size is there small fits = by_map (map_at maps m) refl is
  where
    turned : element_at shape key + at ≡ key * stride_of shape + at
    turned = omega arith

    number : (element_at shape key + at) / stride_of shape ≡ key
    number = ap (λ (n : ℕ). n / stride_of shape) turned ∙ div-mul-add key (stride_of shape) at small

    rest : (element_at shape key + at) % stride_of shape ≡ at
    rest = ap (λ (n : ℕ). n % stride_of shape) turned ∙ mod-mul-add key (stride_of shape) at small

    counted : nat_lt key shape.entries ≡ true
    counted = grind (arith, nat_tests)

    whole : nat_le (at + size) shape.value_size ≡ true
    whole = grind (arith, nat_tests)

    by_map : (found : Option FlatMap) → map_at maps m ≡ found → IsSomeAnd found (λ flat. flat.shape ≡ shape)
        → location_in_map maps m (element_at shape key + at) size ≡ Some (InMap m (element_at shape key + at))
    by_map None e none = absurd none
    by_map (Some flat) e same = rw (e, same, number, rest, counted, whole) refl

-- each access to an element's value, at an offset from the address that a lookup answers
pub element_found : (shape : Shape) (m key : ℕ) (memory : FlatMemory) (at size : ℕ) → IsShape shape → IsSomeAnd (map_at memory.maps m) (λ flat. flat.shape ≡ shape)
    → key < shape.entries → 1 ≤ size → at + size ≤ shape.value_size
    → location_of memory (lookup_answer shape m key + at) size ≡ Some (InMap m (element_at shape key + at))
unfolding lookup_answer location_of
element_found shape m key memory at size valid is there some fits =
    let counted : nat_lt key shape.entries ≡ true = grind (arith, nat_tests) in
    let stride = value-in-stride shape in
    let within = element-in-map shape key there in
    let paged = valid.paged in
    let offset : ℕ = element_at shape key + at in
    let small : offset < 4294967296 = omega (arith, fits, within, paged) in
    let turned : (16 + m) * 4294967296 + element_at shape key + at ≡ (16 + m) * 4294967296 + offset = omega arith in
    let region : ((16 + m) * 4294967296 + offset) / 4294967296 ≡ 16 + m = div-mul-add (16 + m) 4294967296 offset small in
    let rest : ((16 + m) * 4294967296 + offset) % 4294967296 ≡ offset = mod-mul-add (16 + m) 4294967296 offset small in
    let no_context : (16 + m == 1) ≡ false = grind (arith, nat_tests) in
    let no_stack : (16 + m == 2) ≡ false = grind (arith, nat_tests) in
    let values : nat_lt (16 + m) 16 ≡ false = grind (arith, nat_tests) in
    let number : 16 + m - 16 ≡ m = omega arith in
    rw (counted, turned, region, rest, no_context, no_stack, values, number)
    (in_value memory.maps m shape key at size is there (omega (arith, stride, some, fits)) fits)
