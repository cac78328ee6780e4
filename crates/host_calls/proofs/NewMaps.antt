-- Why a map isn't made: what the memory says of it, said of the tenant's part and of the frames that may be had.
use Rattle.std.proofs.Common.{◌≡◌, ℕ, ◌*◌, ◌<◌, ◌==◌, nat_lt, Bool, true, false, [], length, inl, inr, Option, Some, None, is_none, IsNone, IsSome, Result, Ok, Err, OnOk, refl, arith}
use Rattle.std.proofs.lemmas.Bool.{cases_lt}
use Rattle.std.proofs.lemmas.Bool.Decides.{nat_tests}
use Rattle.std.proofs.lemmas.List.{nil_from_length}
use Rattle.host_types.specs.declared.fault.Fault.{Fault}
use Rattle.host_types.specs.declared.fault.Fault.TheVariants.{NoFrames, TooManyMaps, BadShape, BadTenant}
use Rattle.host_types.specs.declared.shape.Shape.{Shape}
use Rattle.host_types.specs.Bytes.{part_of}
use Rattle.host_types.specs.Shapes.{IsShape}
use Rattle.page_table.specs.Limits.{page_count}
use Rattle.page_table.specs.State.{MemoryState, part, free_number, have_of}
use Rattle.page_table.specs.Changes.{FitsMap, RefusesMap}
use Rattle.page_table.proofs.Recording.{length-part}
use Rattle.host_calls.specs.Calls.{RefusesNewMap, NamesHave, is_shape, refused_new_map}
use Rattle.host_calls.proofs.Elements.{eight-answered, eight-missing, tenant-missing, tenant-there}

none-answered : (found : Option ℕ) → IsNone found → is_none found ≡ true
none-answered None none = refl
none-answered (Some n) none = absurd (cc)

some-answered : (found : Option ℕ) → IsSome found → is_none found ≡ false
some-answered None some = absurd (cc)
some-answered (Some n) some = refl

shape-answered : (shape : Shape) → IsShape shape → is_shape shape ≡ true
shape-answered shape is = grind (arith, nat_tests, is)

answered-shape : (shape : Shape) → is_shape shape ≡ true → IsShape shape
answered-shape shape answered =
    record { sized = grind (arith, nat_tests); small = grind (arith, nat_tests); counted = grind (arith, nat_tests); few = grind (arith, nat_tests); paged = grind (arith, nat_tests) }

shape-not : (shape : Shape) → ¬ (IsShape shape) → is_shape shape ≡ false
shape-not shape none = by_test (is_shape shape) refl
  where
    by_test : (b : Bool) → is_shape shape ≡ b → is_shape shape ≡ false
    by_test true answered = absurd (none (answered-shape shape answered))
    by_test false answered = answered

-- what is known of each answer that isn't a refusal
pub on_ok : (result : Result ℕ Fault) (P Q : Type 0) → (P → Q) → OnOk result P → OnOk result Q
on_ok (Ok m) P Q f known = f known
on_ok (Err fault) P Q f known = tt

module _ (memory : MemoryState) (t : ℕ) (shape : Shape) (all : length memory.maps ≡ length memory.tenants * 8) where
  -- a tenant that has a free number is there
  free-inside : IsSome (free_number (part memory t)) → t < length memory.tenants
  unfolding part
  free-inside some = elim (cases_lt t (length memory.tenants)) [
    | inl less ↦ less
    | inr past ↦
        let short = length-part memory.maps (t * 8) 8 in
        let empty : part_of memory.maps (t * 8) 8 ≡ [] = nil_from_length (part_of memory.maps (t * 8) 8) (omega (arith, short, all, past)) in
        absurd (let none = rw empty at some in cc)
  ]

  there : IsSome (free_number (part memory t)) → (length (part memory t).maps == 8) ≡ true
  there some = eight-answered (part memory t) (tenant-there memory t all (free-inside some))

  pub new_map_allowed : FitsMap memory t shape → refused_new_map memory t shape ≡ None
  new_map_allowed fits =
      let here = there fits.numbered in
      let numbered = some-answered (free_number (part memory t)) fits.numbered in
      let shaped = shape-answered shape fits.shaped in
      let framed : nat_lt (have_of memory) (page_count shape) ≡ false = grind (arith, nat_tests, fits.framed) in
      rw (here, numbered, shaped, framed) refl

  pub new_map_first : (fault : Fault) → RefusesMap memory t shape fault → refused_new_map memory t shape ≡ Some fault
  new_map_first (NoFrames need have) (some, is_shape, is_need, is_have, less) =
      let here = there some in
      let numbered = some-answered (free_number (part memory t)) some in
      let shaped = shape-answered shape is_shape in
      let framed : nat_lt (have_of memory) (page_count shape) ≡ true = grind (arith, nat_tests) in
      rw (here, numbered, shaped, framed, is_need, is_have) refl
  new_map_first TooManyMaps (inside, none) =
      let here = eight-answered (part memory t) (tenant-there memory t all inside) in
      let numbered = none-answered (free_number (part memory t)) none in
      rw (here, numbered) refl
  new_map_first BadShape (some, bad) =
      let here = there some in
      let numbered = some-answered (free_number (part memory t)) some in
      let shaped = shape-not shape bad in
      rw (here, numbered, shaped) refl
  new_map_first BadTenant past =
      let missing = eight-missing (part memory t) (tenant-missing memory t all past) in
      rw missing refl
  new_map_first fault impossible = absurd impossible

  pub new_map_refused : (fault : Fault) → RefusesMap memory t shape fault → RefusesNewMap (part memory t) shape fault
  new_map_refused fault refuses = (have_of memory, new_map_first fault refuses)

  pub new_map_answered : (fault : Fault) → RefusesMap memory t shape fault → NamesHave memory fault
  new_map_answered (NoFrames need have) (numbered, shaped, is_need, is_have, less) = is_have
  new_map_answered TooManyMaps refused = tt
  new_map_answered BadShape refused = tt
  new_map_answered BadTenant past = tt
  new_map_answered fault impossible = absurd impossible
