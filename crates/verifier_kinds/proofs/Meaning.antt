-- What is described: numbers that a kind, a slot or a description describes are described by each that is
-- above it.
use Rattle.std.proofs.Common.{◌≡◌, ℕ, zero, suc, ◌^◌, ◌<◌, ◌∙◌, bit_and, List, [], ◌∷◌, length, get_or, Option, Some, None, refl, sym, ap, subst, arith}
use Rattle.std.specs.Prelude.{IsSome, IsSomeAnd, IsBitSet}
use Rattle.std.proofs.lemmas.Nat.{and_assoc, and_comm, and_le_l, and_le_r}
use Rattle.host_types.specs.declared.shape.Shape.{Shape}
use Rattle.host_types.specs.Memory.{◌>>=◌, all_set}
use Rattle.verifier_kinds.specs.declared.kind.Range.{Range}
use Rattle.verifier_kinds.specs.declared.kind.Offsets.{Offsets}
use Rattle.verifier_kinds.specs.declared.kind.Kind.{Kind}
use Rattle.verifier_kinds.specs.declared.kind.Kind.TheVariants.{Scalar, Context, Stack, MapValue, MaybeValue, MapName}
use Rattle.verifier_kinds.specs.declared.description.StackSlot.{StackSlot}
use Rattle.verifier_kinds.specs.declared.description.StackSlot.TheVariants.{Kept, Bytes}
use Rattle.verifier_kinds.specs.Kinds.{Setting, range_in, IsIn, IsWithin, IsByElement, IsOfKind, IsKindBelow, IsBelow, Describes}
use Rattle.verifier_kinds.specs.Descriptions.{IsSlotBelow, DescribesSlot}
use Rattle.verifier_kinds.proofs.Ranges.{divided_less}

-- a number of a range is one of each range around it
pub in_above : (a b : Range) (n : ℕ) → IsWithin a b → IsIn a n → IsIn b n
in_above a b n p q = grind (arith, divided_less)

-- what is said of a value that is there, something weaker is said of too
pub some_and : {X : Type 0} (o : Option X) (P Q : X → Type 0) → ((x : X) → P x → Q x) → IsSomeAnd o P → IsSomeAnd o Q
some_and None P Q f h = h
some_and (Some x) P Q f h = f x h

pub by_element_above : (a b : Offsets) (shape : Shape) (m n : ℕ) → IsWithin (range_in a) (range_in b) → IsByElement a shape m n → IsByElement b shape m n
by_element_above a b shape m n p h =
    record { first = h.first; element = h.element; offset = h.offset; within = in_above (range_in a) (range_in b) h.offset p h.within; address = h.address }

pub of_kind_above : (setting : Setting) (a b : Kind) (n : ℕ) → IsKindBelow a b → IsOfKind setting a n → IsOfKind setting b n
of_kind_above setting a (Scalar outer) n (inner, is, within) h = grind (arith, in_above)
of_kind_above setting a (Context offset) n is h = subst (λ k. IsOfKind setting k n) is h
of_kind_above setting a (Stack offset) n is h = subst (λ k. IsOfKind setting k n) is h
of_kind_above setting a (MapValue m outer) n (inner, is, within) h = grind (arith, some_and, by_element_above)
of_kind_above setting a (MaybeValue m id) n is h = subst (λ k. IsOfKind setting k n) is h
of_kind_above setting a (MapName m) n is h = subst (λ k. IsOfKind setting k n) is h

pub described_above : (setting : Setting) (a b : Option Kind) (x : Option ℕ) → IsBelow a b → Describes setting a x → Describes setting b x
described_above setting a None x p h = tt
described_above setting a (Some outer) None (inner, is, below) h =
    let given : Describes setting (Some inner) None = subst (λ k. Describes setting k None) is h in given
described_above setting a (Some outer) (Some n) (inner, is, below) h = grind (arith, of_kind_above)

-- ---- slots of the stack

no_bits : (p : ℕ) → bit_and 0 p ≡ 0
no_bits p = omega (arith, and_le_l 0 p)

-- a bit of a set is one of each set that has all of that set
bit_above : (more set i : ℕ) → bit_and more set ≡ set → IsBitSet set i → IsBitSet more i
bit_above more set i e h none = grind (arith, bit_and, and_comm, and_assoc, and_le_r)

-- where one value more is there, the others are
rest_set : {X : Type 0} (x : X) (rest : Option (List X)) (given : List X) → (rest >>= λ ys. Some (x ∷ ys)) ≡ Some given → (ys : List X) × (rest ≡ Some ys)
rest_set x None given e = cc
rest_set x (Some ys) given e = (ys, refl)

-- where all values are there, each is
pub each_set : {X : Type 0} (xs : List (Option X)) (given : List X) (i : ℕ) → all_set xs ≡ Some given → i < length xs → IsSome (get_or xs i None)
unfolding all_set
each_set [] given i e h = absurd (omega arith)
each_set (None ∷ xs) given i e h = cc
each_set (Some x ∷ xs) given zero e h = refl
each_set (Some x ∷ xs) given (suc i) e h =
    let rest = rest_set x (all_set xs) given e in each_set xs rest.0 i rest.1 (omega arith)

pub slot_described_above : (setting : Setting) (a b : StackSlot) (bytes : List (Option ℕ)) → length bytes ≡ 8 → IsSlotBelow a b → DescribesSlot setting a bytes → DescribesSlot setting b bytes
slot_described_above setting a (Kept outer) bytes n (inner, is, below) h = grind (arith, of_kind_above)
slot_described_above setting (Bytes more) (Bytes set) bytes n e h = λ i small in_set. h i small (bit_above more set i e in_set)
slot_described_above setting (Kept (Scalar range)) (Bytes set) bytes n e h = λ i small in_set. each_set bytes h.0 i h.1 (omega arith)
slot_described_above setting (Kept pointer) (Bytes set) bytes n e h = λ i small in_set. absurd (in_set (ap (λ s. bit_and s (2 ^ i)) (sym e ∙ no_bits set) ∙ no_bits (2 ^ i)))

-- ---- descriptions
