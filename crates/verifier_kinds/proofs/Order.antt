-- The order of kinds, of slots of the stack and of descriptions: each is below itself, and what is
-- below something is below all that is above that.
use Rattle.std.proofs.Common.{◌≡◌, ◌∙◌, bit_and, Option, Some, None, refl, sym, ap, subst, arith}
use Rattle.std.specs.Int.Bits.{and_self}
use Rattle.std.proofs.lemmas.Nat.{and_assoc}
use Rattle.verifier_kinds.specs.declared.kind.Range.{Range}
use Rattle.verifier_kinds.specs.declared.kind.Kind.{Kind}
use Rattle.verifier_kinds.specs.declared.kind.Kind.TheVariants.{Scalar, Context, Stack, MapValue, MaybeValue, MapName}
use Rattle.verifier_kinds.specs.declared.description.StackSlot.{StackSlot}
use Rattle.verifier_kinds.specs.declared.description.StackSlot.TheVariants.{Kept, Bytes}
use Rattle.verifier_kinds.specs.declared.description.Description.{Description}
use Rattle.verifier_kinds.specs.Kinds.{IsWithin, IsKindBelow, IsBelow, range_in}
use Rattle.verifier_kinds.specs.Descriptions.{IsSlotBelow, IsDescriptionBelow, number_bytes, register_of, slot_of}

pub within_self : (range : Range) → IsWithin range range
within_self range = record { low = omega arith; high = omega arith; aligned = omega arith }

pub within_trans : (a b c : Range) → IsWithin a b → IsWithin b c → IsWithin a c
within_trans a b c p q = record { low = omega arith; high = omega arith; aligned = omega arith }

pub kind_below_self : (kind : Kind) → IsKindBelow kind kind
kind_below_self (Scalar range) = (range, refl, within_self range)
kind_below_self (Context offset) = refl
kind_below_self (Stack offset) = refl
kind_below_self (MapValue m offsets) = (offsets, refl, within_self (range_in offsets))
kind_below_self (MaybeValue m id) = refl
kind_below_self (MapName m) = refl

pub kind_below_trans : (a b c : Kind) → IsKindBelow a b → IsKindBelow b c → IsKindBelow a c
kind_below_trans a b (Scalar outer) p (middle, is, within) = grind (arith, within_trans)
kind_below_trans a b (Context offset) p is = subst (IsKindBelow a) is p
kind_below_trans a b (Stack offset) p is = subst (IsKindBelow a) is p
kind_below_trans a b (MapValue m outer) p (middle, is, within) = grind (arith, within_trans)
kind_below_trans a b (MaybeValue m id) p is = subst (IsKindBelow a) is p
kind_below_trans a b (MapName m) p is = subst (IsKindBelow a) is p

pub below_self : (kind : Option Kind) → IsBelow kind kind
below_self None = tt
below_self (Some kind) = (kind, refl, kind_below_self kind)

pub below_trans : (a b c : Option Kind) → IsBelow a b → IsBelow b c → IsBelow a c
below_trans a b None p q = tt
below_trans a b (Some outer) p (middle, is, within) = grind (arith, kind_below_trans)

pub slot_below_self : (slot : StackSlot) → IsSlotBelow slot slot
slot_below_self (Kept kind) = (kind, refl, kind_below_self kind)
slot_below_self (Bytes set) = and_self set

-- a slot below one that keeps a kind knows the same bytes to hold numbers
pub kept_mask : (a b : Kind) → IsKindBelow a b → number_bytes (Kept a) ≡ number_bytes (Kept b)
kept_mask a (Scalar outer) (inner, is, within) = ap (λ k. number_bytes (Kept k)) is
kept_mask a (Context offset) is = ap (λ k. number_bytes (Kept k)) is
kept_mask a (Stack offset) is = ap (λ k. number_bytes (Kept k)) is
kept_mask a (MapValue m offsets) (inner, is, within) = ap (λ k. number_bytes (Kept k)) is
kept_mask a (MaybeValue m id) is = ap (λ k. number_bytes (Kept k)) is
kept_mask a (MapName m) is = ap (λ k. number_bytes (Kept k)) is

pub slot_below_trans : (a b c : StackSlot) → IsSlotBelow a b → IsSlotBelow b c → IsSlotBelow a c
slot_below_trans a b (Kept outer) p (middle, is, within) = grind (arith, kind_below_trans)
slot_below_trans a (Kept kind) (Bytes set) (inner, is, within) q =
    ap (λ slot. bit_and (number_bytes slot) set) is ∙ ap (λ n. bit_and n set) (kept_mask inner kind within) ∙ q
slot_below_trans a (Bytes more) (Bytes set) p q =
    ap (bit_and (number_bytes a)) (sym q) ∙ sym (and_assoc set (number_bytes a) more) ∙ ap (λ n. bit_and n set) p ∙ q

pub description_below_self : (d : Description) → IsDescriptionBelow d d
description_below_self d = grind (arith, below_self, slot_below_self)

pub description_below_trans : (c d e : Description) → IsDescriptionBelow c d → IsDescriptionBelow d e → IsDescriptionBelow c e
description_below_trans c d e p q = record {
  registers = λ i. below_trans (register_of c i) (register_of d i) (register_of e i) (p.registers i) (q.registers i);
  slots = λ k. slot_below_trans (slot_of c k) (slot_of d k) (slot_of e k) (p.slots k) (q.slots k);
}
