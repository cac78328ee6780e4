-- Narrower descriptions: what is under others, whose offsets may be `extra` more, stays so once a register or a
-- slot of the stack is replaced, and once it is known of what kind the answer of a call is.
use Rattle.std.proofs.Common.{◌≡◌, ℕ, ◌%◌, zero, suc, ◌∙◌, min, bit_and, bit_or, List, [], ◌∷◌, length, get_or, slice_set, Option, Some, None, IfSome, refl, sym, ap, subst, arith}
use Rattle.std.specs.Prelude.{option_map}
use Rattle.std.specs.Int.{bit_at}
use Rattle.std.specs.Int.Bits.{and_zero_l}
use Rattle.std.proofs.lemmas.Nat.{and_assoc, and_le_r}
use Rattle.std.proofs.lemmas.Nat.Bits.{bit_at_and, bit_at_or, same_from_bits}
use Rattle.std.proofs.lemmas.Bool.{cond_both}
use Rattle.std.proofs.lemmas.List.{length-set, length-map}
use Rattle.verifier_kinds.specs.declared.kind.Kind.{Kind}
use Rattle.verifier_kinds.specs.declared.kind.Kind.TheVariants.{Scalar, Context, Stack, MapValue, MaybeValue, MapName}
use Rattle.verifier_kinds.specs.declared.description.StackSlot.{StackSlot}
use Rattle.verifier_kinds.specs.declared.description.StackSlot.TheVariants.{Kept, Bytes}
use Rattle.verifier_kinds.specs.declared.description.Description.{Description}
use Rattle.verifier_kinds.specs.Kinds.{IsNormalKind}
use Rattle.verifier_kinds.specs.Descriptions.{IsDescription, IsNormalSlot, number_bytes, register_of, slot_of, with_answer_known, resolved_kind, resolved_slot, with_kind, with_slot, with_unset}
use Rattle.verifier_kinds.specs.Wide.{IsWideKind, IsWideAt}
use Rattle.verifier_kinds.proofs.Calls.{register_is_normal, slot_is_normal}
use Rattle.verifier_kinds.proofs.Descriptions.{register_of-with_answer_known, slot_of-with_answer_known}
use Rattle.verifier_kinds.proofs.Under.{IsKindUnder, IsKnownUnder, IsSlotUnder, IsDescriptionUnder, under_mask}
use Rattle.verifier_kinds.proofs.NarrowerKinds.{IsKnownNarrower}

-- ---- descriptions with normal ranges

-- eleven registers and 64 slots of the stack, of which the ranges are normal
pub record IsNormalDescription (d : Description) : Type 0 where
  pub registers : length d.registers ≡ 11
  pub stack : length d.stack ≡ 64
  pub kinds : (i : ℕ) → IfSome (register_of d i) IsNormalKind
  pub slots : (k : ℕ) → IsNormalSlot (slot_of d k)

-- what the verifier knows is normal
pub described_is_normal : (d : Description) → IsDescription d → IsNormalDescription d
described_is_normal d p = grind (arith, register_is_normal, slot_is_normal)

-- eleven registers and 64 slots of the stack, of which the ranges of numbers are normal
pub record IsWideDescription (d : Description) : Type 0 where
  pub registers : length d.registers ≡ 11
  pub stack : length d.stack ≡ 64
  pub kinds : (i : ℕ) → IfSome (register_of d i) IsWideKind

-- as what a table says whose offsets are `extra` more
pub wide_is_wide : (slot : ℕ) (d : Description) → IsWideAt slot d → IsWideDescription d
wide_is_wide slot d p = record { registers = p.registers; stack = p.stack; kinds = p.kinds }

-- One description is under another whose offsets are `extra` more, and the ranges of both are normal, but for
-- the offsets of the other.
pub record IsNarrower (extra : ℕ) (d e : Description) : Type 0 where
  pub whole : extra % 8 ≡ 0
  pub below : IsDescriptionUnder extra d e
  pub smaller : IsNormalDescription d
  pub larger : IsWideDescription e

-- one slot of the stack is under another
pub record IsSlotNarrower (extra : ℕ) (a b : StackSlot) : Type 0 where
  pub below : IsSlotUnder extra a b
  pub smaller : IsNormalSlot a

pub slot_narrows : (extra : ℕ) (d e : Description) (k : ℕ) → IsNarrower extra d e → IsSlotNarrower extra (slot_of d k) (slot_of e k)
slot_narrows extra d e k n = record { below = n.below.slots k; smaller = n.smaller.slots k }

known_narrows : (extra : ℕ) (a c : Option Kind) → extra % 8 ≡ 0 → IsKnownUnder extra a c → IfSome a IsNormalKind → IfSome c IsWideKind → IsKnownNarrower extra a c
known_narrows extra a None whole below p q = tt
known_narrows extra a (Some c) whole (x, is, below) p q = (x, is, record { whole = whole; below = below; smaller = subst (λ o. IfSome o IsNormalKind) is p; larger = q })

pub register_narrows : (extra : ℕ) (d e : Description) (i : ℕ) → IsNarrower extra d e → IsKnownNarrower extra (register_of d i) (register_of e i)
register_narrows extra d e i n = known_narrows extra (register_of d i) (register_of e i) n.whole (n.below.registers i) (n.smaller.kinds i) (n.larger.kinds i)

-- ---- replaced elements

-- one description is under another, and both have as many registers and slots of the stack
pub record IsAlikeBelow (extra : ℕ) (d e : Description) : Type 0 where
  pub below : IsDescriptionUnder extra d e
  pub registers : length d.registers ≡ length e.registers
  pub stack : length d.stack ≡ length e.stack

pub alike : (extra : ℕ) (d e : Description) → IsNarrower extra d e → IsAlikeBelow extra d e
alike extra d e n = record { below = n.below; registers = n.smaller.registers ∙ sym n.larger.registers; stack = n.smaller.stack ∙ sym n.larger.stack }

-- what relates all elements of two lists does so once an element of both is replaced by what it relates
set_relates : {X : Type 0} (R : X → X → Type 0) (xs ys : List X) (i k : ℕ) (x y d : X) → length xs ≡ length ys → R x y → R (get_or xs k d) (get_or ys k d) → R (get_or (slice_set xs i x) k d) (get_or (slice_set ys i y) k d)
set_relates R [] [] i k x y d e p h = h
set_relates R [] (v ∷ ys) i k x y d e p h = absurd (omega arith)
set_relates R (u ∷ xs) [] i k x y d e p h = absurd (omega arith)
set_relates R (u ∷ xs) (v ∷ ys) zero zero x y d e p h = p
set_relates R (u ∷ xs) (v ∷ ys) zero (suc k) x y d e p h = h
set_relates R (u ∷ xs) (v ∷ ys) (suc i) zero x y d e p h = h
set_relates R (u ∷ xs) (v ∷ ys) (suc i) (suc k) x y d e p h = set_relates R xs ys i k x y d (omega arith) p h

-- a register that is replaced in both
replaced_below : (extra : ℕ) (d e : Description) (i : ℕ) (a b : Option Kind) → IsKnownUnder extra a b → IsAlikeBelow extra d e → IsAlikeBelow extra (record d { registers = slice_set d.registers i a }) (record e { registers = slice_set e.registers i b })
replaced_below extra d e i a b p n = record {
  below = record {
    registers = λ k. set_relates (IsKnownUnder extra) d.registers e.registers i k a b None n.registers p (n.below.registers k);
    slots = n.below.slots;
  };
  registers = length-set d.registers i a ∙ n.registers ∙ sym (length-set e.registers i b);
  stack = n.stack;
}

pub with_kind_below : (extra : ℕ) (d e : Description) (i : ℕ) (a b : Kind) → IsKindUnder extra a b → IsAlikeBelow extra d e → IsAlikeBelow extra (with_kind d i a) (with_kind e i b)
with_kind_below extra d e i a b p n = replaced_below extra d e i (Some a) (Some b) (a, refl, p) n

pub with_unset_below : (extra : ℕ) (d e : Description) (i : ℕ) → IsAlikeBelow extra d e → IsAlikeBelow extra (with_unset d i) (with_unset e i)
with_unset_below extra d e i n = replaced_below extra d e i None None tt n

pub with_slot_below : (extra : ℕ) (d e : Description) (j : ℕ) (a b : StackSlot) → IsSlotUnder extra a b → IsAlikeBelow extra d e → IsAlikeBelow extra (with_slot d j a) (with_slot e j b)
with_slot_below extra d e j a b p n = record {
  below = record {
    registers = n.below.registers;
    slots = λ k. set_relates (IsSlotUnder extra) d.stack e.stack j k a b (Bytes 0) n.stack p (n.below.slots k);
  };
  registers = n.registers;
  stack = length-set d.stack j a ∙ n.stack ∙ sym (length-set e.stack j b);
}

-- ---- bytes of the stack

-- bytes that are known where less is known are known where more is
pub mask_known : (more set mask : ℕ) → bit_and more set ≡ set → bit_and set mask ≡ mask → bit_and more mask ≡ mask
mask_known more set mask p q =
    ap (bit_and more) (sym q) ∙ sym (and_assoc mask more set) ∙ ap (λ n. bit_and n mask) p ∙ q

-- where no byte is known, none of a set is
pub none_known : (set : ℕ) → bit_and 0 set ≡ set → set ≡ 0
none_known set e = sym e ∙ and_zero_l set

no_mask : (n : ℕ) → bit_and n 0 ≡ 0
no_mask n = omega (arith, and_le_r n 0)

-- a slot under another is known to hold at least the numbers that the other is
pub mask_more : (extra : ℕ) (a b : StackSlot) → IsSlotUnder extra a b → bit_and (number_bytes a) (number_bytes b) ≡ number_bytes b
mask_more extra a (Kept outer) (inner, is, below) = grind (arith, under_mask)
mask_more extra a (Bytes set) p = p

-- and still is once some of both are written
pub mask_written : (more fewer mask : ℕ) → bit_and more fewer ≡ fewer → bit_and (bit_or more mask) (bit_or fewer mask) ≡ bit_or fewer mask
mask_written more fewer mask p =
    same_from_bits (bit_and (bit_or more mask) (bit_or fewer mask)) (bit_or fewer mask)
    (λ i. bit_at_and (bit_or more mask) (bit_or fewer mask) i ∙ one_bit i)
  where
    one_bit : (i : ℕ) → min (bit_at (bit_or more mask) i) (bit_at (bit_or fewer mask) i) ≡ bit_at (bit_or fewer mask) i
    one_bit i =
        let known : min (bit_at more i) (bit_at fewer i) ≡ bit_at fewer i = sym (bit_at_and more fewer i) ∙ ap (λ n. bit_at n i) p in
        let left = bit_at_or more mask i in
        let right = bit_at_or fewer mask i in
        omega (arith, known, left, right)

-- ---- once the answer of a call is known

resolved_kinds_below : (extra call : ℕ) (to wide a b : Kind) → IsKindUnder extra to wide → IsKindUnder extra a b → IsKindUnder extra (resolved_kind call to a) (resolved_kind call wide b)
resolved_kinds_below extra call to wide a (Scalar outer) p (inner, is, within) = rw is (inner, refl, within)
resolved_kinds_below extra call to wide a (Context offset) p is = rw is refl
resolved_kinds_below extra call to wide a (Stack offset) p is = rw is refl
resolved_kinds_below extra call to wide a (MapValue m outer) p (inner, is, within) = rw is (inner, refl, within)
resolved_kinds_below extra call to wide a (MaybeValue m id) p is = grind (arith)
resolved_kinds_below extra call to wide a (MapName m) p is = rw is refl

resolved_registers_below : (extra call : ℕ) (to wide : Kind) (a b : Option Kind) → IsKindUnder extra to wide → IsKnownUnder extra a b → IsKnownUnder extra (option_map (resolved_kind call to) a) (option_map (resolved_kind call wide) b)
resolved_registers_below extra call to wide a None u p = tt
resolved_registers_below extra call to wide a (Some b) u (x, is, below) = rw is (resolved_kind call to x, refl, resolved_kinds_below extra call to wide x b u below)

-- a kept answer is known to hold no number, so of its bytes none is in the other slot
resolved_bytes : (call : ℕ) (to kind : Kind) (set : ℕ) → bit_and (number_bytes (Kept kind)) set ≡ set → bit_and (number_bytes (Kept (resolved_kind call to kind))) set ≡ set
resolved_bytes call to (MaybeValue m id) set p = grind (arith, cond_both, bit_and, none_known, no_mask)
resolved_bytes call to kind set p = p

resolved_slots_below : (extra call : ℕ) (to wide : Kind) (a b : StackSlot) → IsKindUnder extra to wide → IsSlotUnder extra a b → IsSlotUnder extra (resolved_slot call to a) (resolved_slot call wide b)
resolved_slots_below extra call to wide a (Kept b) u (x, is, below) = rw is (resolved_kind call to x, refl, resolved_kinds_below extra call to wide x b u below)
resolved_slots_below extra call to wide (Kept kind) (Bytes set) u p = resolved_bytes call to kind set p
resolved_slots_below extra call to wide (Bytes more) (Bytes set) u p = p

pub resolved_below : (extra call : ℕ) (to wide : Kind) (d e : Description) → IsKindUnder extra to wide → IsAlikeBelow extra d e → IsAlikeBelow extra (with_answer_known call to d) (with_answer_known call wide e)
unfolding with_answer_known
resolved_below extra call to wide d e u n = record {
  below = record {
    registers = λ i. rw (register_of-with_answer_known call to d i, register_of-with_answer_known call wide e i) (resolved_registers_below extra call to wide (register_of d i) (register_of e i) u (n.below.registers i));
    slots = λ k. rw (slot_of-with_answer_known call to d k, slot_of-with_answer_known call wide e k) (resolved_slots_below extra call to wide (slot_of d k) (slot_of e k) u (n.below.slots k));
  };
  registers = length-map d.registers (option_map (resolved_kind call to)) ∙ n.registers ∙ sym (length-map e.registers (option_map (resolved_kind call wide)));
  stack = length-map d.stack (resolved_slot call to) ∙ n.stack ∙ sym (length-map e.stack (resolved_slot call wide));
}
