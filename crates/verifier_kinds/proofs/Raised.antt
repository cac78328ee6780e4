-- Of kinds whose offsets are `extra` more arithmetic makes what it makes of the kinds, with as much more, and
-- descriptions are replaced in as they are.
use Rattle.std.proofs.Common.{◌≡◌, ℕ, ◌+◌, ◌∙◌, nat_le, bit_and, ℤ, pos, negsuc, ◌+ℤ◌, ◌-ℤ◌, Bool, true, false, List, [], ◌∷◌, map, Option, Some, None, Result, Err, refl, ap, arith}
use Rattle.std.proofs.Common.{◌%◌}
use Rattle.std.specs.Prelude.{if◌then◌else◌, option_map}
use Rattle.std.specs.Int.{cast_signed, w64}
use Rattle.std.proofs.lemmas.Int.{ints}
use Rattle.std.proofs.lemmas.Bool.{cond_both, cond-true, and_from, le-leb, leb-true}
use Rattle.std.proofs.lemmas.List.{map-set}
use Rattle.host_types.specs.Rules.{wrong_kind}
use Rattle.bpf_decode.specs.declared.operation.Width.{Width}
use Rattle.bpf_decode.specs.declared.operation.Width.TheVariants.{Bits32, Bits64}
use Rattle.bpf_decode.specs.declared.operation.AluCode.{AluCode}
use Rattle.bpf_decode.specs.declared.operation.AluCode.TheVariants.{Add, Sub}
use Rattle.bpf_decode.specs.Opcodes.{is}
use Rattle.verifier_kinds.specs.declared.kind.Align.{Align}
use Rattle.verifier_kinds.specs.declared.kind.Range.{Range}
use Rattle.verifier_kinds.specs.declared.kind.Offsets.{Offsets}
use Rattle.verifier_kinds.specs.declared.kind.Kind.{Kind}
use Rattle.verifier_kinds.specs.declared.kind.Kind.TheVariants.{Scalar, Context, Stack, MapValue, MaybeValue, MapName}
use Rattle.verifier_kinds.specs.declared.description.StackSlot.{StackSlot}
use Rattle.verifier_kinds.specs.declared.description.StackSlot.TheVariants.{Kept, Bytes}
use Rattle.verifier_kinds.specs.declared.description.Description.{Description}
use Rattle.verifier_kinds.specs.Kinds.{is_constant, least_align, IsKindBelow, IsBelow}
use Rattle.verifier_kinds.specs.Descriptions.{IsSlotBelow, IsDescriptionBelow, number_bytes, register_of, slot_of, with_answer_known, resolved_kind, resolved_slot, with_kind, with_slot, with_unset}
use Rattle.verifier_kinds.specs.Arithmetic.{signed_offset, within_value, displaced_value, kind_of, kind_with_dst, moved_number, copied, arith_by}
use Rattle.verifier_kinds.specs.Wide.{raised, raised_kind, raised_slot, raised_description, within_value_at, displaced_value_at, kind_of_at, kind_with_dst_at, arith_by_at}
use Rattle.verifier_kinds.proofs.Descriptions.{get_or-mapped}
use Rattle.verifier_kinds.proofs.Under.{raised_normal}
use Rattle.verifier_kinds.proofs.NarrowerKinds.{IsResultBelow, displaced_alike}

-- ---- arithmetic

-- a kind is another, its offsets `extra` more
abbrev pub IsRaisedKind : ℕ → Kind → Kind → Type 0
IsRaisedKind extra a b = a ≡ raised_kind extra b

ends_raised : (extra m : ℕ) (d : Align) (low high wide_low wide_high : ℤ) → extra % 8 ≡ 0 → wide_low ≡ pos extra +ℤ low → wide_high ≡ pos extra +ℤ high → IsResultBelow (IsRaisedKind extra) (within_value_at extra m d wide_low wide_high) (within_value m d low high)
ends_raised extra m d (pos low) (pos high) wide_low wide_high whole p q = grind (arith, pos, cond_both, nat_le, leb-true, true, and_from, le-leb, cond-true, raised_normal)
ends_raised extra m d (pos low) (negsuc high) wide_low wide_high whole p q = tt
ends_raised extra m d (negsuc low) high wide_low wide_high whole p q = tt

value_raised : (extra m : ℕ) (code : AluCode) (width : Width) (offsets : Offsets) (by : Range) → extra % 8 ≡ 0 → IsResultBelow (IsRaisedKind extra) (displaced_value_at extra m code width (raised extra offsets) by) (displaced_value m code width offsets by)
value_raised extra m Add Bits64 offsets by whole =
    let low : ℤ = signed_offset by by.low in
    let high : ℤ = signed_offset by by.high in
    ends_raised extra m (least_align offsets.align by.align) (pos offsets.low +ℤ low) (pos offsets.high +ℤ high) (pos (extra + offsets.low) +ℤ low) (pos (extra + offsets.high) +ℤ high)
    whole (sum_raised offsets.low low) (sum_raised offsets.high high)
  where
    sum_raised : (n : ℕ) (z : ℤ) → pos (extra + n) +ℤ z ≡ pos extra +ℤ (pos n +ℤ z)
    sum_raised n z = omega (arith, ints)
value_raised extra m Sub Bits64 offsets by whole =
    let z : ℤ = cast_signed w64 by.low in
    let align : Align = least_align offsets.align by.align in
    by_test (within_value_at extra m align (pos (extra + offsets.low) -ℤ z) (pos (extra + offsets.high) -ℤ z)) (within_value m align (pos offsets.low -ℤ z) (pos offsets.high -ℤ z)) (is_constant by)
    (ends_raised extra m (least_align offsets.align by.align) (pos offsets.low -ℤ z) (pos offsets.high -ℤ z) (pos (extra + offsets.low) -ℤ z) (pos (extra + offsets.high) -ℤ z)
    whole (difference_raised offsets.low z) (difference_raised offsets.high z))
  where
    difference_raised : (n : ℕ) (z : ℤ) → pos (extra + n) -ℤ z ≡ pos extra +ℤ (pos n -ℤ z)
    difference_raised n z = omega (arith, ints)

    by_test : (r s : Result Kind ℕ) (t : Bool) → IsResultBelow (IsRaisedKind extra) r s → IsResultBelow (IsRaisedKind extra) (if t then r else Err wrong_kind) (if t then s else Err wrong_kind)
    by_test r s true h = h
    by_test r s false h = tt
value_raised extra m code width offsets by whole = tt

kinds_raised : (extra : ℕ) (code : AluCode) (width : Width) (offset : ℤ) (a b : Kind) → extra % 8 ≡ 0 → IsResultBelow (IsRaisedKind extra) (kind_of_at extra code width offset (raised_kind extra a) (raised_kind extra b)) (kind_of code width offset a b)
kinds_raised extra code width offset (MapValue m offsets) (Scalar by) whole = value_raised extra m code width offsets by whole
kinds_raised extra code width offset (Scalar a) (Scalar b) whole = refl
kinds_raised extra code width offset (Context k) (Scalar by) whole = displaced_alike (IsRaisedKind extra) Context 16 code width k by (λ z. refl)
kinds_raised extra code width offset (Stack k) (Scalar by) whole = displaced_alike (IsRaisedKind extra) Stack 17 code width k by (λ z. refl)
kinds_raised extra code width offset (MaybeValue m id) b whole = tt
kinds_raised extra code width offset a (MaybeValue m id) whole = tt
kinds_raised extra code width offset a b whole = tt

with_dst_raised : (extra : ℕ) (code : AluCode) (width : Width) (offset : ℤ) (a : Option Kind) (b : Kind) → extra % 8 ≡ 0 → IsResultBelow (IsRaisedKind extra) (kind_with_dst_at extra code width offset (option_map (raised_kind extra) a) (raised_kind extra b)) (kind_with_dst code width offset a b)
with_dst_raised extra code width offset (Some a) b whole = kinds_raised extra code width offset a b whole
with_dst_raised extra code width offset None b whole = tt

moved_raised : (extra : ℕ) (width : Width) (offset : ℤ) (b : Kind) → IsResultBelow (IsRaisedKind extra) (moved_number width offset (raised_kind extra b)) (moved_number width offset b)
moved_raised extra width offset (Scalar b) = refl
moved_raised extra width offset (MaybeValue m id) = tt
moved_raised extra width offset b = tt

copied_raised : (extra : ℕ) (width : Width) (offset : ℤ) (b : Kind) → IsResultBelow (IsRaisedKind extra) (copied width offset (raised_kind extra b)) (copied width offset b)
copied_raised extra Bits32 offset b = moved_raised extra Bits32 offset b
copied_raised extra Bits64 offset b = grind (arith, true, false, moved_raised)

pub arithmetic_raised : (extra : ℕ) (code : AluCode) (width : Width) (offset : ℤ) (a : Option Kind) (b : Kind) → extra % 8 ≡ 0 → IsResultBelow (IsRaisedKind extra) (arith_by_at extra code width offset (option_map (raised_kind extra) a) (raised_kind extra b)) (arith_by code width offset a b)
arithmetic_raised extra code width offset a b whole = grind (arith, true, with_dst_raised, false, copied_raised)

-- ---- descriptions

pub register_of-raised : (extra : ℕ) (d : Description) (i : ℕ) → register_of (raised_description extra d) i ≡ option_map (raised_kind extra) (register_of d i)
register_of-raised extra d i = get_or-mapped (option_map (raised_kind extra)) None refl d.registers i

pub slot_of-raised : (extra : ℕ) (d : Description) (k : ℕ) → slot_of (raised_description extra d) k ≡ raised_slot extra (slot_of d k)
slot_of-raised extra d k = get_or-mapped (raised_slot extra) (Bytes 0) refl d.stack k

pub with_kind-raised : (extra : ℕ) (d : Description) (i : ℕ) (kind : Kind) → with_kind (raised_description extra d) i (raised_kind extra kind) ≡ raised_description extra (with_kind d i kind)
with_kind-raised extra d i kind = grind (arith, map, map-set)

pub with_unset-raised : (extra : ℕ) (d : Description) (i : ℕ) → with_unset (raised_description extra d) i ≡ raised_description extra (with_unset d i)
with_unset-raised extra d i = grind (arith, map, map-set)

pub with_slot-raised : (extra : ℕ) (d : Description) (k : ℕ) (slot : StackSlot) → with_slot (raised_description extra d) k (raised_slot extra slot) ≡ raised_description extra (with_slot d k slot)
with_slot-raised extra d k slot = grind (arith, map, map-set)

-- a slot knows the same bytes to hold numbers
pub raised_bytes : (extra : ℕ) (slot : StackSlot) → number_bytes (raised_slot extra slot) ≡ number_bytes slot
raised_bytes extra (Kept (Scalar range)) = refl
raised_bytes extra (Kept pointer) = refl
raised_bytes extra (Bytes set) = refl

resolved_kind-raised : (extra call : ℕ) (to kind : Kind) → resolved_kind call (raised_kind extra to) (raised_kind extra kind) ≡ raised_kind extra (resolved_kind call to kind)
resolved_kind-raised extra call to (MaybeValue m id) = grind (arith, true, false)
resolved_kind-raised extra call to kind = refl

resolved_register-raised : (extra call : ℕ) (to : Kind) (known : Option Kind) → option_map (resolved_kind call (raised_kind extra to)) (option_map (raised_kind extra) known) ≡ option_map (raised_kind extra) (option_map (resolved_kind call to) known)
resolved_register-raised extra call to None = refl
resolved_register-raised extra call to (Some kind) = ap Some (resolved_kind-raised extra call to kind)

resolved_slot-raised : (extra call : ℕ) (to : Kind) (slot : StackSlot) → resolved_slot call (raised_kind extra to) (raised_slot extra slot) ≡ raised_slot extra (resolved_slot call to slot)
resolved_slot-raised extra call to (Kept kind) = ap Kept (resolved_kind-raised extra call to kind)
resolved_slot-raised extra call to (Bytes set) = refl

-- two changes after each other of each offset of a list
maps_alike : {X : Type 0} (f g h k : X → X) (xs : List X) → ((x : X) → f (g x) ≡ h (k x)) → map f (map g xs) ≡ map h (map k xs)
maps_alike f g h k [] same = refl
maps_alike f g h k (x ∷ xs) same = ap (λ y. y ∷ map f (map g xs)) (same x) ∙ ap (λ ys. h (k x) ∷ ys) (maps_alike f g h k xs same)

pub with_answer_known-raised : (extra call : ℕ) (to : Kind) (d : Description) → with_answer_known call (raised_kind extra to) (raised_description extra d) ≡ raised_description extra (with_answer_known call to d)
unfolding with_answer_known
with_answer_known-raised extra call to d = grind (arith, map, maps_alike, resolved_register-raised, resolved_slot-raised)

-- ---- the order

kind_raised_below : (extra : ℕ) (a b : Kind) → IsKindBelow a b → IsKindBelow (raised_kind extra a) (raised_kind extra b)
kind_raised_below extra a (Scalar outer) (inner, is, within) = rw is (inner, refl, within)
kind_raised_below extra a (Context offset) is = rw is refl
kind_raised_below extra a (Stack offset) is = rw is refl
kind_raised_below extra a (MapValue m outer) (inner, is, within) =
    let low = within.low in
    let high = within.high in
    rw is (raised extra inner, refl, record { low = omega arith; high = omega arith; aligned = within.aligned })
kind_raised_below extra a (MaybeValue m id) is = rw is refl
kind_raised_below extra a (MapName m) is = rw is refl

known_raised_below : (extra : ℕ) (a b : Option Kind) → IsBelow a b → IsBelow (option_map (raised_kind extra) a) (option_map (raised_kind extra) b)
known_raised_below extra a None p = tt
known_raised_below extra a (Some b) (x, is, below) = rw is (raised_kind extra x, refl, kind_raised_below extra x b below)

slot_raised_below : (extra : ℕ) (a b : StackSlot) → IsSlotBelow a b → IsSlotBelow (raised_slot extra a) (raised_slot extra b)
slot_raised_below extra a (Kept b) (x, is, below) = rw is (raised_kind extra x, refl, kind_raised_below extra x b below)
slot_raised_below extra a (Bytes set) p = ap (λ n. bit_and n set) (raised_bytes extra a) ∙ p

-- what says more still does
pub description_raised_below : (extra : ℕ) (d e : Description) → IsDescriptionBelow d e → IsDescriptionBelow (raised_description extra d) (raised_description extra e)
description_raised_below extra d e p = record {
  registers = λ i. rw (register_of-raised extra d i, register_of-raised extra e i) (known_raised_below extra (register_of d i) (register_of e i) (p.registers i));
  slots = λ k. rw (slot_of-raised extra d k, slot_of-raised extra e k) (slot_raised_below extra (slot_of d k) (slot_of e k) (p.slots k));
}
