-- The order between what the verifier knows and what a table says whose numbers of offsets are `extra` more: it
-- is the one between kinds, of which the first is raised.
use Rattle.std.proofs.Common.{◌≡◌, ℕ, ◌+◌, ◌-◌, ◌*◌, ◌/◌, ◌%◌, ◌==◌, ◌∙◌, bit_and, Option, Some, None, refl, sym, ap, subst, arith}
use Rattle.std.specs.Prelude.{if◌then◌else◌}
use Rattle.std.proofs.lemmas.Nat.{and_assoc}
use Rattle.std.proofs.lemmas.Bool.{cond_both, cond-true, eq-eqb, eqb-true, eqb-false}
use Rattle.verifier_kinds.specs.declared.kind.Align.{Align}
use Rattle.verifier_kinds.specs.declared.kind.Align.TheVariants.{One, Two, Four, Eight}
use Rattle.verifier_kinds.specs.declared.kind.Range.{Range}
use Rattle.verifier_kinds.specs.declared.kind.Offsets.{Offsets}
use Rattle.verifier_kinds.specs.declared.kind.Kind.{Kind}
use Rattle.verifier_kinds.specs.declared.kind.Kind.TheVariants.{Scalar, Context, Stack, MapValue, MaybeValue, MapName}
use Rattle.verifier_kinds.specs.declared.description.StackSlot.{StackSlot}
use Rattle.verifier_kinds.specs.declared.description.StackSlot.TheVariants.{Kept, Bytes}
use Rattle.verifier_kinds.specs.declared.description.Description.{Description}
use Rattle.verifier_kinds.specs.Kinds.{IsWithin, IsKindBelow, IsBelow, factor, align_of, normal, range_in, offsets_in, join_of_ranges, join_of_kinds}
use Rattle.verifier_kinds.specs.Descriptions.{IsDescription, IsSlotBelow, IsDescriptionBelow, number_bytes, register_of, slot_of, kept_or_bytes, join_of_registers, join_of_slots, join_of}
use Rattle.verifier_kinds.specs.Wide.{raised, raised_kind}
use Rattle.verifier_kinds.proofs.Order.{within_self, within_trans}
use Rattle.verifier_kinds.proofs.Joins.{register_of-join, slot_of-join}
use Rattle.verifier_kinds.proofs.Least.{join_within, join_of_values, kinds_join_below, slots_join_below}

-- ---- raised ranges

raised_first : (extra low : ℕ) (d : Align) → extra % 8 ≡ 0 → (extra + low + (factor d - 1)) / factor d * factor d ≡ extra + (low + (factor d - 1)) / factor d * factor d
raised_first extra low One e = omega arith
raised_first extra low Two e = omega arith
raised_first extra low Four e = omega arith
raised_first extra low Eight e = omega arith

raised_last : (extra high : ℕ) (d : Align) → extra % 8 ≡ 0 → (extra + high) / factor d * factor d ≡ extra + high / factor d * factor d
raised_last extra high One e = omega arith
raised_last extra high Two e = omega arith
raised_last extra high Four e = omega arith
raised_last extra high Eight e = omega arith

pub raised_divided : (extra n : ℕ) (d : Align) → extra % 8 ≡ 0 → n % factor d ≡ 0 → (extra + n) % factor d ≡ 0
raised_divided extra n One e p = omega arith
raised_divided extra n Two e p = omega arith
raised_divided extra n Four e p = omega arith
raised_divided extra n Eight e p = omega arith

raised_align_of : (extra n : ℕ) → extra % 8 ≡ 0 → align_of (extra + n) ≡ align_of n
raised_align_of extra n e = grind (arith)

-- a multiple of 8 moves a normal range as a whole
pub raised_normal : (extra low high : ℕ) (d : Align) → extra % 8 ≡ 0 → normal (extra + low) (extra + high) d ≡ range_in (raised extra (offsets_in (normal low high d)))
raised_normal extra low high d e =
    let first : ℕ = (low + (factor d - 1)) / factor d * factor d in
    let last : ℕ = high / factor d * factor d in
    let raised_first_end : ℕ = (extra + low + (factor d - 1)) / factor d * factor d in
    let raised_last_end : ℕ = (extra + high) / factor d * factor d in
    let made : ℕ → ℕ → Align → Range = λ l h a. record { low = l; high = h; align = a } in
    let align : (if extra + first == extra + last then align_of (extra + first) else d) ≡ (if first == last then align_of first else d) = aligns first last in
    ap (λ l. made l raised_last_end (if l == raised_last_end then align_of l else d)) (raised_first extra low d e)
    ∙ ap (λ h. made (extra + first) h (if extra + first == h then align_of (extra + first) else d)) (raised_last extra high d e)
    ∙ ap (made (extra + first) (extra + last)) align
  where
    aligns : (first last : ℕ) → (if extra + first == extra + last then align_of (extra + first) else d) ≡ (if first == last then align_of first else d)
    aligns first last =
        cond_both (first == last) (align_of first) d (λ a. (if extra + first == extra + last then align_of (extra + first) else d) ≡ a)
        (λ t. cond-true (extra + first == extra + last) (align_of (extra + first)) d (eq-eqb (extra + first) (extra + last) (ap (λ n. extra + n) (eqb-true first last t))) ∙ raised_align_of extra first e)
        (λ f.
        cond_both (extra + first == extra + last) (align_of (extra + first)) d (λ a. a ≡ d)
        (λ t. let same : extra + first ≡ extra + last = eqb-true (extra + first) (extra + last) t in absurd (eqb-false first last f (omega arith)))
        (λ _. refl))

-- ---- the order

-- a kind of the verifier says at least as much as one whose offsets are `extra` more
abbrev pub IsKindUnder : ℕ → Kind → Kind → Type 0
IsKindUnder extra kind (Scalar outer) = (inner : Range) × (kind ≡ Scalar inner) × IsWithin inner outer
IsKindUnder extra kind (Context offset) = kind ≡ Context offset
IsKindUnder extra kind (Stack offset) = kind ≡ Stack offset
IsKindUnder extra kind (MapValue m outer) = (inner : Offsets) × (kind ≡ MapValue m inner) × IsWithin (range_in (raised extra inner)) (range_in outer)
IsKindUnder extra kind (MaybeValue m id) = kind ≡ MaybeValue m id
IsKindUnder extra kind (MapName m) = kind ≡ MapName m

-- the same where nothing may be known
abbrev pub IsKnownUnder : ℕ → Option Kind → Option Kind → Type 0
IsKnownUnder extra kind None = Unit {0}
IsKnownUnder extra kind (Some outer) = (inner : Kind) × (kind ≡ Some inner) × IsKindUnder extra inner outer

-- of slots of the stack
abbrev pub IsSlotUnder : ℕ → StackSlot → StackSlot → Type 0
IsSlotUnder extra slot (Kept outer) = (inner : Kind) × (slot ≡ Kept inner) × IsKindUnder extra inner outer
IsSlotUnder extra slot (Bytes set) = bit_and (number_bytes slot) set ≡ set

-- and of descriptions
pub record IsDescriptionUnder (extra : ℕ) (d e : Description) : Type 0 where
  pub registers : (i : ℕ) → IsKnownUnder extra (register_of d i) (register_of e i)
  pub slots : (k : ℕ) → IsSlotUnder extra (slot_of d k) (slot_of e k)

pub kind_under_raised : (extra : ℕ) (kind : Kind) → IsKindUnder extra kind (raised_kind extra kind)
kind_under_raised extra (Scalar range) = (range, refl, within_self range)
kind_under_raised extra (Context offset) = refl
kind_under_raised extra (Stack offset) = refl
kind_under_raised extra (MapValue m offsets) = (offsets, refl, within_self (range_in (raised extra offsets)))
kind_under_raised extra (MaybeValue m id) = refl
kind_under_raised extra (MapName m) = refl

kind_under_trans : (extra : ℕ) (a b c : Kind) → IsKindUnder extra a b → IsKindBelow b c → IsKindUnder extra a c
kind_under_trans extra a b (Scalar outer) p (middle, is, within) = grind (arith, within_trans)
kind_under_trans extra a b (Context offset) p is = subst (IsKindUnder extra a) is p
kind_under_trans extra a b (Stack offset) p is = subst (IsKindUnder extra a) is p
kind_under_trans extra a b (MapValue m outer) p (middle, is, within) = grind (arith, within_trans)
kind_under_trans extra a b (MaybeValue m id) p is = subst (IsKindUnder extra a) is p
kind_under_trans extra a b (MapName m) p is = subst (IsKindUnder extra a) is p

known_under_trans : (extra : ℕ) (a b c : Option Kind) → IsKnownUnder extra a b → IsBelow b c → IsKnownUnder extra a c
known_under_trans extra a b None p q = tt
known_under_trans extra a b (Some outer) p (middle, is, within) = grind (arith, kind_under_trans)

-- a slot under one that keeps a kind knows the same bytes to hold numbers
pub under_mask : (extra : ℕ) (a b : Kind) → IsKindUnder extra a b → number_bytes (Kept a) ≡ number_bytes (Kept b)
under_mask extra a (Scalar outer) (inner, is, within) = ap (λ k. number_bytes (Kept k)) is
under_mask extra a (Context offset) is = ap (λ k. number_bytes (Kept k)) is
under_mask extra a (Stack offset) is = ap (λ k. number_bytes (Kept k)) is
under_mask extra a (MapValue m offsets) (inner, is, within) = ap (λ k. number_bytes (Kept k)) is
under_mask extra a (MaybeValue m id) is = ap (λ k. number_bytes (Kept k)) is
under_mask extra a (MapName m) is = ap (λ k. number_bytes (Kept k)) is

slot_under_trans : (extra : ℕ) (a b c : StackSlot) → IsSlotUnder extra a b → IsSlotBelow b c → IsSlotUnder extra a c
slot_under_trans extra a b (Kept outer) p (middle, is, within) = grind (arith, kind_under_trans)
slot_under_trans extra a (Kept kind) (Bytes set) (inner, is, within) q =
    ap (λ slot. bit_and (number_bytes slot) set) is ∙ ap (λ n. bit_and n set) (under_mask extra inner kind within) ∙ q
slot_under_trans extra a (Bytes more) (Bytes set) p q =
    ap (bit_and (number_bytes a)) (sym q) ∙ sym (and_assoc set (number_bytes a) more) ∙ ap (λ n. bit_and n set) p ∙ q

-- what is under something is under all that is above that
pub description_under_trans : (extra : ℕ) (c d e : Description) → IsDescriptionUnder extra c d → IsDescriptionBelow d e → IsDescriptionUnder extra c e
description_under_trans extra c d e p q = grind (arith, known_under_trans, slot_under_trans)

-- ---- joins

raised_join_within : (extra : ℕ) (a b c : Offsets) → IsWithin (range_in (raised extra a)) (range_in c) → IsWithin (range_in (raised extra b)) (range_in c) → IsWithin (range_in (raised extra (offsets_in (join_of_ranges (range_in a) (range_in b))))) (range_in c)
raised_join_within extra a b c p q = grind (arith, join_within)

kinds_join_under : (extra : ℕ) (a b c : Kind) → IsKindUnder extra a c → IsKindUnder extra b c → IsKnownUnder extra (join_of_kinds a b) (Some c)
kinds_join_under extra a b (MapValue m c) (x, left, within) (y, right, also) =
    let offsets : Offsets = offsets_in (join_of_ranges (range_in x) (range_in y)) in
    let join : join_of_kinds a b ≡ Some (MapValue m offsets) = rw (left, right) (join_of_values m x y) in
    (MapValue m offsets, join, (offsets, refl, raised_join_within extra x y c within also))
kinds_join_under extra a b (Scalar c) p q = kinds_join_below a b (Scalar c) p q
kinds_join_under extra a b (Context k) p q = kinds_join_below a b (Context k) p q
kinds_join_under extra a b (Stack k) p q = kinds_join_below a b (Stack k) p q
kinds_join_under extra a b (MaybeValue m i) p q = kinds_join_below a b (MaybeValue m i) p q
kinds_join_under extra a b (MapName m) p q = kinds_join_below a b (MapName m) p q

registers_join_under : (extra : ℕ) (a b c : Option Kind) → IsKnownUnder extra a c → IsKnownUnder extra b c → IsKnownUnder extra (join_of_registers a b) c
registers_join_under extra a b None p q = tt
registers_join_under extra a b (Some c) (x, left, within) (y, right, also) = rw (left, right) (kinds_join_under extra x y c within also)

slots_join_under : (extra : ℕ) (a b c : StackSlot) → IsSlotUnder extra a c → IsSlotUnder extra b c → IsSlotUnder extra (join_of_slots a b) c
slots_join_under extra a b (Kept c) (x, left, within) (y, right, also) =
    let join = kinds_join_under extra x y c within also in
    rw (left, right) (join.0, ap (λ o. kept_or_bytes o 0) join.1, join.2)
slots_join_under extra a b (Bytes set) p q = slots_join_below a b (Bytes set) p q

-- the join of two descriptions is under each description that both are under
pub join_under : (extra : ℕ) (d e above : Description) → IsDescription d → IsDescription e → IsDescriptionUnder extra d above → IsDescriptionUnder extra e above → IsDescriptionUnder extra (join_of d e) above
join_under extra d e above p q left right = record {
  registers = λ i. rw (register_of-join d e p q i) (registers_join_under extra (register_of d i) (register_of e i) (register_of above i) (left.registers i) (right.registers i));
  slots = λ k. rw (slot_of-join d e p q k) (slots_join_under extra (slot_of d k) (slot_of e k) (slot_of above k) (left.slots k) (right.slots k));
}
