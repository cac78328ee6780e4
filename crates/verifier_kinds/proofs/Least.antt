-- A join is the least above both: it is below all that is above both.
use Rattle.std.proofs.Common.{◌≡◌, ℕ, ◌≤◌, ◌∙◌, ◌==◌, ◌&&◌, true, nat_le, bit_and, Option, Some, None, ℤ, refl, ap, arith}
use Rattle.std.proofs.lemmas.Nat.{and_assoc}
use Rattle.std.proofs.lemmas.Int.{ints}
use Rattle.std.proofs.lemmas.Bool.{and_from, cond_both, cond-true, eq-eqb}
use Rattle.verifier_kinds.specs.declared.kind.Align.{Align}
use Rattle.verifier_kinds.specs.declared.kind.Range.{Range}
use Rattle.verifier_kinds.specs.declared.kind.Offsets.{Offsets}
use Rattle.verifier_kinds.specs.declared.kind.Kind.{Kind}
use Rattle.verifier_kinds.specs.declared.kind.Kind.TheVariants.{Scalar, Context, Stack, MapValue, MaybeValue, MapName}
use Rattle.verifier_kinds.specs.declared.description.StackSlot.{StackSlot}
use Rattle.verifier_kinds.specs.declared.description.StackSlot.TheVariants.{Kept, Bytes}
use Rattle.verifier_kinds.specs.declared.description.Description.{Description}
use Rattle.verifier_kinds.specs.Kinds.{IsWithin, IsKindBelow, IsBelow, rank, least_align, is_same, range_in, offsets_in, join_of_ranges, join_of_kinds}
use Rattle.verifier_kinds.specs.Descriptions.{IsDescription, IsSlotBelow, IsDescriptionBelow, number_bytes, register_of, slot_of, kept_or_bytes, join_of_registers, join_of_slots, join_of}
use Rattle.verifier_kinds.proofs.Moves.{int_le_true}
use Rattle.verifier_kinds.proofs.Order.{within_self}
use Rattle.verifier_kinds.proofs.Joins.{register_of-join, slot_of-join}

above_least : (a b c : Align) → rank c ≤ rank a → rank c ≤ rank b → rank c ≤ rank (least_align a b)
above_least a b c p q = cond_both (nat_le (rank a) (rank b)) a b (λ d. rank c ≤ rank d) (λ _. p) (λ _. q)

pub join_within : (a b c : Range) → IsWithin a c → IsWithin b c → IsWithin (join_of_ranges a b) c
join_within a b c p q = record { low = omega arith; high = omega arith; aligned = above_least a.align b.align c.align p.aligned q.aligned }

same_as_itself : (a : ℤ) → is_same a a ≡ true
same_as_itself a = grind (arith, true, int_le_true, ints, and_from)

-- the join of two pointers to the values of one map
pub join_of_values : (m : ℕ) (a b : Offsets) → join_of_kinds (MapValue m a) (MapValue m b) ≡ Some (MapValue m (offsets_in (join_of_ranges (range_in a) (range_in b))))
join_of_values m a b = cond-true (m == m) (Some (MapValue m (offsets_in (join_of_ranges (range_in a) (range_in b))))) None (eq-eqb m m refl)

-- the join of a kind with itself
join_with_itself : (a : Kind) → IsBelow (join_of_kinds a a) (Some a)
join_with_itself (Scalar a) = (Scalar (join_of_ranges a a), refl, (join_of_ranges a a, refl, join_within a a a (within_self a) (within_self a)))
join_with_itself (Context k) = (Context k, cond-true (is_same k k) (Some (Context k)) None (same_as_itself k), refl)
join_with_itself (Stack k) = (Stack k, cond-true (is_same k k) (Some (Stack k)) None (same_as_itself k), refl)
join_with_itself (MapValue m a) =
    let join : Range = join_of_ranges (range_in a) (range_in a) in
    let within : IsWithin join (range_in a) = join_within (range_in a) (range_in a) (range_in a) (within_self (range_in a)) (within_self (range_in a)) in
    (MapValue m (offsets_in join), join_of_values m a a, (offsets_in join, refl, within))
join_with_itself (MaybeValue m i) =
    (MaybeValue m i, cond-true ((m == m) && (i == i)) (Some (MaybeValue m i)) None (and_from (m == m) (i == i) (eq-eqb m m refl) (eq-eqb i i refl)), refl)
join_with_itself (MapName m) = (MapName m, cond-true (m == m) (Some (MapName m)) None (eq-eqb m m refl), refl)

pub kinds_join_below : (a b c : Kind) → IsKindBelow a c → IsKindBelow b c → IsBelow (join_of_kinds a b) (Some c)
kinds_join_below a b (Scalar c) (x, left, within) (y, right, also) =
    let join : join_of_kinds a b ≡ Some (Scalar (join_of_ranges x y)) = rw (left, right) refl in
    (Scalar (join_of_ranges x y), join, (join_of_ranges x y, refl, join_within x y c within also))
kinds_join_below a b (Context k) left right = rw (left, right) (join_with_itself (Context k))
kinds_join_below a b (Stack k) left right = rw (left, right) (join_with_itself (Stack k))
kinds_join_below a b (MapValue m c) (x, left, within) (y, right, also) =
    let offsets : Offsets = offsets_in (join_of_ranges (range_in x) (range_in y)) in
    let join : join_of_kinds a b ≡ Some (MapValue m offsets) = rw (left, right) (join_of_values m x y) in
    (MapValue m offsets, join, (offsets, refl, join_within (range_in x) (range_in y) (range_in c) within also))
kinds_join_below a b (MaybeValue m i) left right = rw (left, right) (join_with_itself (MaybeValue m i))
kinds_join_below a b (MapName m) left right = rw (left, right) (join_with_itself (MapName m))

pub registers_join_below : (a b c : Option Kind) → IsBelow a c → IsBelow b c → IsBelow (join_of_registers a b) c
registers_join_below a b None p q = tt
registers_join_below a b (Some c) (x, left, within) (y, right, also) =
    rw (left, right) (kinds_join_below x y c within also)

kept_join_mask : (a b : Kind) (set : ℕ) → bit_and (number_bytes (Kept a)) set ≡ set → bit_and (number_bytes (Kept b)) set ≡ set → bit_and (number_bytes (kept_or_bytes (join_of_kinds a b) 0)) set ≡ set
kept_join_mask (Scalar a) (Scalar b) set p q = p
kept_join_mask (Scalar a) pointer set p q = q
kept_join_mask (Context a) (Context b) set p q = cond_both (is_same a b) (Some (Context a)) None (λ o. bit_and (number_bytes (kept_or_bytes o 0)) set ≡ set) (λ _. p) (λ _. p)
kept_join_mask (Stack a) (Stack b) set p q = cond_both (is_same a b) (Some (Stack a)) None (λ o. bit_and (number_bytes (kept_or_bytes o 0)) set ≡ set) (λ _. p) (λ _. p)
kept_join_mask (MapValue m a) (MapValue n b) set p q =
    cond_both (m == n) (Some (MapValue m (offsets_in (join_of_ranges (range_in a) (range_in b))))) None (λ o. bit_and (number_bytes (kept_or_bytes o 0)) set ≡ set) (λ _. p) (λ _. p)
kept_join_mask (MaybeValue m i) (MaybeValue n j) set p q = cond_both ((m == n) && (i == j)) (Some (MaybeValue m i)) None (λ o. bit_and (number_bytes (kept_or_bytes o 0)) set ≡ set) (λ _. p) (λ _. p)
kept_join_mask (MapName m) (MapName n) set p q = cond_both (m == n) (Some (MapName m)) None (λ o. bit_and (number_bytes (kept_or_bytes o 0)) set ≡ set) (λ _. p) (λ _. p)
kept_join_mask pointer b set p q = p

mask_join : (p q set : ℕ) → bit_and p set ≡ set → bit_and q set ≡ set → bit_and (bit_and p q) set ≡ set
mask_join p q set left right = and_assoc set p q ∙ ap (bit_and p) right ∙ left

pub slots_join_below : (a b c : StackSlot) → IsSlotBelow a c → IsSlotBelow b c → IsSlotBelow (join_of_slots a b) c
slots_join_below a b (Kept c) (x, left, within) (y, right, also) =
    let join = kinds_join_below x y c within also in
    rw (left, right) (join.0, ap (λ o. kept_or_bytes o 0) join.1, join.2)
slots_join_below (Kept a) (Kept b) (Bytes set) p q = kept_join_mask a b set p q
slots_join_below (Kept a) (Bytes y) (Bytes set) p q = mask_join (number_bytes (Kept a)) y set p q
slots_join_below (Bytes x) (Kept b) (Bytes set) p q = mask_join x (number_bytes (Kept b)) set p q
slots_join_below (Bytes x) (Bytes y) (Bytes set) p q = mask_join x y set p q

-- the join of two descriptions is below each description that is above both
pub join_below : (d e above : Description) → IsDescription d → IsDescription e → IsDescriptionBelow d above → IsDescriptionBelow e above → IsDescriptionBelow (join_of d e) above
join_below d e above p q left right = record {
  registers = λ i. rw (register_of-join d e p q i) (registers_join_below (register_of d i) (register_of e i) (register_of above i) (left.registers i) (right.registers i));
  slots = λ k. rw (slot_of-join d e p q k) (slots_join_below (slot_of d k) (slot_of e k) (slot_of above k) (left.slots k) (right.slots k));
}
