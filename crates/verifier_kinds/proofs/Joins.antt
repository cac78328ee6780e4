-- Joins: a join is above both, and keeps what each description meets.
use Rattle.std.proofs.Common.{◌≡◌, ℕ, zero, suc, ◌%◌, ◌<◌, ◌≤◌, ◌∙◌, ◌==◌, ◌&&◌, true, min, max, nat_le, bit_and, List, [], ◌∷◌, length, get_or, Option, Some, None, IfSome, ℤ, refl, sym, ap, arith}
use Rattle.std.specs.Int.Bits.{and_self}
use Rattle.std.proofs.lemmas.Nat.{and_assoc, and_comm, and_le_l, and_le_r}
use Rattle.std.proofs.lemmas.Int.{ints}
use Rattle.std.proofs.lemmas.Bool.{and_parts, cond_both, eqb-true, leb-false}
use Rattle.std.proofs.lemmas.List.{ext_get_or}
use Rattle.std.proofs.lemmas.Option.{same_Some}
use Rattle.verifier_kinds.specs.declared.kind.Align.{Align}
use Rattle.verifier_kinds.specs.declared.kind.Align.TheVariants.{One, Two, Four, Eight}
use Rattle.verifier_kinds.specs.declared.kind.Range.{Range}
use Rattle.verifier_kinds.specs.declared.kind.Offsets.{Offsets}
use Rattle.verifier_kinds.specs.declared.kind.Kind.{Kind}
use Rattle.verifier_kinds.specs.declared.kind.Kind.TheVariants.{Scalar, Context, Stack, MapValue, MaybeValue, MapName}
use Rattle.verifier_kinds.specs.declared.description.StackSlot.{StackSlot}
use Rattle.verifier_kinds.specs.declared.description.StackSlot.TheVariants.{Kept, Bytes}
use Rattle.verifier_kinds.specs.declared.description.Description.{Description}
use Rattle.verifier_kinds.specs.Kinds.{IsWithin, IsBelow, IsKind, IsNormal, AreOffsets, factor, rank, least_align, is_same, range_in, offsets_in, join_of_ranges, join_of_kinds}
use Rattle.verifier_kinds.specs.Descriptions.{IsDescription, IsSlot, IsSlotBelow, IsDescriptionBelow, number_bytes, register_of, slot_of, joined_with, kept_or_bytes, join_of_registers, join_of_slots, join_of}
use Rattle.verifier_kinds.proofs.Moves.{true_int_le}
use Rattle.verifier_kinds.proofs.Ranges.{divided_by_least_left, divided_by_least_right, least_align_comm}

-- ---- ranges

-- the least alignment is below both
pub least_below_left : (a b : Align) → rank (least_align a b) ≤ rank a
least_below_left a b =
    cond_both (nat_le (rank a) (rank b)) a b (λ d. rank d ≤ rank a) (λ _. omega arith) (λ f. omega (arith, leb-false (rank a) (rank b) f))

pub least_below_right : (a b : Align) → rank (least_align a b) ≤ rank b
least_below_right a b = rw (least_align_comm a b) (least_below_left b a)

least_align_self : (a : Align) → least_align a a ≡ a
least_align_self One = refl
least_align_self Two = refl
least_align_self Four = refl
least_align_self Eight = refl

min_divided : (d : Align) (x y : ℕ) → x % factor d ≡ 0 → y % factor d ≡ 0 → min x y % factor d ≡ 0
min_divided One x y p q = omega arith
min_divided Two x y p q = omega arith
min_divided Four x y p q = omega arith
min_divided Eight x y p q = omega arith

max_divided : (d : Align) (x y : ℕ) → x % factor d ≡ 0 → y % factor d ≡ 0 → max x y % factor d ≡ 0
max_divided One x y p q = omega arith
max_divided Two x y p q = omega arith
max_divided Four x y p q = omega arith
max_divided Eight x y p q = omega arith

pub range_below_join_left : (a b : Range) → IsWithin a (join_of_ranges a b)
range_below_join_left a b = record { low = omega arith; high = omega arith; aligned = least_below_left a.align b.align }

pub range_below_join_right : (a b : Range) → IsWithin b (join_of_ranges a b)
range_below_join_right a b = record { low = omega arith; high = omega arith; aligned = least_below_right a.align b.align }

pub join_is_normal : (a b : Range) → IsNormal a → IsNormal b → IsNormal (join_of_ranges a b)
join_is_normal a b p q = grind (arith, min_divided, divided_by_least_left, divided_by_least_right, max_divided, min, least_align_self)

-- ---- kinds

pub same_offset : (a b : ℤ) → is_same a b ≡ true → a ≡ b
same_offset a b t = grind (arith, and_parts, true_int_le, ints)

-- the least offsets above two
abbrev joined_offsets : Offsets → Offsets → Offsets
joined_offsets a b = offsets_in (join_of_ranges (range_in a) (range_in b))

joined_are_offsets : (a b : Offsets) → AreOffsets a → AreOffsets b → AreOffsets (joined_offsets a b)
joined_are_offsets a b p q =
    let left = p.below in
    let right = q.below in
    record { normal = join_is_normal (range_in a) (range_in b) p.normal q.normal; below = omega arith }

-- answers of one lookup in one map
pub same_maybe : (m n i j : ℕ) → ((m == n) && (i == j)) ≡ true → MaybeValue n j ≡ MaybeValue m i
same_maybe m n i j t = grind (arith, and_parts, eqb-true)

pub kind_below_join_left : (a b : Kind) → IsBelow (Some a) (join_of_kinds a b)
kind_below_join_left (Scalar a) (Scalar b) = (Scalar a, refl, (a, refl, range_below_join_left a b))
kind_below_join_left (Context a) (Context b) = cond_both (is_same a b) (Some (Context a)) None (IsBelow (Some (Context a))) (λ _. (Context a, refl, refl)) (λ _. tt)
kind_below_join_left (Stack a) (Stack b) = cond_both (is_same a b) (Some (Stack a)) None (IsBelow (Some (Stack a))) (λ _. (Stack a, refl, refl)) (λ _. tt)
kind_below_join_left (MapValue m a) (MapValue n b) = grind (arith, cond_both, range_below_join_left)
kind_below_join_left (MaybeValue m i) (MaybeValue n j) =
    cond_both ((m == n) && (i == j)) (Some (MaybeValue m i)) None (IsBelow (Some (MaybeValue m i))) (λ _. (MaybeValue m i, refl, refl)) (λ _. tt)
kind_below_join_left (MapName m) (MapName n) = cond_both (m == n) (Some (MapName m)) None (IsBelow (Some (MapName m))) (λ _. (MapName m, refl, refl)) (λ _. tt)
kind_below_join_left a b = tt

pub kind_below_join_right : (a b : Kind) → IsBelow (Some b) (join_of_kinds a b)
kind_below_join_right (Scalar a) (Scalar b) = (Scalar b, refl, (b, refl, range_below_join_right a b))
kind_below_join_right (Context a) (Context b) = cond_both (is_same a b) (Some (Context a)) None (IsBelow (Some (Context b))) (λ t. (Context b, refl, ap Context (sym (same_offset a b t)))) (λ _. tt)
kind_below_join_right (Stack a) (Stack b) = cond_both (is_same a b) (Some (Stack a)) None (IsBelow (Some (Stack b))) (λ t. (Stack b, refl, ap Stack (sym (same_offset a b t)))) (λ _. tt)
kind_below_join_right (MapValue m a) (MapValue n b) = grind (arith, cond_both, eqb-true, range_below_join_right)
kind_below_join_right (MaybeValue m i) (MaybeValue n j) =
    cond_both ((m == n) && (i == j)) (Some (MaybeValue m i)) None (IsBelow (Some (MaybeValue n j))) (λ t. (MaybeValue n j, refl, same_maybe m n i j t)) (λ _. tt)
kind_below_join_right (MapName m) (MapName n) =
    cond_both (m == n) (Some (MapName m)) None (IsBelow (Some (MapName n))) (λ t. (MapName n, refl, ap MapName (sym (eqb-true m n t)))) (λ _. tt)
kind_below_join_right a b = tt

pub join_is_kind : (a b : Kind) → IsKind a → IsKind b → IfSome (join_of_kinds a b) IsKind
join_is_kind (Scalar a) (Scalar b) p q = join_is_normal a b p q
join_is_kind (Context a) (Context b) p q = cond_both (is_same a b) (Some (Context a)) None (λ o. IfSome o IsKind) (λ _. p) (λ _. tt)
join_is_kind (Stack a) (Stack b) p q = cond_both (is_same a b) (Some (Stack a)) None (λ o. IfSome o IsKind) (λ _. p) (λ _. tt)
join_is_kind (MapValue m a) (MapValue n b) p q =
    cond_both (m == n) (Some (MapValue m (joined_offsets a b))) None (λ o. IfSome o IsKind) (λ _. joined_are_offsets a b p q) (λ _. tt)
join_is_kind (MaybeValue m i) (MaybeValue n j) p q = cond_both ((m == n) && (i == j)) (Some (MaybeValue m i)) None (λ o. IfSome o IsKind) (λ _. tt) (λ _. tt)
join_is_kind (MapName m) (MapName n) p q = cond_both (m == n) (Some (MapName m)) None (λ o. IfSome o IsKind) (λ _. tt) (λ _. tt)
join_is_kind a b p q = tt

-- ---- registers

pub register_below_join_left : (a b : Option Kind) → IsBelow a (join_of_registers a b)
register_below_join_left (Some a) (Some b) = kind_below_join_left a b
register_below_join_left (Some a) None = tt
register_below_join_left None b = tt

pub register_below_join_right : (a b : Option Kind) → IsBelow b (join_of_registers a b)
register_below_join_right (Some a) (Some b) = kind_below_join_right a b
register_below_join_right (Some a) None = tt
register_below_join_right None b = tt

pub join_of_registers_is_kind : (a b : Option Kind) → IfSome a IsKind → IfSome b IsKind → IfSome (join_of_registers a b) IsKind
join_of_registers_is_kind (Some a) (Some b) p q = join_is_kind a b p q
join_of_registers_is_kind (Some a) None p q = tt
join_of_registers_is_kind None b p q = tt

-- ---- slots of the stack

and_again : (p q : ℕ) → bit_and p (bit_and p q) ≡ bit_and p q
and_again p q = sym (and_assoc q p p) ∙ ap (λ n. bit_and n q) (and_self p)

and_again_right : (p q : ℕ) → bit_and q (bit_and p q) ≡ bit_and p q
and_again_right p q = ap (bit_and q) (and_comm p q) ∙ and_again q p ∙ and_comm q p

no_mask : (p : ℕ) → bit_and p 0 ≡ 0
no_mask p = omega (arith, and_le_r p 0)

kept_below : (a : Kind) (o : Option Kind) → IsBelow (Some a) o → IsSlotBelow (Kept a) (kept_or_bytes o 0)
kept_below a (Some outer) (inner, is, within) = (inner, ap Kept (same_Some a inner is), within)
kept_below a None h = no_mask (number_bytes (Kept a))

pub slot_below_join_left : (a b : StackSlot) → IsSlotBelow a (join_of_slots a b)
slot_below_join_left (Kept a) (Kept b) = kept_below a (join_of_kinds a b) (kind_below_join_left a b)
slot_below_join_left (Kept a) (Bytes set) = and_again (number_bytes (Kept a)) set
slot_below_join_left (Bytes set) (Kept b) = and_again set (number_bytes (Kept b))
slot_below_join_left (Bytes set) (Bytes more) = and_again set more

pub slot_below_join_right : (a b : StackSlot) → IsSlotBelow b (join_of_slots a b)
slot_below_join_right (Kept a) (Kept b) = kept_below b (join_of_kinds a b) (kind_below_join_right a b)
slot_below_join_right (Kept a) (Bytes set) = and_again_right (number_bytes (Kept a)) set
slot_below_join_right (Bytes set) (Kept b) = and_again_right set (number_bytes (Kept b))
slot_below_join_right (Bytes set) (Bytes more) = and_again_right set more

pub mask_fit : (slot : StackSlot) → IsSlot slot → number_bytes slot < 256
mask_fit (Kept (Scalar range)) h = omega arith
mask_fit (Kept pointer) h = omega arith
mask_fit (Bytes set) h = h

joined_mask_fit : (a b : StackSlot) → IsSlot a → bit_and (number_bytes a) (number_bytes b) < 256
joined_mask_fit a b h = omega (arith, and_le_l (number_bytes a) (number_bytes b), mask_fit a h)

kept_is_slot : (o : Option Kind) → IfSome o IsKind → IsSlot (kept_or_bytes o 0)
kept_is_slot (Some kind) h = h
kept_is_slot None h = omega arith

pub join_is_slot : (a b : StackSlot) → IsSlot a → IsSlot b → IsSlot (join_of_slots a b)
join_is_slot (Kept a) (Kept b) p q = kept_is_slot (join_of_kinds a b) (join_is_kind a b p q)
join_is_slot (Kept a) (Bytes set) p q = joined_mask_fit (Kept a) (Bytes set) p
join_is_slot (Bytes set) (Kept b) p q = joined_mask_fit (Bytes set) (Kept b) p
join_is_slot (Bytes set) (Bytes more) p q = joined_mask_fit (Bytes set) (Bytes more) p

-- ---- descriptions

pub length-joined_with : {X : Type 0} (f : X → X → X) (xs ys : List X) → length xs ≡ length ys → length (joined_with f xs ys) ≡ length xs
length-joined_with f [] ys e = refl
length-joined_with f (x ∷ xs) [] e = absurd (omega arith)
length-joined_with f (x ∷ xs) (y ∷ ys) e = ap suc (length-joined_with f xs ys (omega arith))

-- a merged list has at each offset what the two merge to there
pub get_or-joined_with : {X : Type 0} (f : X → X → X) (d : X) → f d d ≡ d → (xs ys : List X) (i : ℕ) → length xs ≡ length ys → get_or (joined_with f xs ys) i d ≡ f (get_or xs i d) (get_or ys i d)
get_or-joined_with f d same [] [] i e = sym same
get_or-joined_with f d same [] (y ∷ ys) i e = absurd (omega arith)
get_or-joined_with f d same (x ∷ xs) [] i e = absurd (omega arith)
get_or-joined_with f d same (x ∷ xs) (y ∷ ys) zero e = refl
get_or-joined_with f d same (x ∷ xs) (y ∷ ys) (suc i) e = get_or-joined_with f d same xs ys i (omega arith)

-- a list that has that at each offset is the merged list
pub merged_by_index : {X : Type 0} (f : X → X → X) (d : X) → f d d ≡ d → (xs ys zs : List X) → length xs ≡ length ys → length zs ≡ length xs → ((k : ℕ) → k < length zs → get_or zs k d ≡ f (get_or xs k d) (get_or ys k d)) → zs ≡ joined_with f xs ys
merged_by_index f d same xs ys zs e n each =
    ext_get_or d zs (joined_with f xs ys) (n ∙ sym (length-joined_with f xs ys e))
    (λ k h. each k h ∙ sym (get_or-joined_with f d same xs ys k e))

pub register_of-join : (d e : Description) → IsDescription d → IsDescription e → (i : ℕ) → register_of (join_of d e) i ≡ join_of_registers (register_of d i) (register_of e i)
register_of-join d e p q i = get_or-joined_with join_of_registers None refl d.registers e.registers i (p.registers ∙ sym q.registers)

pub slot_of-join : (d e : Description) → IsDescription d → IsDescription e → (k : ℕ) → slot_of (join_of d e) k ≡ join_of_slots (slot_of d k) (slot_of e k)
slot_of-join d e p q k = get_or-joined_with join_of_slots (Bytes 0) refl d.stack e.stack k (p.stack ∙ sym q.stack)

-- both descriptions are below their join
pub below_join_left : (d e : Description) → IsDescription d → IsDescription e → IsDescriptionBelow d (join_of d e)
below_join_left d e p q = grind (arith, register_of-join, register_below_join_left, slot_of-join, slot_below_join_left)

pub below_join_right : (d e : Description) → IsDescription d → IsDescription e → IsDescriptionBelow e (join_of d e)
below_join_right d e p q = grind (arith, register_of-join, register_below_join_right, slot_of-join, slot_below_join_right)

-- the join of two descriptions is one
pub join_is_description : (d e : Description) → IsDescription d → IsDescription e → IsDescription (join_of d e)
join_is_description d e p q = grind (arith, length-joined_with, register_of-join, join_of_registers_is_kind, slot_of-join, join_is_slot)
