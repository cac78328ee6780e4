-- What each description of the verifier meets, and that it is kept.
use Rattle.std.proofs.Common.{◌≡◌, ◌≢◌, ℕ, zero, suc, ◌+◌, ◌<◌, ◌==◌, ◌∙◌, pos, List, [], ◌∷◌, length, map, get_or, slice_set, replicate, Option, Some, None, IfSome, refl, sym, subst, arith, below_more}
use Rattle.std.specs.Prelude.{option_map}
use Rattle.std.proofs.lemmas.Int.{ints}
use Rattle.std.proofs.lemmas.Bool.{cond_both}
use Rattle.std.proofs.lemmas.List.{ext_get_or, get_or-set_same, get_or-set_other, length-map, length-set}
use Rattle.verifier_kinds.specs.declared.kind.Kind.{Kind}
use Rattle.verifier_kinds.specs.declared.kind.Kind.TheVariants.{Context, Stack, MaybeValue}
use Rattle.verifier_kinds.specs.declared.description.StackSlot.{StackSlot}
use Rattle.verifier_kinds.specs.declared.description.Description.{Description}
use Rattle.verifier_kinds.specs.declared.description.StackSlot.TheVariants.{Kept, Bytes}
use Rattle.verifier_kinds.specs.Kinds.{IsKind, IsOffset}
use Rattle.verifier_kinds.specs.Descriptions.{IsDescription, IsSlot, register_of, slot_of, with_answer_known, resolved_kind, resolved_slot, start_description, with_kind, with_slot, with_unset}

-- a list of one value has that value at each offset
pub get_or-one : {X : Type 0} (n k : ℕ) (x : X) → get_or (replicate n x) k x ≡ x
get_or-one zero k x = refl
get_or-one (suc n) zero x = refl
get_or-one (suc n) (suc k) x = get_or-one n k x

pub zero_is_offset : IsOffset (pos 0)
zero_is_offset = record { above = omega (arith, ints); below = omega (arith, ints) }

-- at the start two registers are known: R1 points to the context, and R10 to the end of the stack
pub start_registers : (P : Kind → Type 0) → P (Context (pos 0)) → P (Stack (pos 0)) → (i : ℕ) → IfSome (register_of start_description i) P
start_registers P context stack zero = tt
start_registers P context stack (suc zero) = context
start_registers P context stack (suc (suc zero)) = tt
start_registers P context stack (suc (suc (suc zero))) = tt
start_registers P context stack (suc (suc (suc (suc zero)))) = tt
start_registers P context stack (suc (suc (suc (suc (suc zero))))) = tt
start_registers P context stack (suc (suc (suc (suc (suc (suc zero)))))) = tt
start_registers P context stack (suc (suc (suc (suc (suc (suc (suc zero))))))) = tt
start_registers P context stack (suc (suc (suc (suc (suc (suc (suc (suc zero)))))))) = tt
start_registers P context stack (suc (suc (suc (suc (suc (suc (suc (suc (suc zero))))))))) = tt
start_registers P context stack (suc (suc (suc (suc (suc (suc (suc (suc (suc (suc zero)))))))))) = stack
start_registers P context stack (suc (suc (suc (suc (suc (suc (suc (suc (suc (suc (suc i))))))))))) = tt

start_slots : (k : ℕ) → IsSlot (slot_of start_description k)
start_slots k = subst IsSlot (sym (get_or-one 64 k (Bytes 0))) (omega arith)

-- the description with which a program begins
pub start_is_description : IsDescription start_description
start_is_description = record { registers = refl; stack = refl; kinds = start_registers IsKind zero_is_offset zero_is_offset; slots = start_slots }

-- ---- what is known of one register or one slot of the stack

-- a replaced element has what all elements have
pub set_has : {X : Type 0} (P : X → Type 0) (xs : List X) (i k : ℕ) (x d : X) → P x → P (get_or xs k d) → P (get_or (slice_set xs i x) k d)
set_has P [] i k x d p h = h
set_has P (y ∷ xs) zero zero x d p h = p
set_has P (y ∷ xs) zero (suc k) x d p h = h
set_has P (y ∷ xs) (suc i) zero x d p h = h
set_has P (y ∷ xs) (suc i) (suc k) x d p h = set_has P xs i k x d p h

pub with_kind_is_description : (d : Description) (i : ℕ) (kind : Kind) → IsKind kind → IsDescription d → IsDescription (with_kind d i kind)
with_kind_is_description d i kind p q = record {
  registers = length-set d.registers i (Some kind) ∙ q.registers;
  stack = q.stack;
  kinds = λ k. set_has (λ known. IfSome known IsKind) d.registers i k (Some kind) None p (q.kinds k);
  slots = q.slots;
}

pub with_unset_is_description : (d : Description) (i : ℕ) → IsDescription d → IsDescription (with_unset d i)
with_unset_is_description d i q = record {
  registers = length-set d.registers i None ∙ q.registers;
  stack = q.stack;
  kinds = λ k. set_has (λ known. IfSome known IsKind) d.registers i k None None tt (q.kinds k);
  slots = q.slots;
}

pub with_slot_is_description : (d : Description) (k : ℕ) (slot : StackSlot) → IsSlot slot → IsDescription d → IsDescription (with_slot d k slot)
with_slot_is_description d k slot p q = record {
  registers = q.registers;
  stack = length-set d.stack k slot ∙ q.stack;
  kinds = q.kinds;
  slots = λ j. set_has IsSlot d.stack k j slot (Bytes 0) p (q.slots j);
}

-- ---- once it is known of what kind the answer of a call is

-- a list with each offset changed has at each offset what was there, changed
pub get_or-mapped : {X : Type 0} (f : X → X) (d : X) → f d ≡ d → (xs : List X) (i : ℕ) → get_or (map f xs) i d ≡ f (get_or xs i d)
get_or-mapped f d same [] i = sym same
get_or-mapped f d same (x ∷ xs) zero = refl
get_or-mapped f d same (x ∷ xs) (suc i) = get_or-mapped f d same xs i

-- a list that is right below an offset, and gets at that offset what is right there, is right up to there
pub filled_more : {X : Type 0} (f : ℕ → X) (d : X) (xs : List X) (i : ℕ) (x : X) → i < length xs → ((n : ℕ) → n < i → get_or xs n d ≡ f n) → x ≡ f i → (n : ℕ) → n < i + 1 → get_or (slice_set xs i x) n d ≡ f n
filled_more f d xs i x within below here =
    below_more _ _ (λ n h. let other : n ≢ i = omega arith in get_or-set_other xs i n x d other ∙ below n h) (get_or-set_same xs i x d within ∙ here)

-- and is the list that has that at each offset
pub mapped_by_index : {X : Type 0} (f : X → X) (d : X) → f d ≡ d → (xs zs : List X) → length zs ≡ length xs → ((k : ℕ) → k < length zs → get_or zs k d ≡ f (get_or xs k d)) → zs ≡ map f xs
mapped_by_index f d same xs zs n each =
    ext_get_or d zs (map f xs) (n ∙ sym (length-map xs f)) (λ k h. each k h ∙ sym (get_or-mapped f d same xs k))

pub register_of-with_answer_known : (call : ℕ) (to : Kind) (d : Description) (i : ℕ) → register_of (with_answer_known call to d) i ≡ option_map (resolved_kind call to) (register_of d i)
unfolding with_answer_known
register_of-with_answer_known call to d i = get_or-mapped (option_map (resolved_kind call to)) None refl d.registers i

pub slot_of-with_answer_known : (call : ℕ) (to : Kind) (d : Description) (k : ℕ) → slot_of (with_answer_known call to d) k ≡ resolved_slot call to (slot_of d k)
unfolding with_answer_known
slot_of-with_answer_known call to d k = get_or-mapped (resolved_slot call to) (Bytes 0) refl d.stack k

-- what is said of a kind, and of that of the answer, is said of the resolved kind
pub resolved_kind_has : (P : Kind → Type 0) (call : ℕ) (to kind : Kind) → P to → P kind → P (resolved_kind call to kind)
resolved_kind_has P call to (MaybeValue m id) p q = cond_both (id == call) to (MaybeValue m id) P (λ _. p) (λ _. q)
resolved_kind_has P call to kind p q = q

pub resolved_register_has : (P : Kind → Type 0) (call : ℕ) (to : Kind) (known : Option Kind) → P to → IfSome known P → IfSome (option_map (resolved_kind call to) known) P
resolved_register_has P call to (Some kind) p q = resolved_kind_has P call to kind p q
resolved_register_has P call to None p q = tt

resolved_is_slot : (call : ℕ) (to : Kind) (slot : StackSlot) → IsKind to → IsSlot slot → IsSlot (resolved_slot call to slot)
resolved_is_slot call to (Kept kind) p q = resolved_kind_has IsKind call to kind p q
resolved_is_slot call to (Bytes set) p q = q

pub resolved_is_description : (call : ℕ) (to : Kind) (d : Description) → IsKind to → IsDescription d → IsDescription (with_answer_known call to d)
unfolding with_answer_known
resolved_is_description call to d p q = grind (arith, length-map, get_or-mapped, resolved_register_has, resolved_is_slot)
