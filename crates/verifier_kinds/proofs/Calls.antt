-- Calls of lookups: which of them a description names, and what is known once the answer of one is.
use Rattle.std.proofs.Common.{◌≡◌, ℕ, ◌<◌, ◌≤◌, ◌*◌, ◌==◌, ◌&&◌, ◌∙◌, ℤ, pos, List, get_or, Option, Some, None, IfSome, Ok, inl, inr, sym, subst, arith}
use Rattle.std.specs.Prelude.{IsSome, IsSomeAnd, option_map, if◌then◌else◌}
use Rattle.std.proofs.lemmas.Bool.{cases_Bool, cond_both, cond-true, cond-false, eqb-true}
use Rattle.bpf_decode.specs.declared.operation.Width.{Width}
use Rattle.bpf_decode.specs.declared.operation.Width.TheVariants.{Bits32, Bits64}
use Rattle.bpf_decode.specs.declared.operation.AluCode.{AluCode}
use Rattle.bpf_decode.specs.declared.operation.AluCode.TheVariants.{Add, Sub, Mov}
use Rattle.host_types.specs.Bytes.{number_of, part_of}
use Rattle.verifier_kinds.specs.declared.kind.Range.{Range}
use Rattle.verifier_kinds.specs.declared.kind.Offsets.{Offsets}
use Rattle.verifier_kinds.specs.declared.kind.Kind.{Kind}
use Rattle.verifier_kinds.specs.declared.kind.Kind.TheVariants.{Scalar, Context, Stack, MapValue, MaybeValue, MapName}
use Rattle.verifier_kinds.specs.declared.description.StackSlot.{StackSlot}
use Rattle.verifier_kinds.specs.declared.description.StackSlot.TheVariants.{Kept, Bytes}
use Rattle.verifier_kinds.specs.declared.description.Description.{Description}
use Rattle.verifier_kinds.specs.Kinds.{Setting, Describes, IsAnswer, IsByElement, IsKind, IsNormalKind, IsOfCallBelow, IsOfKind, join_of_kinds, shape_at}
use Rattle.verifier_kinds.specs.Descriptions.{DescribesRegisters, DescribesSlot, DescribesStack, IsDescription, IsLawfulAt, IsNormalSlot, IsOfCallsBelow, IsSlot, IsSlotOfCallBelow, join_of, join_of_registers, join_of_slots, kept_or_bytes, register_of, with_answer_known, resolved_kind, resolved_slot, slot_of, start_description, with_kind, with_slot, with_unset}
use Rattle.verifier_kinds.specs.Arithmetic.{arith_by, copied, displaced, displaced_value, kind_of, kind_with_dst, moved_number}
use Rattle.verifier_kinds.proofs.Descriptions.{get_or-one, start_registers, register_of-with_answer_known, resolved_kind_has, set_has, resolved_register_has, slot_of-with_answer_known}
use Rattle.verifier_kinds.proofs.Joins.{register_of-join, slot_of-join}
use Rattle.verifier_kinds.proofs.Moves.{moved_back_is, moved_is}
use Rattle.verifier_kinds.proofs.Values.{move_is}

-- ---- once the answer of a call is known

resolved_of_kind : (setting : Setting) (call : ℕ) (to kind : Kind) (n : ℕ) → IsOfKind setting to (setting.answers call) → IsOfKind setting kind n → IsOfKind setting (resolved_kind call to kind) n
resolved_of_kind setting call to (MaybeValue m id) n p (answer, same) = grind (arith, cond_both, eqb-true)
resolved_of_kind setting call to kind n p h = h

resolved_describes : (setting : Setting) (call : ℕ) (to : Kind) (known : Option Kind) (x : Option ℕ) → IsOfKind setting to (setting.answers call) → Describes setting known x → Describes setting (option_map (resolved_kind call to) known) x
resolved_describes setting call to None x p h = tt
resolved_describes setting call to (Some kind) None p h = h
resolved_describes setting call to (Some kind) (Some n) p h = resolved_of_kind setting call to kind n p h

resolved_describes_slot : (setting : Setting) (call : ℕ) (to : Kind) (slot : StackSlot) (bytes : List (Option ℕ)) → IsOfKind setting to (setting.answers call) → DescribesSlot setting slot bytes → DescribesSlot setting (resolved_slot call to slot) bytes
resolved_describes_slot setting call to (Kept kind) bytes p h = (h.0, h.1, resolved_of_kind setting call to kind (number_of h.0) p h.2)
resolved_describes_slot setting call to (Bytes set) bytes p h = h

-- where the answer of a call is of a kind, what is described stays so once that is known
pub resolved_describes_registers : (setting : Setting) (call : ℕ) (to : Kind) (d : Description) (registers : List (Option ℕ)) → IsOfKind setting to (setting.answers call) → DescribesRegisters setting d registers → DescribesRegisters setting (with_answer_known call to d) registers
resolved_describes_registers setting call to d registers p h = λ i. rw (register_of-with_answer_known call to d i) (resolved_describes setting call to (register_of d i) (get_or registers i None) p (h i))

pub resolved_describes_stack : (setting : Setting) (call : ℕ) (to : Kind) (d : Description) (stack : List (Option ℕ)) → IsOfKind setting to (setting.answers call) → DescribesStack setting d stack → DescribesStack setting (with_answer_known call to d) stack
resolved_describes_stack setting call to d stack p h = λ k. rw (slot_of-with_answer_known call to d k) (resolved_describes_slot setting call to (slot_of d k) (part_of stack (8 * k) 8) p (h k))

-- ---- other answers

-- two settings have the same shapes, and the same answers of the calls below a slot
pub record AgreeBelow (slot : ℕ) (setting other : Setting) : Type 0 where
  pub shapes : setting.shapes ≡ other.shapes
  pub answers : (call : ℕ) → call < slot → setting.answers call ≡ other.answers call

-- the setting with another answer of one call
abbrev pub with_answer : Setting → ℕ → ℕ → Setting
with_answer setting call answer = record setting { answers = λ id. if id == call then answer else setting.answers id }

pub another_answer_agrees : (setting : Setting) (slot answer : ℕ) → AgreeBelow slot setting (with_answer setting slot answer)
another_answer_agrees setting slot answer = grind (arith, cond_both, eqb-true)

agreed_of_kind : (slot : ℕ) (setting other : Setting) (kind : Kind) (n : ℕ) → AgreeBelow slot setting other → IsOfCallBelow slot kind → IsOfKind setting kind n → IsOfKind other kind n
agreed_of_kind slot setting other (Scalar range) n agree below h = h
agreed_of_kind slot setting other (Context offset) n agree below h = h
agreed_of_kind slot setting other (Stack offset) n agree below h = h
agreed_of_kind slot setting other (MapValue m offsets) n agree below h =
    subst (λ shapes. IsSomeAnd (shape_at shapes m) (λ shape. IsByElement offsets shape m n)) agree.shapes h
agreed_of_kind slot setting other (MaybeValue m id) n agree below (answer, same) =
    (subst (λ shapes. IsSomeAnd (shape_at shapes m) (λ shape. IsAnswer shape m n)) agree.shapes answer, same ∙ agree.answers id below)
agreed_of_kind slot setting other (MapName m) n agree below (there, same) =
    (subst (λ shapes. IsSome (shape_at shapes m)) agree.shapes there, same)

agreed_describes : (slot : ℕ) (setting other : Setting) (known : Option Kind) (x : Option ℕ) → AgreeBelow slot setting other → IfSome known (IsOfCallBelow slot) → Describes setting known x → Describes other known x
agreed_describes slot setting other None x agree below h = tt
agreed_describes slot setting other (Some kind) None agree below h = h
agreed_describes slot setting other (Some kind) (Some n) agree below h = agreed_of_kind slot setting other kind n agree below h

agreed_describes_slot : (slot : ℕ) (setting other : Setting) (kept : StackSlot) (bytes : List (Option ℕ)) → AgreeBelow slot setting other → IsSlotOfCallBelow slot kept → DescribesSlot setting kept bytes → DescribesSlot other kept bytes
agreed_describes_slot slot setting other (Kept kind) bytes agree below h = (h.0, h.1, agreed_of_kind slot setting other kind (number_of h.0) agree below h.2)
agreed_describes_slot slot setting other (Bytes set) bytes agree below h = h

-- a description that names calls below a slot alone doesn't ask for the answers of others
pub agreed_describes_registers : (slot : ℕ) (setting other : Setting) (d : Description) (registers : List (Option ℕ)) → AgreeBelow slot setting other → IsOfCallsBelow slot d → DescribesRegisters setting d registers → DescribesRegisters other d registers
agreed_describes_registers slot setting other d registers agree below h = λ i. agreed_describes slot setting other (register_of d i) (get_or registers i None) agree (below.registers i) (h i)

pub agreed_describes_stack : (slot : ℕ) (setting other : Setting) (d : Description) (stack : List (Option ℕ)) → AgreeBelow slot setting other → IsOfCallsBelow slot d → DescribesStack setting d stack → DescribesStack other d stack
agreed_describes_stack slot setting other d stack agree below h = λ k. agreed_describes_slot slot setting other (slot_of d k) (part_of stack (8 * k) 8) agree (below.stack k) (h k)

-- ---- which calls a description names

-- at the start none
pub start_names_none : IsOfCallsBelow 0 start_description
start_names_none = record { registers = start_registers (IsOfCallBelow 0) tt tt; stack = λ k. subst (IsSlotOfCallBelow 0) (sym (get_or-one 64 k (Bytes 0))) tt }

-- calls below a slot are below each later one
pub kind_names_later : (slot later : ℕ) (kind : Kind) → slot ≤ later → IsOfCallBelow slot kind → IsOfCallBelow later kind
kind_names_later slot later (MaybeValue m id) h below = omega arith
kind_names_later slot later kind h below = tt

register_names_later : (slot later : ℕ) (known : Option Kind) → slot ≤ later → IfSome known (IsOfCallBelow slot) → IfSome known (IsOfCallBelow later)
register_names_later slot later (Some kind) h below = kind_names_later slot later kind h below
register_names_later slot later None h below = tt

slot_names_later : (slot later : ℕ) (kept : StackSlot) → slot ≤ later → IsSlotOfCallBelow slot kept → IsSlotOfCallBelow later kept
slot_names_later slot later (Kept kind) h below = kind_names_later slot later kind h below
slot_names_later slot later (Bytes set) h below = tt

pub names_later : (slot later : ℕ) (d : Description) → IsOfCallsBelow slot d → slot ≤ later → IsOfCallsBelow later d
names_later slot later d below h = grind (arith, register_names_later, slot_names_later)

pub with_kind_names : (slot : ℕ) (d : Description) (i : ℕ) (kind : Kind) → IsOfCallBelow slot kind → IsOfCallsBelow slot d → IsOfCallsBelow slot (with_kind d i kind)
with_kind_names slot d i kind p below = record {
  registers = λ k. set_has (λ known. IfSome known (IsOfCallBelow slot)) d.registers i k (Some kind) None p (below.registers k);
  stack = below.stack;
}

pub with_unset_names : (slot : ℕ) (d : Description) (i : ℕ) → IsOfCallsBelow slot d → IsOfCallsBelow slot (with_unset d i)
with_unset_names slot d i below = record {
  registers = λ k. set_has (λ known. IfSome known (IsOfCallBelow slot)) d.registers i k None None tt (below.registers k);
  stack = below.stack;
}

pub with_slot_names : (slot : ℕ) (d : Description) (k : ℕ) (kept : StackSlot) → IsSlotOfCallBelow slot kept → IsOfCallsBelow slot d → IsOfCallsBelow slot (with_slot d k kept)
with_slot_names slot d k kept p below = record {
  registers = below.registers;
  stack = λ j. set_has (IsSlotOfCallBelow slot) d.stack k j kept (Bytes 0) p (below.stack j);
}

resolved_slot_names : (slot call : ℕ) (to : Kind) (kept : StackSlot) → IsOfCallBelow slot to → IsSlotOfCallBelow slot kept → IsSlotOfCallBelow slot (resolved_slot call to kept)
resolved_slot_names slot call to (Kept kind) p h = resolved_kind_has (IsOfCallBelow slot) call to kind p h
resolved_slot_names slot call to (Bytes set) p h = tt

pub resolved_names : (slot call : ℕ) (to : Kind) (d : Description) → IsOfCallBelow slot to → IsOfCallsBelow slot d → IsOfCallsBelow slot (with_answer_known call to d)
resolved_names slot call to d p below = grind (arith, register_of-with_answer_known, resolved_register_has, slot_of-with_answer_known, resolved_slot_names)

-- ---- joins

-- a join names a call only if both do
join_names_left : (slot : ℕ) (a b : Kind) → IsOfCallBelow slot a → IfSome (join_of_kinds a b) (IsOfCallBelow slot)
join_names_left slot (Scalar a) (Scalar b) h = tt
join_names_left slot (Context a) (Context b) h = cond_both _ (Some (Context a)) None (λ o. IfSome o (IsOfCallBelow slot)) (λ _. tt) (λ _. tt)
join_names_left slot (Stack a) (Stack b) h = cond_both _ (Some (Stack a)) None (λ o. IfSome o (IsOfCallBelow slot)) (λ _. tt) (λ _. tt)
join_names_left slot (MapValue m a) (MapValue n b) h = cond_both (m == n) _ None (λ o. IfSome o (IsOfCallBelow slot)) (λ _. tt) (λ _. tt)
join_names_left slot (MaybeValue m i) (MaybeValue n j) h = cond_both ((m == n) && (i == j)) (Some (MaybeValue m i)) None (λ o. IfSome o (IsOfCallBelow slot)) (λ _. h) (λ _. tt)
join_names_left slot (MapName m) (MapName n) h = cond_both (m == n) (Some (MapName m)) None (λ o. IfSome o (IsOfCallBelow slot)) (λ _. tt) (λ _. tt)
join_names_left slot a b h = tt

registers_join_names_left : (slot : ℕ) (a b : Option Kind) → IfSome a (IsOfCallBelow slot) → IfSome (join_of_registers a b) (IsOfCallBelow slot)
registers_join_names_left slot (Some a) (Some b) h = join_names_left slot a b h
registers_join_names_left slot (Some a) None h = tt
registers_join_names_left slot None b h = tt

kept_names : (slot : ℕ) (o : Option Kind) → IfSome o (IsOfCallBelow slot) → IsSlotOfCallBelow slot (kept_or_bytes o 0)
kept_names slot (Some kind) h = h
kept_names slot None h = tt

slots_join_names_left : (slot : ℕ) (a b : StackSlot) → IsSlotOfCallBelow slot a → IsSlotOfCallBelow slot (join_of_slots a b)
slots_join_names_left slot (Kept a) (Kept b) h = kept_names slot (join_of_kinds a b) (join_names_left slot a b h)
slots_join_names_left slot (Kept a) (Bytes set) h = tt
slots_join_names_left slot (Bytes set) b h = tt

pub join_names_of_left : (slot : ℕ) (d e : Description) → IsDescription d → IsDescription e → IsOfCallsBelow slot d → IsOfCallsBelow slot (join_of d e)
join_names_of_left slot d e p q below = grind (arith, register_of-join, registers_join_names_left, slot_of-join, slots_join_names_left)

-- ---- lawful descriptions

pub kind_is_normal : (kind : Kind) → IsKind kind → IsNormalKind kind
kind_is_normal (Scalar range) h = h
kind_is_normal (MapValue m offsets) h = h.normal
kind_is_normal kind h = tt

pub register_is_normal : (known : Option Kind) → IfSome known IsKind → IfSome known IsNormalKind
register_is_normal (Some kind) h = kind_is_normal kind h
register_is_normal None h = tt

pub slot_is_normal : (slot : StackSlot) → IsSlot slot → IsNormalSlot slot
slot_is_normal (Kept kind) h = kind_is_normal kind h
slot_is_normal (Bytes set) h = h

-- what the verifier knows is lawful
pub description_is_lawful : (slot : ℕ) (d : Description) → IsDescription d → IsOfCallsBelow slot d → IsLawfulAt slot d
description_is_lawful slot d p below = grind (arith, register_is_normal, slot_is_normal)

-- ---- arithmetic

-- what an operation other than a move makes names no call
displaced_names : (slot : ℕ) (code : AluCode) (width : Width) (kind : ℤ → Kind) (rule : ℕ) (offset : ℤ) (by : Range) (result : Kind) → ((k : ℤ) → IsOfCallBelow slot (kind k)) → displaced kind rule code width offset by ≡ Ok result → IsOfCallBelow slot result
displaced_names slot Add Bits64 kind rule offset by result each e =
    let moves = moved_is kind rule offset by result e in subst (IsOfCallBelow slot) (sym moves.1) (each _)
displaced_names slot Sub Bits64 kind rule offset by result each e =
    let moves = moved_back_is kind rule offset by result e in subst (IsOfCallBelow slot) (sym moves.1) (each _)
displaced_names slot code width kind rule offset by result each e = cc

value_names : (slot : ℕ) (code : AluCode) (width : Width) (m : ℕ) (offsets : Offsets) (by : Range) (result : Kind) → displaced_value m code width offsets by ≡ Ok result → IsOfCallBelow slot result
value_names slot Add Bits64 m offsets by result e = grind (arith, move_is, pos)
value_names slot Sub Bits64 m offsets by result e = grind (arith, cases_Bool, inl, pos, move_is, cond-true, inr, cond-false)
value_names slot code width m offsets by result e = cc

kinds_name : (slot : ℕ) (code : AluCode) (width : Width) (offset : ℤ) (a b kind : Kind) → kind_of code width offset a b ≡ Ok kind → IsOfCallBelow slot kind
kinds_name slot code width offset (Scalar a) (Scalar b) kind e = grind (arith)
kinds_name slot code width offset (Context k) (Scalar by) kind e = displaced_names slot code width Context 16 k by kind (λ _. tt) e
kinds_name slot code width offset (Stack k) (Scalar by) kind e = displaced_names slot code width Stack 17 k by kind (λ _. tt) e
kinds_name slot code width offset (MapValue m offsets) (Scalar by) kind e = value_names slot code width m offsets by kind e
kinds_name slot code width offset (MapName m) (Scalar by) kind e = cc
kinds_name slot code width offset a b kind e = cc

with_dst_names : (slot : ℕ) (code : AluCode) (width : Width) (offset : ℤ) (a : Option Kind) (b kind : Kind) → kind_with_dst code width offset a b ≡ Ok kind → IsOfCallBelow slot kind
with_dst_names slot code width offset (Some a) b kind e = kinds_name slot code width offset a b kind e
with_dst_names slot code width offset None b kind e = cc

-- nor does a move of a number
moved_number_names : (slot : ℕ) (width : Width) (offset : ℤ) (b kind : Kind) → moved_number width offset b ≡ Ok kind → IsOfCallBelow slot kind
moved_number_names slot width offset (Scalar b) kind e = grind (arith)
moved_number_names slot width offset b kind e = cc

-- and a copy names what is copied
copied_names : (slot : ℕ) (width : Width) (offset : ℤ) (b kind : Kind) → copied width offset b ≡ Ok kind → IsOfCallBelow slot b → IsOfCallBelow slot kind
copied_names slot Bits32 offset b kind e below = moved_number_names slot Bits32 offset b kind e
copied_names slot Bits64 offset b kind e below = grind (arith, cases_Bool, inl, cond-true, inr, moved_number_names, cond-false)

-- what arithmetic makes of kinds names no call but one that the second operand names
pub arithmetic_names : (slot : ℕ) (code : AluCode) (width : Width) (offset : ℤ) (a : Option Kind) (b kind : Kind) → arith_by code width offset a b ≡ Ok kind → IsOfCallBelow slot b → IsOfCallBelow slot kind
arithmetic_names slot Mov width offset a b kind e below = copied_names slot width offset b kind e below
arithmetic_names slot code width offset a b kind e below = with_dst_names slot code width offset a b kind e
