-- Which calls the descriptions of a tight table name: calls before the slot alone.
use Rattle.std.proofs.Common.{◌≡◌, ℕ, zero, suc, ◌<◌, ◌≤◌, nat_lt, ◌/◌, ◌==◌, ℤ, pos, negsuc, ◌+ℤ◌, Bool, true, false, if◌then◌else◌, List, [], ◌∷◌, ◌++◌, All, IfSome, Option, Some, None, option_map, is_some, Result, Ok, Err, refl, sym, subst, inl, inr, arith}
use Rattle.std.proofs.lemmas.List.Elements.{All-nil, All-cons, All-head, All-tail, All-append, All-weaker}
use Rattle.host_types.specs.declared.helper.MapHelper.{MapHelper}
use Rattle.host_types.specs.declared.helper.MapHelper.TheVariants.{Lookup, Update, Delete}
use Rattle.host_types.specs.Helpers.{helper_of}
use Rattle.bpf_decode.specs.declared.insn.Insn.{Insn}
use Rattle.bpf_decode.specs.declared.operation.Source.{Source}
use Rattle.bpf_decode.specs.declared.operation.Source.TheVariants.{Immediate, Register}
use Rattle.bpf_decode.specs.declared.operation.Width.{Width}
use Rattle.bpf_decode.specs.declared.operation.Width.TheVariants.{Bits64}
use Rattle.bpf_decode.specs.declared.operation.Size.{Size}
use Rattle.bpf_decode.specs.declared.operation.Size.TheVariants.{Byte, HalfWord, Word, DoubleWord}
use Rattle.bpf_decode.specs.declared.operation.Extension.{Extension}
use Rattle.bpf_decode.specs.declared.operation.Comparison.{Comparison}
use Rattle.bpf_decode.specs.declared.operation.AluCode.{AluCode}
use Rattle.bpf_decode.specs.declared.operation.Operation.{Operation}
use Rattle.bpf_decode.specs.declared.operation.Operation.TheVariants.{Alu, Load, Store, LoadImmediate, Jump, Branch, Call, Exit}
use Rattle.bpf_decode.specs.Opcodes.{byte_count, distance_of, sign_extended, wide_immediate}
use Rattle.bpf_decode.specs.Text.{insn_at}
use Rattle.insn_alu.specs.Arithmetic.{low}
use Rattle.verifier_kinds.specs.declared.kind.Range.{Range}
use Rattle.verifier_kinds.specs.declared.kind.Kind.{Kind}
use Rattle.verifier_kinds.specs.declared.kind.Kind.TheVariants.{Scalar, Context, Stack, MapValue, MaybeValue, MapName}
use Rattle.verifier_kinds.specs.declared.description.StackSlot.{StackSlot}
use Rattle.verifier_kinds.specs.declared.description.StackSlot.TheVariants.{Kept, Bytes}
use Rattle.verifier_kinds.specs.declared.description.Description.{Description}
use Rattle.verifier_kinds.specs.Kinds.{IsOfCallBelow, constant, shape_at}
use Rattle.verifier_kinds.specs.Descriptions.{IsDescription, IsOfCallsBelow, IsSlotOfCallBelow, register_of, slot_of, start_description, with_kind, with_slot, with_unset}
use Rattle.verifier_kinds.specs.Refinement.{refined}
use Rattle.verifier_kinds.specs.Arithmetic.{arith_by}
use Rattle.verifier_kinds.proofs.Calls.{arithmetic_names, join_names_of_left, names_later, resolved_names, start_names_none, with_kind_names, with_slot_names, with_unset_names}
use Rattle.verifier.specs.declared.jumps.Compared.{Compared}
use Rattle.verifier.specs.declared.jumps.Compared.TheVariants.{Numbers, Answer}
use Rattle.verifier.specs.Subject.{Subject}
use Rattle.verifier.specs.Flow.{◌>>=◌, both, known_or, holds_or, read_kind, writable, write_kind, operand_kind, dst_is_known, computed_kind, after_alu, loaded_range, slot_kind, context_offset, stack_offset, value_size_of, value_access, load_kind, loaded_kind, after_load, name_kind, at_offset, first_value_kind, wide_kind, after_load_immediate, is_number, written_slot, stored, after_store, comparands, checked_kind, holds_of_null, on_successor, falls_to, jumps_to, target, called_map, answer_kind, without_arguments, after_call, after, falls_on, flow_of_branch, flow_by, flow}
use Rattle.verifier.specs.Table.{Table, described, flows_by, flows_from, targets_of, known_with, arrived, incoming}
use Rattle.verifier.specs.Pass.{AreDescribed, FlowDescribed}
use Rattle.verifier.proofs.Flows.{both_ok, then_ok, known_ok, flow_ok}
use Rattle.verifier.proofs.Tables.{if_same, below_next, IsTightBefore, IsDescription-arrived, IsDescription-incoming}

-- ---- kinds

-- a register that is read names what it did
read_names : (slot : ℕ) (d : Description) (i : ℕ) (kind : Kind) → IsOfCallsBelow slot d → read_kind d i ≡ Ok kind → IsOfCallBelow slot kind
read_names slot d i kind below e =
    subst (λ o. IfSome o (IsOfCallBelow slot)) (known_ok (register_of d i) 14 kind e) (below.registers i)

operand_names : (slot : ℕ) (width : Width) (source : Source) (insn : Insn) (d : Description) (kind : Kind) → IsOfCallsBelow slot d → operand_kind width source insn d ≡ Ok kind → IsOfCallBelow slot kind
operand_names slot width Immediate insn d kind below e =
    let same : Scalar (constant (low width (sign_extended insn.imm))) ≡ kind = cc in
    subst (IsOfCallBelow slot) same tt
operand_names slot width Register insn d kind below e = read_names slot d insn.src kind below e

-- what is chosen by a test
chosen_kind : (slot : ℕ) (test : Bool) (range : Range) (rule : ℕ) (kind : Kind) → if◌then◌else◌ {A = Result Kind ℕ} test (Ok (Scalar range)) (Err rule) ≡ Ok kind → IsOfCallBelow slot kind
chosen_kind slot true range rule kind e =
    let same : Scalar range ≡ kind = cc in
    subst (IsOfCallBelow slot) same tt
chosen_kind slot false range rule kind e = absurd cc

-- a number names no call
number_names : (slot : ℕ) (range : Range) (kind : Kind) → ◌≡◌ {A = Result Kind ℕ} (Ok (Scalar range)) (Ok kind) → IsOfCallBelow slot kind
number_names slot range kind e =
    let same : Scalar range ≡ kind = cc in
    subst (IsOfCallBelow slot) same tt

-- what is loaded from a slot of the stack names what the slot did
loaded_names : (slot : ℕ) (size : Size) (extension : Extension) (kept : StackSlot) (at : ℕ) (kind : Kind) → IsSlotOfCallBelow slot kept → slot_kind size extension kept at ≡ Ok kind → IsOfCallBelow slot kind
loaded_names slot DoubleWord extension (Kept to) at kind below e =
    let same : to ≡ kind = cc in
    subst (IsOfCallBelow slot) same below
loaded_names slot size extension (Kept (Scalar range)) at kind below e = number_names slot (loaded_range size extension) kind e
loaded_names slot size extension (Kept to) at kind below e = absurd cc
loaded_names slot size extension (Bytes set) at kind below e = chosen_kind slot _ (loaded_range size extension) 18 kind e

load_names : (slot : ℕ) (p : Subject) (size : Size) (extension : Extension) (insn : Insn) (d : Description) (base kind : Kind) → IsOfCallsBelow slot d → load_kind p size extension insn d base ≡ Ok kind → IsOfCallBelow slot kind
load_names slot p size extension insn d (Context k) kind below e =
    let found = then_ok (context_offset p.context_size (k +ℤ insn.offset) (byte_count size)) (λ at. Ok (Scalar (loaded_range size extension))) kind e in
    number_names slot (loaded_range size extension) kind found.2
load_names slot p size extension insn d (Stack k) kind below e =
    let found = then_ok (stack_offset (k +ℤ insn.offset) (byte_count size)) (λ at. slot_kind size extension (slot_of d (at / 8)) at) kind e in
    loaded_names slot size extension (slot_of d (found.0 / 8)) found.0 kind (below.stack (found.0 / 8)) found.2
load_names slot p size extension insn d (MapValue m offsets) kind below e =
    let found = then_ok (value_access (value_size_of p m) offsets insn.offset (byte_count size)) (λ within. Ok (Scalar (loaded_range size extension))) kind e in
    number_names slot (loaded_range size extension) kind found.2
load_names slot p size extension insn d (MaybeValue m call) kind below e = absurd cc
load_names slot p size extension insn d (Scalar range) kind below e = absurd cc
load_names slot p size extension insn d (MapName m) kind below e = absurd cc

name_names : (slot : ℕ) (p : Subject) (number : ℤ) (kind : Kind) → name_kind p number ≡ Ok kind → IsOfCallBelow slot kind
name_names slot p (pos m) kind e =
    let found = then_ok (holds_or (is_some (shape_at p.shapes m)) 24) (λ there. Ok (MapName m)) kind e in
    let same : MapName m ≡ kind = cc (found.2) in
    subst (IsOfCallBelow slot) same tt
name_names slot p (negsuc n) kind e = absurd cc

first_names : (slot : ℕ) (p : Subject) (number : ℤ) (offset : ℕ) (kind : Kind) → first_value_kind p number offset ≡ Ok kind → IsOfCallBelow slot kind
first_names slot p (pos m) offset kind e =
    let there = then_ok (holds_or (is_some (shape_at p.shapes m)) 24) (λ there. holds_or (nat_lt offset (value_size_of p m)) 19 >>= λ within. Ok (MapValue m (at_offset offset))) kind e in
    let within = then_ok (holds_or (nat_lt offset (value_size_of p m)) 19) (λ within. Ok (MapValue m (at_offset offset))) kind there.2 in
    let same : MapValue m (at_offset offset) ≡ kind = cc (within.2) in
    subst (IsOfCallBelow slot) same tt
first_names slot p (negsuc n) offset kind e = absurd cc

wide_names : (slot : ℕ) (p : Subject) (insn : Insn) (kind : Kind) → wide_kind p insn ≡ Ok kind → IsOfCallBelow slot kind
wide_names slot p insn kind e = by_test (insn.src == 0) (insn.src == 1) e
  where
    by_test : (number name : Bool) → if◌then◌else◌ {A = Result Kind ℕ} number (Ok (Scalar (constant (wide_immediate insn)))) (if◌then◌else◌ {A = Result Kind ℕ} name (name_kind p insn.imm) (first_value_kind p insn.imm insn.next_imm)) ≡ Ok kind → IsOfCallBelow slot kind
    by_test true name e = number_names slot (constant (wide_immediate insn)) kind e
    by_test false true e = name_names slot p insn.imm kind e
    by_test false false e = first_names slot p insn.imm insn.next_imm kind e

-- ---- descriptions

-- a register that is written names what its kind does
write_names : (slot : ℕ) (d e : Description) (i : ℕ) (given : Result Kind ℕ) → IsOfCallsBelow slot d → ((kind : Kind) → given ≡ Ok kind → IsOfCallBelow slot kind) → write_kind d i given ≡ Ok e → IsOfCallsBelow slot e
write_names slot d e i given below names h =
    let found = then_ok (both given (writable i)) (λ x. Ok (with_kind d i x.0)) e h in
    let asked = both_ok given (writable i) found.0 found.1 in
    let same : with_kind d i found.0.0 ≡ e = cc (found.2) in
    subst (IsOfCallsBelow slot) same (with_kind_names slot d i found.0.0 (names found.0.0 asked.0) below)

alu_names : (slot : ℕ) (code : AluCode) (width : Width) (source : Source) (insn : Insn) (d e : Description) → IsOfCallsBelow slot d → after_alu code width source insn d ≡ Ok e → IsOfCallsBelow slot e
unfolding after_alu
alu_names slot code width source insn d e below h =
    write_names slot d e insn.dst (computed_kind code width source insn d) below
    (λ kind given.
    let asked = both (dst_is_known code insn d) (operand_kind width source insn d) in
    let found = then_ok asked (λ x. arith_by code width insn.offset (register_of d insn.dst) x.1) kind given in
    let known = both_ok (dst_is_known code insn d) (operand_kind width source insn d) found.0 found.1 in
    arithmetic_names slot code width insn.offset (register_of d insn.dst) found.0.1 kind found.2 (operand_names slot width source insn d found.0.1 below known.1))
    h

after_load_names : (slot : ℕ) (p : Subject) (size : Size) (extension : Extension) (insn : Insn) (d e : Description) → IsOfCallsBelow slot d → after_load p size extension insn d ≡ Ok e → IsOfCallsBelow slot e
unfolding after_load
after_load_names slot p size extension insn d e below h =
    write_names slot d e insn.dst (loaded_kind p size extension insn d) below
    (λ kind given.
    let found = then_ok (read_kind d insn.src) (λ base. load_kind p size extension insn d base) kind given in
    load_names slot p size extension insn d found.0 kind below found.2)
    h

immediate_names : (slot : ℕ) (p : Subject) (insn : Insn) (d e : Description) → IsOfCallsBelow slot d → after_load_immediate p insn d ≡ Ok e → IsOfCallsBelow slot e
unfolding after_load_immediate
immediate_names slot p insn d e below h = write_names slot d e insn.dst (wide_kind p insn) below (λ kind given. wide_names slot p insn kind given) h

written_names : (slot : ℕ) (size : Size) (before : StackSlot) (at : ℕ) (kind : Kind) (to : StackSlot) → IsOfCallBelow slot kind → written_slot size before at kind ≡ Ok to → IsSlotOfCallBelow slot to
written_names slot DoubleWord before at kind to below e =
    let same : Kept kind ≡ to = cc in
    subst (IsSlotOfCallBelow slot) same below
written_names slot Byte before at (Scalar range) (Bytes set) below e = tt
written_names slot HalfWord before at (Scalar range) (Bytes set) below e = tt
written_names slot Word before at (Scalar range) (Bytes set) below e = tt
written_names slot Byte before at (Scalar range) (Kept kind) below e = absurd cc
written_names slot HalfWord before at (Scalar range) (Kept kind) below e = absurd cc
written_names slot Word before at (Scalar range) (Kept kind) below e = absurd cc
written_names slot size before at pointer to below e = absurd cc

stored_names : (slot : ℕ) (p : Subject) (size : Size) (insn : Insn) (d e : Description) (base kind : Kind) → IsOfCallsBelow slot d → IsOfCallBelow slot kind → stored p size insn d base kind ≡ Ok e → IsOfCallsBelow slot e
stored_names slot p size insn d e (Stack k) kind below names h =
    let found = then_ok (stack_offset (k +ℤ insn.offset) (byte_count size)) (λ at. written_slot size (slot_of d (at / 8)) at kind >>= λ to. Ok (with_slot d (at / 8) to)) e h in
    let at = found.0 in
    let written = then_ok (written_slot size (slot_of d (at / 8)) at kind) (λ to. Ok (with_slot d (at / 8) to)) e found.2 in
    let same : with_slot d (at / 8) written.0 ≡ e = cc (written.2) in
    subst (IsOfCallsBelow slot) same (with_slot_names slot d (at / 8) written.0 (written_names slot size (slot_of d (at / 8)) at kind written.0 names written.1) below)
stored_names slot p size insn d e (MapValue m offsets) kind below names h =
    let found = then_ok (value_access (value_size_of p m) offsets insn.offset (byte_count size)) (λ within. is_number kind >>= λ number. Ok d) e h in
    let number = then_ok (is_number kind) (λ number. Ok d) e found.2 in
    let same : d ≡ e = cc (number.2) in
    subst (IsOfCallsBelow slot) same below
stored_names slot p size insn d e (MaybeValue m call) kind below names h = absurd cc
stored_names slot p size insn d e (Scalar range) kind below names h = absurd cc
stored_names slot p size insn d e (Context k) kind below names h = absurd cc
stored_names slot p size insn d e (MapName m) kind below names h = absurd cc

after_store_names : (slot : ℕ) (p : Subject) (size : Size) (source : Source) (insn : Insn) (d e : Description) → IsOfCallsBelow slot d → after_store p size source insn d ≡ Ok e → IsOfCallsBelow slot e
unfolding after_store
after_store_names slot p size source insn d e below h =
    let found = then_ok (both (read_kind d insn.dst) (operand_kind Bits64 source insn d)) (λ x. stored p size insn d x.0 x.1) e h in
    let known = both_ok (read_kind d insn.dst) (operand_kind Bits64 source insn d) found.0 found.1 in
    stored_names slot p size insn d e found.0.0 found.0.1 below (operand_names slot Bits64 source insn d found.0.1 below known.1) found.2

answer_names : (helper : MapHelper) (slot m : ℕ) → IsOfCallBelow (suc slot) (answer_kind helper slot m)
answer_names Lookup slot m = omega arith
answer_names Update slot m = tt
answer_names Delete slot m = tt

without_names : (slot : ℕ) (d : Description) → IsOfCallsBelow slot d → IsOfCallsBelow slot (without_arguments d)
without_names slot d below =
    with_unset_names slot (with_unset (with_unset (with_unset (with_unset d 1) 2) 3) 4) 5
    (with_unset_names slot (with_unset (with_unset (with_unset d 1) 2) 3) 4
    (with_unset_names slot (with_unset (with_unset d 1) 2) 3
    (with_unset_names slot (with_unset d 1) 2
    (with_unset_names slot d 1 below))))

-- a call names itself
call_names : (slot : ℕ) (p : Subject) (insn : Insn) (d e : Description) → IsOfCallsBelow slot d → after_call p slot insn d ≡ Ok e → IsOfCallsBelow (suc slot) e
unfolding after_call
call_names slot p insn d e below h =
    let helper = then_ok (known_or (helper_of (sign_extended insn.imm)) 23) (λ helper. called_map p helper d >>= λ m. Ok (with_kind (without_arguments d) 0 (answer_kind helper slot m))) e h in
    let map = then_ok (called_map p helper.0 d) (λ m. Ok (with_kind (without_arguments d) 0 (answer_kind helper.0 slot m))) e helper.2 in
    let same : with_kind (without_arguments d) 0 (answer_kind helper.0 slot map.0) ≡ e = cc (map.2) in
    subst (IsOfCallsBelow (suc slot)) same
    (with_kind_names (suc slot) (without_arguments d) 0 (answer_kind helper.0 slot map.0) (answer_names helper.0 slot map.0)
    (names_later slot (suc slot) (without_arguments d) (without_names slot d below) (omega arith)))

-- ---- what flows on

-- targets that name calls up to a slot alone
abbrev NameUpTo : ℕ → List (ℕ × Description) → Type 0
NameUpTo slot targets = All (λ t. IsOfCallsBelow (suc slot) t.1) targets

later : (slot : ℕ) (d : Description) → IsOfCallsBelow slot d → IsOfCallsBelow (suc slot) d
later slot d below = names_later slot (suc slot) d below (omega arith)

target_names : (slot to : ℕ) (known : Option Description) → IfSome known (IsOfCallsBelow (suc slot)) → NameUpTo slot (target to known)
target_names slot to None h = All-nil (λ t. IsOfCallsBelow (suc slot) t.1)
target_names slot to (Some d) h = All-cons (λ t. IsOfCallsBelow (suc slot) t.1) (to, d) [] h (All-nil (λ t. IsOfCallsBelow (suc slot) t.1))

on_names : (p : Subject) (slot : ℕ) (after : Result Description ℕ) (targets : List (ℕ × Description)) → ((e : Description) → after ≡ Ok e → IsOfCallsBelow (suc slot) e) → falls_on p slot after ≡ Ok targets → NameUpTo slot targets
on_names p slot after targets names h =
    let found = then_ok (both after (falls_to p.text slot)) (λ x. Ok (target x.1 (Some x.0))) targets h in
    let asked = both_ok after (falls_to p.text slot) found.0 found.1 in
    let same : target found.0.1 (Some found.0.0) ≡ targets = cc (found.2) in
    subst (NameUpTo slot) same (target_names slot found.0.1 (Some found.0.0) (names found.0.0 asked.0))

jump_names : (p : Subject) (slot : ℕ) (distance : ℤ) (d : Description) (targets : List (ℕ × Description)) → IsOfCallsBelow slot d → (jumps_to p.text slot distance >>= λ to. Ok (target to (Some d))) ≡ Ok targets → NameUpTo slot targets
jump_names p slot distance d targets below h =
    let found = then_ok (jumps_to p.text slot distance) (λ to. Ok (target to (Some d))) targets h in
    let same : target found.0 (Some d) ≡ targets = cc (found.2) in
    subst (NameUpTo slot) same (target_names slot found.0 (Some d) (later slot d below))

-- what a jump gives names no call
learned_names : (slot : ℕ) (insn : Insn) (d : Description) (range : Option Range) → IsOfCallsBelow slot d → IfSome (option_map (λ range. with_kind d insn.dst (Scalar range)) range) (IsOfCallsBelow (suc slot))
learned_names slot insn d None below = tt
learned_names slot insn d (Some range) below = later slot (with_kind d insn.dst (Scalar range)) (with_kind_names slot d insn.dst (Scalar range) tt below)

checked_names : (slot m : ℕ) (null : Bool) → IsOfCallBelow slot (checked_kind m null)
checked_names slot m true = tt
checked_names slot m false = tt

successor_names : (slot : ℕ) (comparison : Comparison) (width : Width) (taken : Bool) (insn : Insn) (d : Description) (compared : Compared) → IsOfCallsBelow slot d → IfSome (on_successor comparison width taken insn d compared) (IsOfCallsBelow (suc slot))
successor_names slot comparison width true insn d (Numbers a b) below = learned_names slot insn d (refined comparison width true a b) below
successor_names slot comparison width false insn d (Numbers a b) below = learned_names slot insn d (refined comparison width false a b) below
successor_names slot comparison width true insn d (Answer m call) below =
    later slot _ (resolved_names slot call _ d (checked_names slot m (holds_of_null comparison)) below)
successor_names slot comparison width false insn d (Answer m call) below =
    later slot _ (resolved_names slot call _ d (checked_names slot m _) below)

branch_names : (p : Subject) (comparison : Comparison) (width : Width) (source : Source) (insn : Insn) (slot : ℕ) (d : Description) (targets : List (ℕ × Description)) → IsOfCallsBelow slot d → flow_of_branch p comparison width source insn slot d ≡ Ok targets → NameUpTo slot targets
branch_names p comparison width source insn slot d targets below e =
    let successor : Bool → Compared → Option Description = λ taken compared. on_successor comparison width taken insn d compared in
    let found = then_ok (both (comparands comparison width source insn d) (both (falls_to p.text slot) (jumps_to p.text slot insn.offset))) (λ x. Ok (target x.1.0 (successor false x.0) ++ target x.1.1 (successor true x.0))) targets e in
    let next = found.0.1.0 in
    let jump = found.0.1.1 in
    let same : (target next (successor false found.0.0) ++ target jump (successor true found.0.0)) ≡ targets = cc (found.2) in
    subst (NameUpTo slot) same
    (All-append (λ t. IsOfCallsBelow (suc slot) t.1) (target next (successor false found.0.0)) (target jump (successor true found.0.0))
    (target_names slot next (successor false found.0.0) (successor_names slot comparison width false insn d found.0.0 below))
    (target_names slot jump (successor true found.0.0) (successor_names slot comparison width true insn d found.0.0 below)))

names_by : (p : Subject) (operation : Operation) (slot : ℕ) (d : Description) (targets : List (ℕ × Description)) → IsOfCallsBelow slot d → flow_by p operation slot d ≡ Ok targets → NameUpTo slot targets
unfolding flow_by
names_by p (Alu code width source) slot d targets below e =
    on_names p slot (after p slot (Alu code width source) (insn_at p.text slot) d) targets (λ f h. later slot f (alu_names slot code width source (insn_at p.text slot) d f below h)) e
names_by p (Load size extension) slot d targets below e =
    on_names p slot (after p slot (Load size extension) (insn_at p.text slot) d) targets (λ f h. later slot f (after_load_names slot p size extension (insn_at p.text slot) d f below h)) e
names_by p (Store size source) slot d targets below e =
    on_names p slot (after p slot (Store size source) (insn_at p.text slot) d) targets (λ f h. later slot f (after_store_names slot p size source (insn_at p.text slot) d f below h)) e
names_by p LoadImmediate slot d targets below e =
    on_names p slot (after p slot LoadImmediate (insn_at p.text slot) d) targets (λ f h. later slot f (immediate_names slot p (insn_at p.text slot) d f below h)) e
names_by p Call slot d targets below e =
    on_names p slot (after p slot Call (insn_at p.text slot) d) targets (λ f h. call_names slot p (insn_at p.text slot) d f below h) e
names_by p (Jump distance) slot d targets below e = jump_names p slot (distance_of distance (insn_at p.text slot)) d targets below e
names_by p (Branch comparison width source) slot d targets below e = branch_names p comparison width source (insn_at p.text slot) slot d targets below e
names_by p Exit slot d targets below e =
    let found = then_ok (read_kind d 0) (λ kind. is_number kind >>= λ returned. Ok []) targets e in
    let returned = then_ok (is_number found.0) (λ returned. Ok []) targets found.2 in
    let none : [] ≡ targets = cc (returned.2) in
    subst (NameUpTo slot) none (All-nil (λ t. IsOfCallsBelow (suc slot) t.1))

-- where an instruction leads, calls up to it alone are named
flow_names : (p : Subject) (slot : ℕ) (d : Description) (targets : List (ℕ × Description)) → IsOfCallsBelow slot d → flow p slot d ≡ Ok targets → NameUpTo slot targets
flow_names p slot d targets below e =
    let found = flow_ok p slot d targets e in
    names_by p found.0 slot d targets below found.2

-- ---- tables

flows_names : (p : Subject) (table : Table) (slot : ℕ) → IfSome (described table slot) (IsOfCallsBelow slot) → NameUpTo slot (flows_from p table slot)
flows_names p table slot below = of (described table slot) below
  where
    by_result : (d : Description) (result : Result (List (ℕ × Description)) ℕ) → IsOfCallsBelow slot d → flow p slot d ≡ result → NameUpTo slot (targets_of result)
    by_result d (Ok targets) below e = flow_names p slot d targets below e
    by_result d (Err rule) below e = All-nil (λ t. IsOfCallsBelow (suc slot) t.1)

    of : (known : Option Description) → IfSome known (IsOfCallsBelow slot) → NameUpTo slot (flows_by p slot known)
    of None below = All-nil (λ t. IsOfCallsBelow (suc slot) t.1)
    of (Some d) below = by_result d (flow p slot d) below refl

joined_names : (slot : ℕ) (known : Option Description) (d : Description) → IfSome known IsDescription → IsDescription d → IfSome known (IsOfCallsBelow slot) → IsOfCallsBelow slot d → IsOfCallsBelow slot (known_with known d)
joined_names slot None d k q known below = below
joined_names slot (Some e) d k q known below = join_names_of_left slot e d k q known

arrived_names : (slot : ℕ) (known : Option Description) (targets : List (ℕ × Description)) → IfSome known IsDescription → AreDescribed targets → IfSome known (IsOfCallsBelow slot) → All (λ t. IsOfCallsBelow slot t.1) targets → IfSome (arrived slot known targets) (IsOfCallsBelow slot)
arrived_names slot known [] k q names below = names
arrived_names slot known (t ∷ targets) k q names below =
    let head : IsDescription t.1 = All-head (λ t. IsDescription t.1) t targets q in
    let first : IsOfCallsBelow slot t.1 = All-head (λ t. IsOfCallsBelow slot t.1) t targets below in
    let next : IfSome (if t.0 == slot then Some (known_with known t.1) else known) IsDescription = IsDescription-arrived slot known (t ∷ []) k (All-cons (λ t. IsDescription t.1) t [] head (All-nil (λ t. IsDescription t.1))) in
    let named : IfSome (if t.0 == slot then Some (known_with known t.1) else known) (IsOfCallsBelow slot) = if_same (λ o. IfSome o (IsOfCallsBelow slot)) t.0 slot (Some (known_with known t.1)) known (λ e. joined_names slot known t.1 k head names first) (λ e. names) in
    arrived_names slot (if t.0 == slot then Some (known_with known t.1) else known) targets next (All-tail (λ t. IsDescription t.1) t targets q) named (All-tail (λ t. IsOfCallsBelow slot t.1) t targets below)

incoming_names : (p : Subject) (table : Table) (slot n : ℕ) → FlowDescribed p table n → ((s : ℕ) → s < n → IfSome (described table s) (IsOfCallsBelow s)) → n ≤ slot → IfSome (incoming p table slot n) (IsOfCallsBelow slot)
unfolding incoming
incoming_names p table slot zero f i h = if_same (λ o. IfSome o (IsOfCallsBelow slot)) slot 0 (Some start_description) None (λ e. names_later 0 slot start_description start_names_none (omega arith)) (λ ne. tt)
incoming_names p table slot (suc n) f i h =
    arrived_names slot (incoming p table slot n) (flows_from p table n)
    (IsDescription-incoming p table slot n (λ s k. f s (omega arith)))
    (f n (omega arith))
    (incoming_names p table slot n (λ s k. f s (omega arith)) (λ s k. i s (omega arith)) (omega arith))
    (All-weaker (λ t. IsOfCallsBelow (suc n) t.1) (λ t. IsOfCallsBelow slot t.1) (λ t below. names_later (suc n) slot t.1 below h) (flows_from p table n) (flows_names p table n (i n (omega arith))))

-- a table that is tight before a slot names calls before each slot alone
pub described_names : (p : Subject) (table : Table) (n : ℕ) → FlowDescribed p table n → IsTightBefore p table n → (s : ℕ) → s < n → IfSome (described table s) (IsOfCallsBelow s)
described_names p table zero f t s h = absurd (omega arith)
described_names p table (suc n) f t s h =
    let before : (r : ℕ) → r < n → IfSome (described table r) (IsOfCallsBelow r) = described_names p table n (λ r k. f r (omega arith)) (λ r k. t r (omega arith)) in
    elim (below_next s n h) [
      | inl below ↦ before s below
      | inr same ↦ let P : ℕ → Type 0 = λ s. IfSome (described table s) (IsOfCallsBelow s) in
          subst P (sym same) (subst (λ o. IfSome o (IsOfCallsBelow n)) (sym (t n (omega arith))) (incoming_names p table n n (λ r k. f r (omega arith)) before (omega arith)))
    ]
