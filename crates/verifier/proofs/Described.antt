-- What an instruction lets flow on from a description of the verifier are such descriptions. So what a
-- text of bytes refuses leaves no lawful table, whoever refuses it.
use Rattle.std.proofs.Common.{◌≡◌, ℕ, zero, suc, ◌+◌, ◌*◌, ◌/◌, ◌%◌, ◌^◌, ◌<◌, ◌≤◌, ◌==◌, ℤ, pos, negsuc, ◌+ℤ◌, Bool, true, false, not, nat_lt, List, [], ◌++◌, length, take, drop, All, IfSome, Option, Some, None, option_map, Result, Ok, Err, refl, sym, subst, inl, inr, arith}
use Rattle.std.specs.Prelude.{IfOk, is_some}
use Rattle.std.proofs.lemmas.Bool.{cond_both, eqb-true, ltb-true}
use Rattle.std.proofs.lemmas.Nat.{mul-le, or_lt}
use Rattle.std.proofs.Math.Pow.{pow_mono}
use Rattle.std.proofs.lemmas.List.Elements.{All-nil, All-cons, All-append, All-take, All-drop}
use Rattle.std.proofs.lemmas.List.{length-take}
use Rattle.host_types.specs.declared.fault.Refused.{Refused}
use Rattle.host_types.specs.declared.helper.MapHelper.{MapHelper}
use Rattle.host_types.specs.declared.helper.MapHelper.TheVariants.{Lookup, Update, Delete}
use Rattle.host_types.specs.Bytes.{number_of, part_of}
use Rattle.host_types.specs.Helpers.{helper_of}
use Rattle.host_types.specs.Layout.{stack_size}
use Rattle.host_types.specs.Rules.{unknown_opcode, unset_register, unset_stack, unknown_helper, unknown_map, misaligned, outside_stack, outside_map}
use Rattle.host_types.proofs.LittleEndian.{number_of-small}
use Rattle.bpf_decode.specs.declared.insn.Insn.{Insn}
use Rattle.bpf_decode.specs.declared.operation.Source.{Source}
use Rattle.bpf_decode.specs.declared.operation.Source.TheVariants.{Immediate, Register}
use Rattle.bpf_decode.specs.declared.operation.Width.{Width}
use Rattle.bpf_decode.specs.declared.operation.Width.TheVariants.{Bits64}
use Rattle.bpf_decode.specs.declared.operation.Size.{Size}
use Rattle.bpf_decode.specs.declared.operation.Size.TheVariants.{Byte, HalfWord, Word, DoubleWord}
use Rattle.bpf_decode.specs.declared.operation.Extension.{Extension}
use Rattle.bpf_decode.specs.declared.operation.Extension.TheVariants.{Zero, Sign}
use Rattle.bpf_decode.specs.declared.operation.Comparison.{Comparison}
use Rattle.bpf_decode.specs.declared.operation.AluCode.{AluCode}
use Rattle.bpf_decode.specs.declared.operation.Operation.{Operation}
use Rattle.bpf_decode.specs.declared.operation.Operation.TheVariants.{Alu, Load, Store, LoadImmediate, Jump, Branch, Call, Exit}
use Rattle.bpf_decode.specs.Opcodes.{operation_of, byte_count, distance_of, sign_extended, wide_immediate, wide_opcode}
use Rattle.bpf_decode.specs.Text.{insn_at, opcode_at}
use Rattle.insn_alu.specs.Arithmetic.{low}
use Rattle.insn_alu.proofs.Small.{low_fits, width_small}
use Rattle.verifier_kinds.specs.declared.kind.Align.TheVariants.{One}
use Rattle.verifier_kinds.specs.declared.kind.Range.{Range}
use Rattle.verifier_kinds.specs.declared.kind.Kind.{Kind}
use Rattle.verifier_kinds.specs.declared.kind.Kind.TheVariants.{Scalar, Context, Stack, MapValue, MaybeValue, MapName}
use Rattle.verifier_kinds.specs.declared.description.StackSlot.{StackSlot}
use Rattle.verifier_kinds.specs.declared.description.StackSlot.TheVariants.{Kept, Bytes}
use Rattle.verifier_kinds.specs.declared.description.Description.{Description}
use Rattle.verifier_kinds.specs.Kinds.{constant, shape_at, IsKind, IsNormal}
use Rattle.verifier_kinds.specs.Descriptions.{IsDescription, IsSlot, register_of, slot_of, number_bytes, with_kind, with_slot, with_unset}
use Rattle.verifier_kinds.specs.Arithmetic.{arith_by}
use Rattle.verifier_kinds.specs.Refinement.{refined}
use Rattle.verifier_kinds.proofs.Ranges.{constant_is_normal, normal_is_normal, full_is_normal}
use Rattle.verifier_kinds.proofs.Descriptions.{with_kind_is_description, with_slot_is_description, with_unset_is_description, resolved_is_description}
use Rattle.verifier_kinds.proofs.Joins.{mask_fit}
use Rattle.verifier_kinds.proofs.Refinement.{refined_is_normal}
use Rattle.verifier_kinds.proofs.Keeping.{arithmetic_is_kind}
use Rattle.verifier.specs.declared.jumps.Compared.{Compared}
use Rattle.verifier.specs.declared.jumps.Compared.TheVariants.{Numbers, Answer}
use Rattle.verifier.specs.Subject.{Subject}
use Rattle.verifier.specs.Flow.{◌>>=◌, both, known_or, holds_or, read_kind, writable, write_kind, operand_kind, dst_is_known, computed_kind, after_alu, lies_below, aligned, context_offset, stack_offset, loaded_range, mask, slot_kind, value_size_of, value_access, load_kind, loaded_kind, after_load, name_kind, at_offset, first_value_kind, wide_kind, after_load_immediate, written_slot, is_number, after_stack_store, stored, after_store, falls_to, jumps_to, target, is_null_check, compared_kinds, comparands, holds_of_null, checked_kind, on_successor, flow_of_branch, called_map, answer_kind, without_arguments, after_call, falls_on, flow_by, flow}
use Rattle.verifier.specs.Table.{Table, described, flows_by, flows_from, targets_of, IsRefusal}
use Rattle.verifier.specs.Wide.{HasNoLawful}
use Rattle.verifier.specs.Pass.{AreDescribed, FlowDescribed}
use Rattle.verifier.specs.Verified.{HasShapes, IsSubject}
use Rattle.verifier.specs.Successor.{AreNormal}
use Rattle.verifier.proofs.Tables.{below_next, IsTightBefore, IsDescription-incoming}
use Rattle.verifier.proofs.Shapes.{value_size_small}
use Rattle.verifier.proofs.Complete.{broken_leaves_none}

-- ---- questions

-- an answer to a question after another
then_keeps : {A B : Type 0} (P : A → Type 0) (Q : B → Type 0) (r : Result A ℕ) (f : A → Result B ℕ) → IfOk r P → ((x : A) → P x → IfOk (f x) Q) → IfOk (r >>= f) Q
then_keeps P Q (Ok x) f p q = q x p
then_keeps P Q (Err n) f p q = tt

-- two answers
abbrev Both : {A B : Type 0} → (A → Type 0) → (B → Type 0) → A × B → Type 0
Both P Q x = P x.0 × Q x.1

both_keep : {A B : Type 0} (P : A → Type 0) (Q : B → Type 0) (r : Result A ℕ) (s : Result B ℕ) → IfOk r P → IfOk s Q → IfOk (both r s) (Both P Q)
both_keep P Q (Ok x) (Ok y) p q = (p, q)
both_keep P Q (Ok x) (Err n) p q = tt
both_keep P Q (Err m) (Ok y) p q = tt
both_keep P Q (Err m) (Err n) p q = tt

-- of some answers nothing is said
abbrev IsAny : {A : Type 0} → A → Type 0
IsAny x = Unit {0}

any_answer : {A : Type 0} (r : Result A ℕ) → IfOk r IsAny
any_answer (Ok x) = tt
any_answer (Err n) = tt

-- ---- registers

known_keeps : (known : Option Kind) (rule : ℕ) → IfSome known IsKind → IfOk (known_or known rule) IsKind
known_keeps (Some kind) rule h = h
known_keeps None rule h = tt

read_keeps : (d : Description) (i : ℕ) → IsDescription d → IfOk (read_kind d i) IsKind
read_keeps d i h = known_keeps (register_of d i) unset_register (h.kinds i)

operand_keeps : (width : Width) (source : Source) (insn : Insn) (d : Description) → IsDescription d → IfOk (operand_kind width source insn d) IsKind
operand_keeps width Immediate insn d h =
    let number : ℕ = low width (sign_extended insn.imm) in
    constant_is_normal number (width_small width number (low_fits width (sign_extended insn.imm)))
operand_keeps width Register insn d h = read_keeps d insn.src h

write_keeps : (d : Description) (i : ℕ) (r : Result Kind ℕ) → IsDescription d → IfOk r IsKind → IfOk (write_kind d i r) IsDescription
write_keeps d i r h p =
    then_keeps (Both IsKind IsAny) IsDescription (both r (writable i)) (λ x. Ok (with_kind d i x.0)) (both_keep IsKind IsAny r (writable i) p (any_answer (writable i)))
    (λ x q. with_kind_is_description d i x.0 q.0 h)

alu_keeps : (code : AluCode) (width : Width) (source : Source) (insn : Insn) (d : Description) → IsDescription d → IfOk (after_alu code width source insn d) IsDescription
unfolding after_alu
alu_keeps code width source insn d h =
    write_keeps d insn.dst (computed_kind code width source insn d) h
    (then_keeps (Both IsAny IsKind) IsKind (both (dst_is_known code insn d) (operand_kind width source insn d)) (λ x. arith_by code width insn.offset (register_of d insn.dst) x.1)
    (both_keep IsAny IsKind (dst_is_known code insn d) (operand_kind width source insn d) (any_answer (dst_is_known code insn d)) (operand_keeps width source insn d h))
    (λ x q. arithmetic_is_kind code width insn.offset (register_of d insn.dst) x.1 (h.kinds insn.dst) q.1))

-- ---- loads

loaded_is_normal : (size : Size) (extension : Extension) → IsNormal (loaded_range size extension)
loaded_is_normal Byte Zero = normal_is_normal 0 255 One 0 (omega arith) (omega arith) refl (omega arith)
loaded_is_normal HalfWord Zero = normal_is_normal 0 65535 One 0 (omega arith) (omega arith) refl (omega arith)
loaded_is_normal Word Zero = normal_is_normal 0 4294967295 One 0 (omega arith) (omega arith) refl (omega arith)
loaded_is_normal DoubleWord Zero = full_is_normal One
loaded_is_normal size Sign = full_is_normal One

slot_keeps : (size : Size) (extension : Extension) (slot : StackSlot) (at : ℕ) → IsSlot slot → IfOk (slot_kind size extension slot at) IsKind
slot_keeps DoubleWord extension (Kept kind) at h = h
slot_keeps size extension (Kept (Scalar range)) at h = loaded_is_normal size extension
slot_keeps size extension (Kept pointer) at h = tt
slot_keeps size extension (Bytes set) at h = cond_both _ (Ok (Scalar (loaded_range size extension))) (Err unset_stack) (λ r. IfOk r IsKind) (λ _. loaded_is_normal size extension) (λ _. tt)

load_keeps : (p : Subject) (size : Size) (extension : Extension) (insn : Insn) (d : Description) (base : Kind) → IsDescription d → IfOk (load_kind p size extension insn d base) IsKind
load_keeps p size extension insn d (Context k) h =
    then_keeps IsAny IsKind (context_offset p.context_size (k +ℤ insn.offset) (byte_count size)) (λ at. Ok (Scalar (loaded_range size extension))) (any_answer (context_offset p.context_size (k +ℤ insn.offset) (byte_count size)))
    (λ at q. loaded_is_normal size extension)
load_keeps p size extension insn d (Stack k) h =
    then_keeps IsAny IsKind (stack_offset (k +ℤ insn.offset) (byte_count size)) (λ at. slot_kind size extension (slot_of d (at / 8)) at) (any_answer (stack_offset (k +ℤ insn.offset) (byte_count size)))
    (λ at q. slot_keeps size extension (slot_of d (at / 8)) at (h.slots (at / 8)))
load_keeps p size extension insn d (MapValue m offsets) h =
    then_keeps IsAny IsKind (value_access (value_size_of p m) offsets insn.offset (byte_count size)) (λ within. Ok (Scalar (loaded_range size extension))) (any_answer (value_access (value_size_of p m) offsets insn.offset (byte_count size)))
    (λ at q. loaded_is_normal size extension)
load_keeps p size extension insn d (MaybeValue m call) h = tt
load_keeps p size extension insn d (Scalar range) h = tt
load_keeps p size extension insn d (MapName m) h = tt

after_load_keeps : (p : Subject) (size : Size) (extension : Extension) (insn : Insn) (d : Description) → IsDescription d → IfOk (after_load p size extension insn d) IsDescription
unfolding after_load
after_load_keeps p size extension insn d h =
    write_keeps d insn.dst (loaded_kind p size extension insn d) h
    (then_keeps IsAny IsKind (read_kind d insn.src) (λ base. load_kind p size extension insn d base) (any_answer (read_kind d insn.src)) (λ base q. load_keeps p size extension insn d base h))

-- the second immediate has 32 bits
abbrev HasSmallNext : Insn → Type 0
HasSmallNext insn = insn.next_imm < 2 ^ 32

name_keeps : (p : Subject) (number : ℤ) → IfOk (name_kind p number) IsKind
name_keeps p (pos m) = then_keeps IsAny IsKind (holds_or (is_some (shape_at p.shapes m)) unknown_map) (λ there. Ok (MapName m)) (any_answer (holds_or (is_some (shape_at p.shapes m)) unknown_map)) (λ x q. tt)
name_keeps p (negsuc n) = tt

first_value_keeps : (p : Subject) (number : ℤ) (n : ℕ) → HasShapes p.shapes → IfOk (first_value_kind p number n) IsKind
first_value_keeps p (pos m) n shapes =
    then_keeps IsAny IsKind (holds_or (is_some (shape_at p.shapes m)) unknown_map) (λ there. holds_or (nat_lt n (value_size_of p m)) outside_map >>= λ within. Ok (MapValue m (at_offset n))) (any_answer (holds_or (is_some (shape_at p.shapes m)) unknown_map))
    (λ x q.
    cond_both (nat_lt n (value_size_of p m)) (Ok tt) (Err outside_map) (λ r. IfOk (r >>= λ within. Ok (MapValue m (at_offset n))) IsKind)
    (λ t.
    let less : n < value_size_of p m = ltb-true n (value_size_of p m) t in
    let small : value_size_of p m ≤ 4096 = value_size_small p m shapes in
    record { normal = constant_is_normal (65536 + n) (omega arith); below = omega arith })
    (λ _. tt))
first_value_keeps p (negsuc k) n shapes = tt

wide_keeps : (p : Subject) (insn : Insn) → HasShapes p.shapes → HasSmallNext insn → IfOk (wide_kind p insn) IsKind
wide_keeps p insn shapes small =
    cond_both (insn.src == 0) (Ok (Scalar (constant (wide_immediate insn)))) _ (λ r. IfOk r IsKind)
    (λ _. constant_is_normal (wide_immediate insn) (whole insn.next_imm (sign_extended insn.imm) small))
    (λ _.
    cond_both (insn.src == 1) (name_kind p insn.imm) (first_value_kind p insn.imm insn.next_imm) (λ r. IfOk r IsKind)
    (λ _. name_keeps p insn.imm) (λ _. first_value_keeps p insn.imm insn.next_imm shapes))
  where
    whole : (next imm : ℕ) → next < 2 ^ 32 → next * 2 ^ 32 + imm % 2 ^ 32 < 2 ^ 64
    whole next imm h = omega arith

after_load_immediate_keeps : (p : Subject) (insn : Insn) (d : Description) → HasShapes p.shapes → HasSmallNext insn → IsDescription d → IfOk (after_load_immediate p insn d) IsDescription
unfolding after_load_immediate
after_load_immediate_keeps p insn d shapes small h = write_keeps d insn.dst (wide_kind p insn) h (wide_keeps p insn shapes small)

-- ---- stores

-- a location of an access is aligned to its size
abbrev IsOffset : ℕ → ℕ → Type 0
IsOffset size at = at % size ≡ 0

begin_keeps : (offset : ℤ) (size : ℕ) → IfOk (stack_offset offset size) (IsOffset size)
begin_keeps offset size =
    then_keeps IsAny (IsOffset size) (lies_below (offset +ℤ pos stack_size) size stack_size outside_stack) (λ at. aligned at size) (any_answer (lies_below (offset +ℤ pos stack_size) size stack_size outside_stack))
    (λ at q. cond_both (at % size == 0) (Ok at) (Err misaligned) (λ r. IfOk r (IsOffset size)) (λ t. eqb-true (at % size) 0 t) (λ _. tt))

-- the bytes of an access are among the eight of a slot
shifted_fits : (ones most r : ℕ) → r ≤ most → ones * 2 ^ most < 256 → ones * 2 ^ r < 256
shifted_fits ones most r h fits =
    let order : 2 ^ r ≤ 2 ^ most = pow_mono h in
    let product : ones * 2 ^ r ≤ ones * 2 ^ most = mul-le ones (2 ^ r) ones (2 ^ most) (omega arith) order in
    omega arith

mask_are_bytes : (size : Size) (at : ℕ) → IsOffset (byte_count size) at → mask at size < 256
mask_are_bytes Byte at e = shifted_fits 1 7 (at % 8) (omega arith) (omega arith)
mask_are_bytes HalfWord at e = shifted_fits 3 6 (at % 8) (omega arith) (omega arith)
mask_are_bytes Word at e = shifted_fits 15 4 (at % 8) (omega arith) (omega arith)
mask_are_bytes DoubleWord at e = shifted_fits 255 0 (at % 8) (omega arith) (omega arith)

written_keeps : (size : Size) (slot : StackSlot) (at : ℕ) (kind : Kind) → IsOffset (byte_count size) at → IsSlot slot → IsKind kind → IfOk (written_slot size slot at kind) IsSlot
written_keeps DoubleWord slot at kind e p q = q
written_keeps Byte slot at (Scalar range) e p q = or_lt 8 (number_bytes slot) (mask at Byte) (mask_fit slot p) (mask_are_bytes Byte at e)
written_keeps HalfWord slot at (Scalar range) e p q = or_lt 8 (number_bytes slot) (mask at HalfWord) (mask_fit slot p) (mask_are_bytes HalfWord at e)
written_keeps Word slot at (Scalar range) e p q = or_lt 8 (number_bytes slot) (mask at Word) (mask_fit slot p) (mask_are_bytes Word at e)
written_keeps Byte slot at pointer e p q = tt
written_keeps HalfWord slot at pointer e p q = tt
written_keeps Word slot at pointer e p q = tt

stack_store_keeps : (size : Size) (offset : ℤ) (kind : Kind) (d : Description) → IsKind kind → IsDescription d → IfOk (after_stack_store size offset kind d) IsDescription
stack_store_keeps size offset kind d q h =
    then_keeps (IsOffset (byte_count size)) IsDescription (stack_offset offset (byte_count size)) (λ at. written_slot size (slot_of d (at / 8)) at kind >>= λ slot. Ok (with_slot d (at / 8) slot)) (begin_keeps offset (byte_count size))
    (λ at e.
    then_keeps IsSlot IsDescription (written_slot size (slot_of d (at / 8)) at kind) (λ slot. Ok (with_slot d (at / 8) slot)) (written_keeps size (slot_of d (at / 8)) at kind e (h.slots (at / 8)) q)
    (λ slot s. with_slot_is_description d (at / 8) slot s h))

stored_keeps : (p : Subject) (size : Size) (insn : Insn) (d : Description) (base kind : Kind) → IsKind kind → IsDescription d → IfOk (stored p size insn d base kind) IsDescription
stored_keeps p size insn d (Stack k) kind q h = stack_store_keeps size (k +ℤ insn.offset) kind d q h
stored_keeps p size insn d (MapValue m offsets) kind q h =
    then_keeps IsAny IsDescription (value_access (value_size_of p m) offsets insn.offset (byte_count size)) (λ within. is_number kind >>= λ number. Ok d) (any_answer (value_access (value_size_of p m) offsets insn.offset (byte_count size)))
    (λ x r. then_keeps IsAny IsDescription (is_number kind) (λ number. Ok d) (any_answer (is_number kind)) (λ y s. h))
stored_keeps p size insn d (MaybeValue m call) kind q h = tt
stored_keeps p size insn d (Scalar range) kind q h = tt
stored_keeps p size insn d (Context k) kind q h = tt
stored_keeps p size insn d (MapName m) kind q h = tt

after_store_keeps : (p : Subject) (size : Size) (source : Source) (insn : Insn) (d : Description) → IsDescription d → IfOk (after_store p size source insn d) IsDescription
unfolding after_store
after_store_keeps p size source insn d h =
    then_keeps (Both IsAny IsKind) IsDescription (both (read_kind d insn.dst) (operand_kind Bits64 source insn d)) (λ x. stored p size insn d x.0 x.1)
    (both_keep IsAny IsKind (read_kind d insn.dst) (operand_kind Bits64 source insn d) (any_answer (read_kind d insn.dst)) (operand_keeps Bits64 source insn d h))
    (λ x q. stored_keeps p size insn d x.0 x.1 q.1 h)

-- ---- calls

answer_is_kind : (helper : MapHelper) (slot m : ℕ) → IsKind (answer_kind helper slot m)
answer_is_kind Lookup slot m = tt
answer_is_kind Update slot m = full_is_normal One
answer_is_kind Delete slot m = full_is_normal One

without_keeps : (d : Description) → IsDescription d → IsDescription (without_arguments d)
without_keeps d h =
    with_unset_is_description (with_unset (with_unset (with_unset (with_unset d 1) 2) 3) 4) 5
    (with_unset_is_description (with_unset (with_unset (with_unset d 1) 2) 3) 4
    (with_unset_is_description (with_unset (with_unset d 1) 2) 3
    (with_unset_is_description (with_unset d 1) 2
    (with_unset_is_description d 1 h))))

call_keeps : (p : Subject) (slot : ℕ) (insn : Insn) (d : Description) → IsDescription d → IfOk (after_call p slot insn d) IsDescription
unfolding after_call
call_keeps p slot insn d h =
    then_keeps IsAny IsDescription (known_or (helper_of (sign_extended insn.imm)) unknown_helper) (λ helper. called_map p helper d >>= λ m. Ok (with_kind (without_arguments d) 0 (answer_kind helper slot m))) (any_answer (known_or (helper_of (sign_extended insn.imm)) unknown_helper))
    (λ helper q.
    then_keeps IsAny IsDescription (called_map p helper d) (λ m. Ok (with_kind (without_arguments d) 0 (answer_kind helper slot m))) (any_answer (called_map p helper d))
    (λ m r. with_kind_is_description (without_arguments d) 0 (answer_kind helper slot m) (answer_is_kind helper slot m) (without_keeps d h)))

-- ---- targets

target_keeps : (to : ℕ) (known : Option Description) → IfSome known IsDescription → AreDescribed (target to known)
target_keeps to None h = All-nil (λ t. IsDescription t.1)
target_keeps to (Some d) h = All-cons (λ t. IsDescription t.1) (to, d) [] h (All-nil (λ t. IsDescription t.1))

falls_on_keeps : (p : Subject) (slot : ℕ) (r : Result Description ℕ) → IfOk r IsDescription → IfOk (falls_on p slot r) AreDescribed
falls_on_keeps p slot r h =
    then_keeps (Both IsDescription IsAny) AreDescribed (both r (falls_to p.text slot)) (λ x. Ok (target x.1 (Some x.0))) (both_keep IsDescription IsAny r (falls_to p.text slot) h (any_answer (falls_to p.text slot)))
    (λ x q. target_keeps x.1 (Some x.0) q.0)

compared_keep : (null_check : Bool) (a b : Kind) → IsKind a → IsKind b → IfOk (compared_kinds null_check (a, b)) AreNormal
compared_keep null_check (MaybeValue m call) b p q = cond_both null_check (Ok (Answer m call)) _ (λ r. IfOk r AreNormal) (λ _. tt) (λ _. tt)
compared_keep null_check (Scalar a) (Scalar b) p q = (p, q)
compared_keep null_check (Scalar a) (MaybeValue m call) p q = tt
compared_keep null_check (Context k) (MaybeValue m call) p q = tt
compared_keep null_check (Stack k) (MaybeValue m call) p q = tt
compared_keep null_check (MapValue n offsets) (MaybeValue m call) p q = tt
compared_keep null_check (MapName n) (MaybeValue m call) p q = tt
compared_keep null_check a b p q = tt

comparands_keep : (comparison : Comparison) (width : Width) (source : Source) (insn : Insn) (d : Description) → IsDescription d → IfOk (comparands comparison width source insn d) AreNormal
comparands_keep comparison width source insn d h =
    then_keeps (Both IsKind IsKind) AreNormal (both (read_kind d insn.dst) (operand_kind width source insn d)) (compared_kinds (is_null_check comparison width source insn))
    (both_keep IsKind IsKind (read_kind d insn.dst) (operand_kind width source insn d) (read_keeps d insn.dst h) (operand_keeps width source insn d h))
    (λ x q. compared_keep (is_null_check comparison width source insn) x.0 x.1 q.0 q.1)

learned_keeps : (d : Description) (dst : ℕ) (range : Option Range) → IfSome range IsNormal → IsDescription d → IfSome (option_map (λ range. with_kind d dst (Scalar range)) range) IsDescription
learned_keeps d dst None p h = tt
learned_keeps d dst (Some range) p h = with_kind_is_description d dst (Scalar range) p h

checked_is_kind : (m : ℕ) (null : Bool) → IsKind (checked_kind m null)
checked_is_kind m true = constant_is_normal 0 (omega arith)
checked_is_kind m false = record { normal = constant_is_normal 65536 (omega arith); below = omega arith }

successor_keeps : (comparison : Comparison) (width : Width) (taken : Bool) (insn : Insn) (d : Description) (compared : Compared) → AreNormal compared → IsDescription d → IfSome (on_successor comparison width taken insn d compared) IsDescription
successor_keeps comparison width taken insn d (Numbers a b) (p, q) h = learned_keeps d insn.dst (refined comparison width taken a b) (refined_is_normal comparison width taken a b p q) h
successor_keeps comparison width true insn d (Answer m call) p h = resolved_is_description call _ d (checked_is_kind m (holds_of_null comparison)) h
successor_keeps comparison width false insn d (Answer m call) p h = resolved_is_description call _ d (checked_is_kind m (not (holds_of_null comparison))) h

branch_keeps : (p : Subject) (comparison : Comparison) (width : Width) (source : Source) (insn : Insn) (slot : ℕ) (d : Description) → IsDescription d → IfOk (flow_of_branch p comparison width source insn slot d) AreDescribed
branch_keeps p comparison width source insn slot d h =
    let targets : Result (ℕ × ℕ) ℕ = both (falls_to p.text slot) (jumps_to p.text slot insn.offset) in
    let successor : Bool → Compared → Option Description = λ taken compared. on_successor comparison width taken insn d compared in
    then_keeps (Both AreNormal IsAny) AreDescribed (both (comparands comparison width source insn d) targets) (λ x. Ok (target x.1.0 (successor false x.0) ++ target x.1.1 (successor true x.0)))
    (both_keep AreNormal IsAny (comparands comparison width source insn d) targets (comparands_keep comparison width source insn d h) (any_answer targets))
    (λ x q.
    All-append (λ t. IsDescription t.1) (target x.1.0 (successor false x.0)) (target x.1.1 (successor true x.0))
    (target_keeps x.1.0 (successor false x.0) (successor_keeps comparison width false insn d x.0 q.0 h))
    (target_keeps x.1.1 (successor true x.0) (successor_keeps comparison width true insn d x.0 q.0 h)))

-- ---- instructions

keeps_by : (p : Subject) (operation : Operation) (slot : ℕ) (d : Description) → HasShapes p.shapes → HasSmallNext (insn_at p.text slot) → IsDescription d → IfOk (flow_by p operation slot d) AreDescribed
unfolding flow_by
keeps_by p (Alu code width source) slot d shapes small h = falls_on_keeps p slot (after_alu code width source (insn_at p.text slot) d) (alu_keeps code width source (insn_at p.text slot) d h)
keeps_by p (Load size extension) slot d shapes small h = falls_on_keeps p slot (after_load p size extension (insn_at p.text slot) d) (after_load_keeps p size extension (insn_at p.text slot) d h)
keeps_by p (Store size source) slot d shapes small h = falls_on_keeps p slot (after_store p size source (insn_at p.text slot) d) (after_store_keeps p size source (insn_at p.text slot) d h)
keeps_by p LoadImmediate slot d shapes small h = falls_on_keeps p slot (after_load_immediate p (insn_at p.text slot) d) (after_load_immediate_keeps p (insn_at p.text slot) d shapes small h)
keeps_by p Call slot d shapes small h = falls_on_keeps p slot (after_call p slot (insn_at p.text slot) d) (call_keeps p slot (insn_at p.text slot) d h)
keeps_by p (Jump distance) slot d shapes small h =
    then_keeps IsAny AreDescribed (jumps_to p.text slot (distance_of distance (insn_at p.text slot))) (λ to. Ok (target to (Some d))) (any_answer (jumps_to p.text slot (distance_of distance (insn_at p.text slot)))) (λ to q. target_keeps to (Some d) h)
keeps_by p (Branch comparison width source) slot d shapes small h = branch_keeps p comparison width source (insn_at p.text slot) slot d h
keeps_by p Exit slot d shapes small h =
    then_keeps IsAny AreDescribed (read_kind d 0) (λ kind. is_number kind >>= λ returned. Ok []) (any_answer (read_kind d 0))
    (λ kind q. then_keeps IsAny AreDescribed (is_number kind) (λ returned. Ok []) (any_answer (is_number kind)) (λ x r. All-nil (λ t. IsDescription t.1)))

-- from a description of the verifier an instruction lets such descriptions flow on
flow_keeps : (p : Subject) (slot : ℕ) (d : Description) → HasShapes p.shapes → HasSmallNext (insn_at p.text slot) → IsDescription d → IfOk (flow p slot d) AreDescribed
flow_keeps p slot d shapes small h =
    then_keeps IsAny AreDescribed (known_or (operation_of (insn_at p.text slot).opcode) unknown_opcode) (λ operation. flow_by p operation slot d) (any_answer (known_or (operation_of (insn_at p.text slot).opcode) unknown_opcode))
    (λ operation q. keeps_by p operation slot d shapes small h)

-- ---- texts of bytes

part_of_bytes : (xs : List ℕ) (at n : ℕ) → All (λ byte. byte < 256) xs → (All (λ byte. byte < 256) (part_of xs at n)) × (length (part_of xs at n) ≤ n)
unfolding part_of
part_of_bytes xs at n h = (All-take (λ byte. byte < 256) n (drop at xs) (All-drop (λ byte. byte < 256) at xs h), few)
  where
    few : length (take n (drop at xs)) ≤ n
    few = rw (length-take n (drop at xs)) (omega arith)

next_is_small : (text : List ℕ) (slot : ℕ) → All (λ byte. byte < 256) text → HasSmallNext (insn_at text slot)
unfolding insn_at
next_is_small text slot h =
    cond_both (opcode_at text slot == wide_opcode) (number_of (part_of text (8 * slot + 12) 4)) 0 (λ n. n < 2 ^ 32)
    (λ _.
    let (bytes, few) = part_of_bytes text (8 * slot + 12) 4 h in
    let small : number_of (part_of text (8 * slot + 12) 4) < 256 ^ length (part_of text (8 * slot + 12) 4) = number_of-small (part_of text (8 * slot + 12) 4) bytes in
    by_length (number_of (part_of text (8 * slot + 12) 4)) (length (part_of text (8 * slot + 12) 4)) few small)
    (λ _. omega arith)
  where
    by_length : (number n : ℕ) → n ≤ 4 → number < 256 ^ n → number < 2 ^ 32
    by_length number zero few h = omega arith
    by_length number (suc zero) few h = omega arith
    by_length number (suc (suc zero)) few h = omega arith
    by_length number (suc (suc (suc zero))) few h = omega arith
    by_length number (suc (suc (suc (suc zero)))) few h = omega arith
    by_length number (suc (suc (suc (suc (suc n))))) few h = absurd (omega arith)

-- of a text of bytes a tight table lets descriptions of the verifier flow
flows_keep : (p : Subject) (slot : ℕ) (known : Option Description) → HasShapes p.shapes → HasSmallNext (insn_at p.text slot) → IfSome known IsDescription → AreDescribed (flows_by p slot known)
flows_keep p slot None shapes small h = All-nil (λ t. IsDescription t.1)
flows_keep p slot (Some d) shapes small h = of (flow p slot d) (flow_keeps p slot d shapes small h)
  where
    of : (r : Result (List (ℕ × Description)) ℕ) → IfOk r AreDescribed → AreDescribed (targets_of r)
    of (Ok targets) q = q
    of (Err rule) q = All-nil (λ t. IsDescription t.1)

tight_flows : (p : Subject) (tight : Table) (n : ℕ) → HasShapes p.shapes → All (λ byte. byte < 256) p.text → IsTightBefore p tight n → FlowDescribed p tight n
tight_flows p tight zero shapes bytes t s h = absurd (omega arith)
tight_flows p tight (suc n) shapes bytes t s h =
    let before : FlowDescribed p tight n = tight_flows p tight n shapes bytes (λ r k. t r (omega arith)) in
    elim (below_next s n h) [
      | inl below ↦ before s below
      | inr same ↦
          let P : ℕ → Type 0 = λ s. AreDescribed (flows_from p tight s) in
          let known : IfSome (described tight n) IsDescription = subst (λ o. IfSome o IsDescription) (sym (t n (omega arith))) (IsDescription-incoming p tight n n before) in
          subst P (sym same) (flows_keep p n (described tight n) shapes (next_is_small p.text n bytes) known)
    ]

-- a refusal of a text of bytes leaves no lawful table
pub refusal_leaves_none : (p : Subject) (refused : Refused) → IsSubject p → All (λ byte. byte < 256) p.text → IsRefusal p refused → HasNoLawful p
refusal_leaves_none p refused subject bytes i =
    broken_leaves_none p i.table refused.slot refused.number
    (tight_flows p i.table refused.slot subject.shapes bytes (λ s h. i.tight s (omega arith)))
    (λ s h. i.tight s (omega arith)) i.breaks
