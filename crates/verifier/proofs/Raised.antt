-- Each lawful table stays one once its offsets are `extra` more: what flows from a description flows from the raised
-- one, raised.
use Rattle.std.proofs.Common.{◌≡◌, ℕ, zero, suc, ◌+◌, ◌/◌, ◌%◌, ◌==◌, ◌&&◌, ◌∙◌, ℤ, pos, ◌+ℤ◌, Bool, true, false, not, bit_and, bit_or, List, [], ◌∷◌, ◌++◌, All, IfSome, map, Option, Some, None, Result, Ok, Err, refl, sym, ap, subst, inl, inr, arith}
use Rattle.std.specs.Prelude.{if◌then◌else◌, option_map}
use Rattle.std.proofs.lemmas.Int.{ints}
use Rattle.std.proofs.lemmas.Bool.{cases_Bool, cond_both, and_parts, and_from, eq-eqb, eqb-true, eqb-false}
use Rattle.std.proofs.lemmas.List.{length-map, map-append}
use Rattle.std.proofs.lemmas.List.Elements.{All-nil, All-cons, All-head, All-tail}
use Rattle.host_types.specs.declared.helper.MapHelper.{MapHelper}
use Rattle.host_types.specs.declared.helper.MapHelper.TheVariants.{Lookup, Update, Delete}
use Rattle.host_types.specs.Layout.{stack_size}
use Rattle.host_types.specs.Rules.{unknown_opcode, unset_register, unset_stack, unknown_helper, outside_map, misaligned, outside_stack}
use Rattle.host_types.specs.Helpers.{helper_of}
use Rattle.bpf_decode.specs.declared.insn.Insn.{Insn}
use Rattle.bpf_decode.specs.declared.operation.Source.{Source}
use Rattle.bpf_decode.specs.declared.operation.Source.TheVariants.{Immediate, Register}
use Rattle.bpf_decode.specs.declared.operation.Width.{Width}
use Rattle.bpf_decode.specs.declared.operation.Width.TheVariants.{Bits64}
use Rattle.bpf_decode.specs.declared.operation.Size.{Size}
use Rattle.bpf_decode.specs.declared.operation.Size.TheVariants.{Byte, HalfWord, Word, DoubleWord}
use Rattle.bpf_decode.specs.declared.operation.Extension.{Extension}
use Rattle.bpf_decode.specs.declared.operation.Comparison.{Comparison}
use Rattle.bpf_decode.specs.declared.operation.AluCode.{AluCode}
use Rattle.bpf_decode.specs.declared.operation.Operation.{Operation}
use Rattle.bpf_decode.specs.declared.operation.Operation.TheVariants.{Alu, Load, Store, LoadImmediate, Jump, Branch, Call, Exit}
use Rattle.bpf_decode.specs.Opcodes.{operation_of, byte_count, distance_of, sign_extended}
use Rattle.bpf_decode.specs.Text.{insn_at}
use Rattle.insn_alu.specs.Arithmetic.{reads_dst}
use Rattle.verifier_kinds.specs.declared.kind.Range.{Range}
use Rattle.verifier_kinds.specs.declared.kind.Offsets.{Offsets}
use Rattle.verifier_kinds.specs.declared.kind.Kind.{Kind}
use Rattle.verifier_kinds.specs.declared.kind.Kind.TheVariants.{Scalar, Context, Stack, MapValue, MaybeValue, MapName}
use Rattle.verifier_kinds.specs.declared.description.StackSlot.{StackSlot}
use Rattle.verifier_kinds.specs.declared.description.StackSlot.TheVariants.{Kept, Bytes}
use Rattle.verifier_kinds.specs.declared.description.Description.{Description}
use Rattle.verifier_kinds.specs.Kinds.{factor, IsNormalKind, IsOfCallBelow}
use Rattle.verifier_kinds.specs.Descriptions.{start_description, register_of, slot_of, with_kind, with_slot, with_unset, IsLawfulAt, IsNormalSlot, IsSlotOfCallBelow}
use Rattle.verifier_kinds.specs.Arithmetic.{arith_by}
use Rattle.verifier_kinds.specs.Refinement.{refined}
use Rattle.verifier_kinds.specs.Wide.{raised, raised_kind, raised_slot, raised_description, arith_by_at, IsWideKind, IsWideSlot, IsWideAt}
use Rattle.verifier_kinds.proofs.Descriptions.{get_or-mapped}
use Rattle.verifier_kinds.proofs.Moves.{int_le_true, true_int_le}
use Rattle.verifier_kinds.proofs.NarrowerKinds.{IsResultBelow, result_below_self}
use Rattle.verifier_kinds.proofs.Raised.{IsRaisedKind, arithmetic_raised, register_of-raised, slot_of-raised, with_kind-raised, with_unset-raised, with_slot-raised, raised_bytes, with_answer_known-raised, description_raised_below}
use Rattle.verifier.specs.declared.jumps.Compared.{Compared}
use Rattle.verifier.specs.declared.jumps.Compared.TheVariants.{Numbers, Answer}
use Rattle.verifier.specs.Subject.{Subject}
use Rattle.verifier.specs.Flow.{◌>>=◌, both, first_of, holds_or, known_or, read_kind, writable, write_kind, operand_kind, dst_is_known, computed_kind, after_alu, lies_below, aligned, context_offset, stack_offset, loaded_range, mask, slot_kind, value_size_of, begins_in_value, ends_in_value, lies_in_value, is_aligned_in_value, value_access, load_kind, loaded_kind, after_load, wide_kind, after_load_immediate, written_slot, is_number, after_stack_store, stored, after_store, falls_to, jumps_to, target, is_null_check, compared_kinds, comparands, holds_of_null, checked_kind, on_successor, flow_of_branch, byte_in_slot, bytes_known, argument, points, name_in, flags_in, named_map, key_argument, value_argument, flags_argument, update_arguments, called_map, answer_kind, without_arguments, after_call, falls_on, flow_of_exit, flow_by, flow}
use Rattle.verifier.specs.Table.{Table, described, IsContained, IsLawful}
use Rattle.verifier.specs.Wide.{computed_kind_at, begin_number, end_number, begins_at, ends_at, lies_at, access_at, load_kind_at, loaded_kind_at, wide_kind_at, stored_at, after_store_at, on_successor_at, flow_of_branch_at, flow_by_at, flow_at, raised_table, IsKeptWide, IsWideLawful}
use Rattle.verifier.proofs.Narrower.{IsAsked, AreBoth, then_below, then_same, both_below, holds_below, asked_self, raised_rest}

-- ---- registers

-- a description is another, its offsets `extra` more
abbrev IsRaised : ℕ → Description → Description → Type 0
IsRaised extra d e = d ≡ raised_description extra e

known_raised : (extra : ℕ) (known : Option Kind) (rule : ℕ) → IsResultBelow (IsRaisedKind extra) (known_or (option_map (raised_kind extra) known) rule) (known_or known rule)
known_raised extra (Some kind) rule = refl
known_raised extra None rule = tt

read_raised : (extra : ℕ) (d : Description) (i : ℕ) → IsResultBelow (IsRaisedKind extra) (read_kind (raised_description extra d) i) (read_kind d i)
read_raised extra d i = rw (register_of-raised extra d i) (known_raised extra (register_of d i) unset_register)

operand_raised : (extra : ℕ) (width : Width) (source : Source) (insn : Insn) (d : Description) → IsResultBelow (IsRaisedKind extra) (operand_kind width source insn (raised_description extra d)) (operand_kind width source insn d)
operand_raised extra width Immediate insn d = refl
operand_raised extra width Register insn d = read_raised extra d insn.src

written_raised : (extra : ℕ) (d : Description) (i : ℕ) (r s : Result Kind ℕ) → IsResultBelow (IsRaisedKind extra) r s → IsResultBelow (IsRaised extra) (write_kind (raised_description extra d) i r) (write_kind d i s)
written_raised extra d i r s p =
    then_below (AreBoth (IsRaisedKind extra) IsAsked) (IsRaised extra) (both r (writable i)) (both s (writable i)) (λ x. Ok (with_kind (raised_description extra d) i x.0)) (λ x. Ok (with_kind d i x.0))
    (both_below (IsRaisedKind extra) IsAsked r s (writable i) (writable i) p (asked_self (writable i)))
    (λ x y h. ap (with_kind (raised_description extra d) i) h.0 ∙ with_kind-raised extra d i y.0)

dst_raised : (extra : ℕ) (code : AluCode) (insn : Insn) (d : Description) → IsResultBelow IsAsked (dst_is_known code insn (raised_description extra d)) (dst_is_known code insn d)
dst_raised extra code insn d = by_test (reads_dst code)
  where
    by_test : (t : Bool) → IsResultBelow IsAsked (if t then (read_kind (raised_description extra d) insn.dst >>= λ kind. Ok tt) else Ok tt) (if t then (read_kind d insn.dst >>= λ kind. Ok tt) else Ok tt)
    by_test true = then_below (IsRaisedKind extra) IsAsked (read_kind (raised_description extra d) insn.dst) (read_kind d insn.dst) (λ kind. Ok tt) (λ kind. Ok tt) (read_raised extra d insn.dst) (λ x y h. tt)
    by_test false = tt

alu_raised : (extra : ℕ) (code : AluCode) (width : Width) (source : Source) (insn : Insn) (d : Description) → extra % 8 ≡ 0 → IsResultBelow (IsRaised extra) (write_kind (raised_description extra d) insn.dst (computed_kind_at extra code width source insn (raised_description extra d))) (after_alu code width source insn d)
unfolding after_alu
alu_raised extra code width source insn d whole =
    let e : Description = raised_description extra d in
    written_raised extra d insn.dst (computed_kind_at extra code width source insn e) (computed_kind code width source insn d)
    (then_below (AreBoth IsAsked (IsRaisedKind extra)) (IsRaisedKind extra)
    (both (dst_is_known code insn e) (operand_kind width source insn e)) (both (dst_is_known code insn d) (operand_kind width source insn d))
    (λ x. arith_by_at extra code width insn.offset (register_of e insn.dst) x.1) (λ x. arith_by code width insn.offset (register_of d insn.dst) x.1)
    (both_below IsAsked (IsRaisedKind extra) (dst_is_known code insn e) (dst_is_known code insn d) (operand_kind width source insn e) (operand_kind width source insn d) (dst_raised extra code insn d) (operand_raised extra width source insn d))
    (λ x y h. rw (register_of-raised extra d insn.dst, h.1) (arithmetic_raised extra code width insn.offset (register_of d insn.dst) y.1 whole)))

-- ---- loads

slot_kind_raised : (extra : ℕ) (size : Size) (extension : Extension) (slot : StackSlot) (at : ℕ) → IsResultBelow (IsRaisedKind extra) (slot_kind size extension (raised_slot extra slot) at) (slot_kind size extension slot at)
slot_kind_raised extra size extension (Bytes set) at =
    cond_both (bit_and set (mask at size) == mask at size) (Ok (Scalar (loaded_range size extension))) (Err unset_stack) (λ r. IsResultBelow (IsRaisedKind extra) r r) (λ _. refl) (λ _. tt)
slot_kind_raised extra DoubleWord extension (Kept kind) at = refl
slot_kind_raised extra Byte extension (Kept (Scalar range)) at = refl
slot_kind_raised extra HalfWord extension (Kept (Scalar range)) at = refl
slot_kind_raised extra Word extension (Kept (Scalar range)) at = refl
slot_kind_raised extra Byte extension (Kept pointer) at = tt
slot_kind_raised extra HalfWord extension (Kept pointer) at = tt
slot_kind_raised extra Word extension (Kept pointer) at = tt

same_raised : (extra a b : ℕ) → (extra + a == extra + b) ≡ (a == b)
same_raised extra a b = elim (cases_Bool (a == b)) [
  | inl t ↦ eq-eqb (extra + a) (extra + b) (ap (λ n. extra + n) (eqb-true a b t)) ∙ sym t
  | inr f ↦ elim (cases_Bool (extra + a == extra + b)) [
    | inl t ↦ let same : extra + a ≡ extra + b = eqb-true (extra + a) (extra + b) t in absurd (eqb-false a b f (omega arith))
    | inr g ↦ g ∙ sym f
  ]
]

aligned_raised : (extra : ℕ) (offsets : Offsets) (by : ℤ) (size : Size) → extra % 8 ≡ 0 → is_aligned_in_value (raised extra offsets) by (byte_count size) ≡ is_aligned_in_value offsets by (byte_count size)
aligned_raised extra offsets by size whole =
    let bytes : ℕ = byte_count size in
    let rest : ℕ = sign_extended by % bytes in
    let other : Bool = (factor offsets.align % bytes == 0) && (rest == 0) in
    let sum : extra + offsets.low + rest ≡ extra + (offsets.low + rest) = omega arith in
    let left : (extra + offsets.low + rest) % bytes ≡ (offsets.low + rest) % bytes = ap (λ n. n % bytes) sum ∙ raised_rest extra (offsets.low + rest) size whole in
    ap (λ t. if t then (extra + offsets.low + rest) % bytes == 0 else other) (same_raised extra offsets.low offsets.high)
    ∙ ap (λ n. if offsets.low == offsets.high then n == 0 else other) left

begins_raised : (extra : ℕ) (offsets : Offsets) (by : ℤ) → begins_in_value offsets by ≡ true → begins_at extra (raised extra offsets) by ≡ true
begins_raised extra offsets by t =
    let known = true_int_le (pos 65536) (pos offsets.low +ℤ by) t in
    int_le_true (pos (begin_number extra)) (pos (extra + offsets.low) +ℤ by) (omega (arith, ints))

ends_raised : (extra value_size : ℕ) (offsets : Offsets) (by : ℤ) (size : ℕ) → ends_in_value value_size offsets by size ≡ true → ends_at extra value_size (raised extra offsets) by size ≡ true
ends_raised extra value_size offsets by size t =
    let known = true_int_le (pos (offsets.high + size) +ℤ by) (pos (65536 + value_size)) t in
    int_le_true (pos (extra + offsets.high + size) +ℤ by) (pos (end_number extra value_size)) (omega (arith, ints))

access_raised : (extra value_size : ℕ) (offsets : Offsets) (by : ℤ) (size : Size) → extra % 8 ≡ 0 → IsResultBelow IsAsked (access_at extra value_size (raised extra offsets) by (byte_count size)) (value_access value_size offsets by (byte_count size))
access_raised extra value_size offsets by size whole =
    let bytes : ℕ = byte_count size in
    let e : Offsets = raised extra offsets in
    then_below IsAsked IsAsked (lies_at extra value_size e by bytes) (lies_in_value value_size offsets by bytes)
    (λ within. holds_or (is_aligned_in_value e by bytes) misaligned) (λ within. holds_or (is_aligned_in_value offsets by bytes) misaligned)
    (holds_below (begins_at extra e by && ends_at extra value_size e by bytes) (begins_in_value offsets by && ends_in_value value_size offsets by bytes) outside_map
    (λ t.
    let parts = and_parts (begins_in_value offsets by) (ends_in_value value_size offsets by bytes) t in
    and_from (begins_at extra e by) (ends_at extra value_size e by bytes)
    (begins_raised extra offsets by parts.0) (ends_raised extra value_size offsets by bytes parts.1)))
    (λ x y h. holds_below (is_aligned_in_value e by bytes) (is_aligned_in_value offsets by bytes) misaligned (λ t. aligned_raised extra offsets by size whole ∙ t))

load_raised : (extra : ℕ) (p : Subject) (size : Size) (extension : Extension) (insn : Insn) (d : Description) (base : Kind) → extra % 8 ≡ 0 → IsResultBelow (IsRaisedKind extra) (load_kind_at extra p size extension insn (raised_description extra d) (raised_kind extra base)) (load_kind p size extension insn d base)
load_raised extra p size extension insn d (Context k) whole =
    then_same (IsRaisedKind extra) (context_offset p.context_size (k +ℤ insn.offset) (byte_count size)) (λ at. Ok (Scalar (loaded_range size extension))) (λ at. Ok (Scalar (loaded_range size extension))) (λ at. refl)
load_raised extra p size extension insn d (Stack k) whole =
    then_same (IsRaisedKind extra) (stack_offset (k +ℤ insn.offset) (byte_count size))
    (λ at. slot_kind size extension (slot_of (raised_description extra d) (at / 8)) at) (λ at. slot_kind size extension (slot_of d (at / 8)) at)
    (λ at. rw (slot_of-raised extra d (at / 8)) (slot_kind_raised extra size extension (slot_of d (at / 8)) at))
load_raised extra p size extension insn d (MapValue m offsets) whole =
    then_below IsAsked (IsRaisedKind extra) (access_at extra (value_size_of p m) (raised extra offsets) insn.offset (byte_count size)) (value_access (value_size_of p m) offsets insn.offset (byte_count size))
    (λ within. Ok (Scalar (loaded_range size extension))) (λ within. Ok (Scalar (loaded_range size extension)))
    (access_raised extra (value_size_of p m) offsets insn.offset size whole) (λ x y h. refl)
load_raised extra p size extension insn d (MaybeValue m call) whole = tt
load_raised extra p size extension insn d (Scalar range) whole = tt
load_raised extra p size extension insn d (MapName m) whole = tt

after_load_raised : (extra : ℕ) (p : Subject) (size : Size) (extension : Extension) (insn : Insn) (d : Description) → extra % 8 ≡ 0 → IsResultBelow (IsRaised extra) (write_kind (raised_description extra d) insn.dst (loaded_kind_at extra p size extension insn (raised_description extra d))) (after_load p size extension insn d)
unfolding after_load
after_load_raised extra p size extension insn d whole =
    let e : Description = raised_description extra d in
    written_raised extra d insn.dst (loaded_kind_at extra p size extension insn e) (loaded_kind p size extension insn d)
    (then_below (IsRaisedKind extra) (IsRaisedKind extra) (read_kind e insn.src) (read_kind d insn.src)
    (λ base. load_kind_at extra p size extension insn e base) (λ base. load_kind p size extension insn d base)
    (read_raised extra d insn.src) (λ x y h. rw h (load_raised extra p size extension insn d y whole)))

immediate_raised : (extra : ℕ) (r : Result Kind ℕ) → IsResultBelow (IsRaisedKind extra) (r >>= λ kind. Ok (raised_kind extra kind)) r
immediate_raised extra (Ok kind) = refl
immediate_raised extra (Err n) = tt

after_load_immediate_raised : (extra : ℕ) (p : Subject) (insn : Insn) (d : Description) → IsResultBelow (IsRaised extra) (write_kind (raised_description extra d) insn.dst (wide_kind_at extra p insn)) (after_load_immediate p insn d)
unfolding after_load_immediate
after_load_immediate_raised extra p insn d = written_raised extra d insn.dst (wide_kind_at extra p insn) (wide_kind p insn) (immediate_raised extra (wide_kind p insn))

-- ---- stores

-- a slot of the stack is another, its offsets `extra` more
abbrev IsRaisedSlot : ℕ → StackSlot → StackSlot → Type 0
IsRaisedSlot extra a b = a ≡ raised_slot extra b

written_slot_raised : (extra : ℕ) (size : Size) (slot : StackSlot) (at : ℕ) (kind : Kind) → IsResultBelow (IsRaisedSlot extra) (written_slot size (raised_slot extra slot) at (raised_kind extra kind)) (written_slot size slot at kind)
written_slot_raised extra DoubleWord slot at kind = refl
written_slot_raised extra Byte slot at (Scalar range) = ap (λ n. Bytes (bit_or n (mask at Byte))) (raised_bytes extra slot)
written_slot_raised extra HalfWord slot at (Scalar range) = ap (λ n. Bytes (bit_or n (mask at HalfWord))) (raised_bytes extra slot)
written_slot_raised extra Word slot at (Scalar range) = ap (λ n. Bytes (bit_or n (mask at Word))) (raised_bytes extra slot)
written_slot_raised extra Byte slot at pointer = tt
written_slot_raised extra HalfWord slot at pointer = tt
written_slot_raised extra Word slot at pointer = tt

number_raised : (extra : ℕ) (kind : Kind) → IsResultBelow IsAsked (is_number (raised_kind extra kind)) (is_number kind)
number_raised extra (Scalar range) = tt
number_raised extra pointer = tt

stack_store_raised : (extra : ℕ) (size : Size) (offset : ℤ) (kind : Kind) (d : Description) → IsResultBelow (IsRaised extra) (after_stack_store size offset (raised_kind extra kind) (raised_description extra d)) (after_stack_store size offset kind d)
stack_store_raised extra size offset kind d =
    let e : Description = raised_description extra d in
    then_same (IsRaised extra) (stack_offset offset (byte_count size))
    (λ at. written_slot size (slot_of e (at / 8)) at (raised_kind extra kind) >>= λ slot. Ok (with_slot e (at / 8) slot))
    (λ at. written_slot size (slot_of d (at / 8)) at kind >>= λ slot. Ok (with_slot d (at / 8) slot))
    (λ at.
    rw (slot_of-raised extra d (at / 8))
    (then_below (IsRaisedSlot extra) (IsRaised extra) (written_slot size (raised_slot extra (slot_of d (at / 8))) at (raised_kind extra kind)) (written_slot size (slot_of d (at / 8)) at kind)
    (λ slot. Ok (with_slot e (at / 8) slot)) (λ slot. Ok (with_slot d (at / 8) slot))
    (written_slot_raised extra size (slot_of d (at / 8)) at kind)
    (λ a b h. ap (with_slot e (at / 8)) h ∙ with_slot-raised extra d (at / 8) b)))

stored_raised : (extra : ℕ) (p : Subject) (size : Size) (insn : Insn) (d : Description) (base kind : Kind) → extra % 8 ≡ 0 → IsResultBelow (IsRaised extra) (stored_at extra p size insn (raised_description extra d) (raised_kind extra base) (raised_kind extra kind)) (stored p size insn d base kind)
stored_raised extra p size insn d (Stack k) kind whole = stack_store_raised extra size (k +ℤ insn.offset) kind d
stored_raised extra p size insn d (MapValue m offsets) kind whole =
    let e : Description = raised_description extra d in
    then_below IsAsked (IsRaised extra) (access_at extra (value_size_of p m) (raised extra offsets) insn.offset (byte_count size)) (value_access (value_size_of p m) offsets insn.offset (byte_count size))
    (λ within. is_number (raised_kind extra kind) >>= λ number. Ok e) (λ within. is_number kind >>= λ number. Ok d)
    (access_raised extra (value_size_of p m) offsets insn.offset size whole)
    (λ x y h. then_below IsAsked (IsRaised extra) (is_number (raised_kind extra kind)) (is_number kind) (λ number. Ok e) (λ number. Ok d) (number_raised extra kind) (λ u v g. refl))
stored_raised extra p size insn d (MaybeValue m call) kind whole = tt
stored_raised extra p size insn d (Scalar range) kind whole = tt
stored_raised extra p size insn d (Context k) kind whole = tt
stored_raised extra p size insn d (MapName m) kind whole = tt

after_store_raised : (extra : ℕ) (p : Subject) (size : Size) (source : Source) (insn : Insn) (d : Description) → extra % 8 ≡ 0 → IsResultBelow (IsRaised extra) (after_store_at extra p size source insn (raised_description extra d)) (after_store p size source insn d)
unfolding after_store
after_store_raised extra p size source insn d whole =
    let e : Description = raised_description extra d in
    then_below (AreBoth (IsRaisedKind extra) (IsRaisedKind extra)) (IsRaised extra)
    (both (read_kind e insn.dst) (operand_kind Bits64 source insn e)) (both (read_kind d insn.dst) (operand_kind Bits64 source insn d))
    (λ x. stored_at extra p size insn e x.0 x.1) (λ x. stored p size insn d x.0 x.1)
    (both_below (IsRaisedKind extra) (IsRaisedKind extra) (read_kind e insn.dst) (read_kind d insn.dst) (operand_kind Bits64 source insn e) (operand_kind Bits64 source insn d) (read_raised extra d insn.dst) (operand_raised extra Bits64 source insn d))
    (λ x y h. rw (h.0, h.1) (stored_raised extra p size insn d y.0 y.1 whole))

-- ---- calls

then_agrees : {A B : Type 0} (r : Result A ℕ) (f g : A → Result B ℕ) → ((x : A) → f x ≡ g x) → (r >>= f) ≡ (r >>= g)
then_agrees (Ok x) f g same = same x
then_agrees (Err n) f g same = refl

-- what is asked of a register, where it's asked alike of a kind whose offsets are more
asked_raised : {A : Type 0} (extra : ℕ) (d : Description) (i : ℕ) (f g : Kind → Result A ℕ) → ((kind : Kind) → f (raised_kind extra kind) ≡ g kind) → (read_kind (raised_description extra d) i >>= f) ≡ (read_kind d i >>= g)
asked_raised extra d i f g same = rw (register_of-raised extra d i) (by_known (register_of d i))
  where
    by_known : (known : Option Kind) → (known_or (option_map (raised_kind extra) known) unset_register >>= f) ≡ (known_or known unset_register >>= g)
    by_known (Some kind) = same kind
    by_known None = refl

byte_raised : (extra : ℕ) (slot : StackSlot) (i : ℕ) → byte_in_slot (raised_slot extra slot) i ≡ byte_in_slot slot i
byte_raised extra (Kept (Scalar range)) i = refl
byte_raised extra (Kept pointer) i = refl
byte_raised extra (Bytes set) i = refl

bytes_raised : (extra : ℕ) (d : Description) (at n : ℕ) → bytes_known (raised_description extra d) at n ≡ bytes_known d at n
bytes_raised extra d at zero = refl
bytes_raised extra d at (suc n) =
    let e : Description = raised_description extra d in
    let begin : ℕ = (at + n) / 8 in
    ap (λ r. first_of r (byte_in_slot (slot_of e begin) ((at + n) % 8))) (bytes_raised extra d at n)
    ∙ ap (λ s. first_of (bytes_known d at n) (byte_in_slot s ((at + n) % 8))) (slot_of-raised extra d begin)
    ∙ ap (first_of (bytes_known d at n)) (byte_raised extra (slot_of d begin) ((at + n) % 8))

argument_raised : (extra : ℕ) (p : Subject) (d : Description) (size align : ℕ) (kind : Kind) → argument p (raised_description extra d) size align (raised_kind extra kind) ≡ argument p d size align kind
argument_raised extra p d size align (Context k) = refl
argument_raised extra p d size align (Stack k) =
    then_agrees (lies_below (k +ℤ pos stack_size) size stack_size outside_stack)
    (λ at. both (aligned at align) (bytes_known (raised_description extra d) at size) >>= λ known. Ok tt) (λ at. both (aligned at align) (bytes_known d at size) >>= λ known. Ok tt)
    (λ at. ap (λ b. both (aligned at align) b >>= λ known. Ok tt) (bytes_raised extra d at size))
argument_raised extra p d size align kind = refl

points_raised : (extra : ℕ) (kind : Kind) → points (raised_kind extra kind) ≡ points kind
points_raised extra (MapValue m offsets) = refl
points_raised extra kind = refl

name_raised : (extra : ℕ) (kind : Kind) → name_in (raised_kind extra kind) ≡ name_in kind
name_raised extra (MapValue m offsets) = refl
name_raised extra kind = refl

flags_raised : (extra : ℕ) (kind : Kind) → flags_in (raised_kind extra kind) ≡ flags_in kind
flags_raised extra (MapValue m offsets) = refl
flags_raised extra kind = refl

named_raised : (extra : ℕ) (d : Description) → named_map (raised_description extra d) ≡ named_map d
named_raised extra d = asked_raised extra d 1 name_in name_in (name_raised extra)

key_raised : (extra : ℕ) (p : Subject) (d : Description) → key_argument p (raised_description extra d) ≡ key_argument p d
key_raised extra p d = asked_raised extra d 2 (argument p (raised_description extra d) 4 4) (argument p d 4 4) (argument_raised extra p d 4 4)

value_argument_raised : (extra : ℕ) (p : Subject) (d : Description) (name : Result ℕ ℕ) → value_argument p (raised_description extra d) name ≡ value_argument p d name
value_argument_raised extra p d (Ok m) = asked_raised extra d 3 (argument p (raised_description extra d) (value_size_of p m) 1) (argument p d (value_size_of p m) 1) (argument_raised extra p d (value_size_of p m) 1)
value_argument_raised extra p d (Err rule) = asked_raised extra d 3 points points (points_raised extra)

flags_argument_raised : (extra : ℕ) (d : Description) → flags_argument (raised_description extra d) ≡ flags_argument d
flags_argument_raised extra d = asked_raised extra d 4 flags_in flags_in (flags_raised extra)

update_raised : (extra : ℕ) (p : Subject) (helper : MapHelper) (d : Description) → update_arguments p helper (raised_description extra d) ≡ update_arguments p helper d
update_raised extra p Update d =
    let e : Description = raised_description extra d in
    ap (λ name. first_of (value_argument p e name) (flags_argument e)) (named_raised extra d)
    ∙ ap (λ r. first_of r (flags_argument e)) (value_argument_raised extra p d (named_map d))
    ∙ ap (first_of (value_argument p d (named_map d))) (flags_argument_raised extra d)
update_raised extra p Lookup d = refl
update_raised extra p Delete d = refl

called_raised : (extra : ℕ) (p : Subject) (helper : MapHelper) (d : Description) → called_map p helper (raised_description extra d) ≡ called_map p helper d
called_raised extra p helper d =
    let e : Description = raised_description extra d in
    ap (λ name. both name (both (key_argument p e) (update_arguments p helper e)) >>= λ x. Ok x.0) (named_raised extra d)
    ∙ ap (λ key. both (named_map d) (both key (update_arguments p helper e)) >>= λ x. Ok x.0) (key_raised extra p d)
    ∙ ap (λ rest. both (named_map d) (both (key_argument p d) rest) >>= λ x. Ok x.0) (update_raised extra p helper d)

without_raised : (extra : ℕ) (d : Description) → without_arguments (raised_description extra d) ≡ raised_description extra (without_arguments d)
without_raised extra d =
    let first : Description = with_unset d 1 in
    let second : Description = with_unset first 2 in
    let third : Description = with_unset second 3 in
    let fourth : Description = with_unset third 4 in
    ap (λ e. with_unset (with_unset (with_unset (with_unset e 2) 3) 4) 5) (with_unset-raised extra d 1)
    ∙ ap (λ e. with_unset (with_unset (with_unset e 3) 4) 5) (with_unset-raised extra first 2)
    ∙ ap (λ e. with_unset (with_unset e 4) 5) (with_unset-raised extra second 3)
    ∙ ap (λ e. with_unset e 5) (with_unset-raised extra third 4)
    ∙ with_unset-raised extra fourth 5

answer_raised : (extra : ℕ) (helper : MapHelper) (slot m : ℕ) → answer_kind helper slot m ≡ raised_kind extra (answer_kind helper slot m)
answer_raised extra Lookup slot m = refl
answer_raised extra Update slot m = refl
answer_raised extra Delete slot m = refl

call_raised : (extra : ℕ) (p : Subject) (slot : ℕ) (insn : Insn) (d : Description) → IsResultBelow (IsRaised extra) (after_call p slot insn (raised_description extra d)) (after_call p slot insn d)
unfolding after_call
call_raised extra p slot insn d =
    let e : Description = raised_description extra d in
    then_same (IsRaised extra) (known_or (helper_of (sign_extended insn.imm)) unknown_helper)
    (λ helper. called_map p helper e >>= λ m. Ok (with_kind (without_arguments e) 0 (answer_kind helper slot m)))
    (λ helper. called_map p helper d >>= λ m. Ok (with_kind (without_arguments d) 0 (answer_kind helper slot m)))
    (λ helper.
    subst (λ r. IsResultBelow (IsRaised extra) (r >>= λ m. Ok (with_kind (without_arguments e) 0 (answer_kind helper slot m))) (called_map p helper d >>= λ m. Ok (with_kind (without_arguments d) 0 (answer_kind helper slot m)))) (sym (called_raised extra p helper d))
    (then_same (IsRaised extra) (called_map p helper d)
    (λ m. Ok (with_kind (without_arguments e) 0 (answer_kind helper slot m))) (λ m. Ok (with_kind (without_arguments d) 0 (answer_kind helper slot m)))
    (λ m.
    ap (λ f. with_kind f 0 (answer_kind helper slot m)) (without_raised extra d)
    ∙ ap (with_kind (raised_description extra (without_arguments d)) 0) (answer_raised extra helper slot m)
    ∙ with_kind-raised extra (without_arguments d) 0 (answer_kind helper slot m))))

-- ---- targets

-- a target, its description raised
abbrev raised_target : ℕ → ℕ × Description → ℕ × Description
raised_target extra t = (t.0, raised_description extra t.1)

-- targets are others, raised
abbrev AreRaised : ℕ → List (ℕ × Description) → List (ℕ × Description) → Type 0
AreRaised extra wide targets = wide ≡ map (raised_target extra) targets

target_raised : (extra to : ℕ) (known : Option Description) → target to (option_map (raised_description extra) known) ≡ map (raised_target extra) (target to known)
target_raised extra to (Some d) = refl
target_raised extra to None = refl

falls_on_raised : (extra : ℕ) (p : Subject) (slot : ℕ) (r s : Result Description ℕ) → IsResultBelow (IsRaised extra) r s → IsResultBelow (AreRaised extra) (falls_on p slot r) (falls_on p slot s)
falls_on_raised extra p slot r s h =
    then_below (AreBoth (IsRaised extra) ◌≡◌) (AreRaised extra) (both r (falls_to p.text slot)) (both s (falls_to p.text slot)) (λ x. Ok (target x.1 (Some x.0))) (λ x. Ok (target x.1 (Some x.0)))
    (both_below (IsRaised extra) ◌≡◌ r s (falls_to p.text slot) (falls_to p.text slot) h (result_below_self ◌≡◌ (falls_to p.text slot) (λ x. refl)))
    (λ x y g. ap (λ d. target x.1 (Some d)) g.0 ∙ ap (λ to. target to (Some (raised_description extra y.0))) g.1)

compared_raised : (extra : ℕ) (null_check : Bool) (a b : Kind) → IsResultBelow ◌≡◌ (compared_kinds null_check (raised_kind extra a, raised_kind extra b)) (compared_kinds null_check (a, b))
compared_raised extra null_check (MaybeValue m call) b = result_below_self ◌≡◌ (compared_kinds null_check (MaybeValue m call, b)) (λ x. refl)
compared_raised extra null_check (Scalar a) (Scalar b) = refl
compared_raised extra null_check a (MaybeValue m call) = tt
compared_raised extra null_check a b = tt

comparands_raised : (extra : ℕ) (comparison : Comparison) (width : Width) (source : Source) (insn : Insn) (d : Description) → IsResultBelow ◌≡◌ (comparands comparison width source insn (raised_description extra d)) (comparands comparison width source insn d)
comparands_raised extra comparison width source insn d =
    let e : Description = raised_description extra d in
    let null : Bool = is_null_check comparison width source insn in
    then_below (AreBoth (IsRaisedKind extra) (IsRaisedKind extra)) ◌≡◌
    (both (read_kind e insn.dst) (operand_kind width source insn e)) (both (read_kind d insn.dst) (operand_kind width source insn d))
    (compared_kinds null) (compared_kinds null)
    (both_below (IsRaisedKind extra) (IsRaisedKind extra) (read_kind e insn.dst) (read_kind d insn.dst) (operand_kind width source insn e) (operand_kind width source insn d) (read_raised extra d insn.dst) (operand_raised extra width source insn d))
    (λ x y h.
    subst (λ a. IsResultBelow ◌≡◌ (compared_kinds null (a, x.1)) (compared_kinds null (y.0, y.1))) (sym h.0)
    (subst (λ b. IsResultBelow ◌≡◌ (compared_kinds null (raised_kind extra y.0, b)) (compared_kinds null (y.0, y.1))) (sym h.1) (compared_raised extra null y.0 y.1)))

learned_raised : (extra dst : ℕ) (d : Description) (range : Option Range) → option_map (λ r. with_kind (raised_description extra d) dst (Scalar r)) range ≡ option_map (raised_description extra) (option_map (λ r. with_kind d dst (Scalar r)) range)
learned_raised extra dst d None = refl
learned_raised extra dst d (Some range) = ap Some (with_kind-raised extra d dst (Scalar range))

successor_raised : (extra : ℕ) (comparison : Comparison) (width : Width) (taken : Bool) (insn : Insn) (d : Description) (x : Compared) → on_successor_at extra comparison width taken insn (raised_description extra d) x ≡ option_map (raised_description extra) (on_successor comparison width taken insn d x)
successor_raised extra comparison width taken insn d (Numbers a b) = learned_raised extra insn.dst d (refined comparison width taken a b)
successor_raised extra comparison width true insn d (Answer m call) = ap Some (with_answer_known-raised extra call (checked_kind m (holds_of_null comparison)) d)
successor_raised extra comparison width false insn d (Answer m call) = ap Some (with_answer_known-raised extra call (checked_kind m (not (holds_of_null comparison))) d)

branch_raised : (extra : ℕ) (p : Subject) (comparison : Comparison) (width : Width) (source : Source) (insn : Insn) (slot : ℕ) (d : Description) → IsResultBelow (AreRaised extra) (flow_of_branch_at extra p comparison width source insn slot (raised_description extra d)) (flow_of_branch p comparison width source insn slot d)
branch_raised extra p comparison width source insn slot d =
    let e : Description = raised_description extra d in
    let targets : Result (ℕ × ℕ) ℕ = both (falls_to p.text slot) (jumps_to p.text slot insn.offset) in
    let successor : Bool → Compared → Option Description = λ taken compared. on_successor comparison width taken insn d compared in
    let wide : Bool → Compared → Option Description = λ taken compared. on_successor_at extra comparison width taken insn e compared in
    let made : Compared → ℕ × ℕ → List (ℕ × Description) = λ compared to. target to.0 (wide false compared) ++ target to.1 (wide true compared) in
    then_below (AreBoth ◌≡◌ ◌≡◌) (AreRaised extra)
    (both (comparands comparison width source insn e) targets) (both (comparands comparison width source insn d) targets)
    (λ x. Ok (target x.1.0 (wide false x.0) ++ target x.1.1 (wide true x.0)))
    (λ x. Ok (target x.1.0 (successor false x.0) ++ target x.1.1 (successor true x.0)))
    (both_below ◌≡◌ ◌≡◌ (comparands comparison width source insn e) (comparands comparison width source insn d) targets targets
    (comparands_raised extra comparison width source insn d) (result_below_self ◌≡◌ targets (λ x. refl)))
    (λ x y h.
    ap (λ compared. made compared x.1) h.0 ∙ ap (made y.0) h.1
    ∙ ap (λ known. target y.1.0 known ++ target y.1.1 (wide true y.0)) (successor_raised extra comparison width false insn d y.0)
    ∙ ap (λ known. target y.1.0 (option_map (raised_description extra) (successor false y.0)) ++ target y.1.1 known) (successor_raised extra comparison width true insn d y.0)
    ∙ ap (λ ts. ts ++ target y.1.1 (option_map (raised_description extra) (successor true y.0))) (target_raised extra y.1.0 (successor false y.0))
    ∙ ap (λ ts. map (raised_target extra) (target y.1.0 (successor false y.0)) ++ ts) (target_raised extra y.1.1 (successor true y.0))
    ∙ sym (map-append (raised_target extra) (target y.1.0 (successor false y.0)) (target y.1.1 (successor true y.0))))

exit_raised : (extra : ℕ) (d : Description) → IsResultBelow (AreRaised extra) (flow_of_exit (raised_description extra d)) (flow_of_exit d)
exit_raised extra d =
    then_below (IsRaisedKind extra) (AreRaised extra) (read_kind (raised_description extra d) 0) (read_kind d 0) (λ kind. is_number kind >>= λ returned. Ok []) (λ kind. is_number kind >>= λ returned. Ok [])
    (read_raised extra d 0)
    (λ x y h. rw h (then_below IsAsked (AreRaised extra) (is_number (raised_kind extra y)) (is_number y) (λ returned. Ok []) (λ returned. Ok []) (number_raised extra y) (λ u v g. refl)))

raised_by : (extra : ℕ) (p : Subject) (operation : Operation) (slot : ℕ) (d : Description) → extra % 8 ≡ 0 → IsResultBelow (AreRaised extra) (flow_by_at extra p operation slot (raised_description extra d)) (flow_by p operation slot d)
unfolding flow_by flow_by_at
raised_by extra p (Alu code width source) slot d whole =
    let insn : Insn = insn_at p.text slot in
    let e : Description = raised_description extra d in
    falls_on_raised extra p slot (write_kind e insn.dst (computed_kind_at extra code width source insn e)) (after_alu code width source insn d) (alu_raised extra code width source insn d whole)
raised_by extra p (Load size extension) slot d whole =
    let insn : Insn = insn_at p.text slot in
    let e : Description = raised_description extra d in
    falls_on_raised extra p slot (write_kind e insn.dst (loaded_kind_at extra p size extension insn e)) (after_load p size extension insn d) (after_load_raised extra p size extension insn d whole)
raised_by extra p (Store size source) slot d whole =
    falls_on_raised extra p slot (after_store_at extra p size source (insn_at p.text slot) (raised_description extra d)) (after_store p size source (insn_at p.text slot) d) (after_store_raised extra p size source (insn_at p.text slot) d whole)
raised_by extra p LoadImmediate slot d whole =
    let insn : Insn = insn_at p.text slot in
    falls_on_raised extra p slot (write_kind (raised_description extra d) insn.dst (wide_kind_at extra p insn)) (after_load_immediate p insn d) (after_load_immediate_raised extra p insn d)
raised_by extra p Call slot d whole =
    falls_on_raised extra p slot (after_call p slot (insn_at p.text slot) (raised_description extra d)) (after_call p slot (insn_at p.text slot) d) (call_raised extra p slot (insn_at p.text slot) d)
raised_by extra p (Jump distance) slot d whole =
    then_same (AreRaised extra) (jumps_to p.text slot (distance_of distance (insn_at p.text slot))) (λ to. Ok (target to (Some (raised_description extra d)))) (λ to. Ok (target to (Some d))) (λ to. refl)
raised_by extra p (Branch comparison width source) slot d whole = branch_raised extra p comparison width source (insn_at p.text slot) slot d
raised_by extra p Exit slot d whole = exit_raised extra d

-- where an instruction leads from a description, it leads from the raised one, and what is known there is raised
flow_raised : (extra : ℕ) (p : Subject) (slot : ℕ) (d : Description) → extra % 8 ≡ 0 → IsResultBelow (AreRaised extra) (flow_at extra p slot (raised_description extra d)) (flow p slot d)
flow_raised extra p slot d whole =
    then_same (AreRaised extra) (known_or (operation_of (insn_at p.text slot).opcode) unknown_opcode) (λ operation. flow_by_at extra p operation slot (raised_description extra d)) (λ operation. flow_by p operation slot d)
    (λ operation. raised_by extra p operation slot d whole)

-- ---- tables

described_raised : (extra : ℕ) (table : Table) (slot : ℕ) → described (raised_table extra table) slot ≡ option_map (raised_description extra) (described table slot)
described_raised extra table slot = get_or-mapped (option_map (raised_description extra)) None refl table slot

-- what the raised table says of a slot is what the table says, raised
described_is : (extra : ℕ) (table : Table) (slot : ℕ) (e : Description) → described (raised_table extra table) slot ≡ Some e → (d : Description) × (described table slot ≡ Some d) × (e ≡ raised_description extra d)
described_is extra table slot e found = by_known (described table slot) refl (sym (described_raised extra table slot) ∙ found)
  where
    by_known : (known : Option Description) → described table slot ≡ known → option_map (raised_description extra) known ≡ Some e → (d : Description) × (described table slot ≡ Some d) × (e ≡ raised_description extra d)
    by_known (Some d) is same =
        let here : raised_description extra d ≡ e = cc (same) in
        (d, is, sym here)
    by_known None is same = absurd cc

contained_raised : (extra : ℕ) (table : Table) (t : ℕ × Description) → IsContained table t → IsContained (raised_table extra table) (raised_target extra t)
contained_raised extra table t (d, found, below) =
    (raised_description extra d, described_raised extra table t.0 ∙ ap (option_map (raised_description extra)) found, description_raised_below extra t.1 d below)

all_contained : (extra : ℕ) (table : Table) (targets : List (ℕ × Description)) → All (IsContained table) targets → All (IsContained (raised_table extra table)) (map (raised_target extra) targets)
all_contained extra table [] all = All-nil (IsContained (raised_table extra table))
all_contained extra table (t ∷ targets) all =
    All-cons (IsContained (raised_table extra table)) (raised_target extra t) (map (raised_target extra) targets)
    (contained_raised extra table t (All-head (IsContained table) t targets all)) (all_contained extra table targets (All-tail (IsContained table) t targets all))

raised_is_wide : (extra : ℕ) (kind : Kind) → IsNormalKind kind → IsWideKind (raised_kind extra kind)
raised_is_wide extra (Scalar range) p = p
raised_is_wide extra kind p = tt

register_is_wide : (extra : ℕ) (known : Option Kind) → IfSome known IsNormalKind → IfSome (option_map (raised_kind extra) known) IsWideKind
register_is_wide extra None p = tt
register_is_wide extra (Some kind) p = raised_is_wide extra kind p

slot_is_wide : (extra : ℕ) (slot : StackSlot) → IsNormalSlot slot → IsWideSlot (raised_slot extra slot)
slot_is_wide extra (Kept kind) p = raised_is_wide extra kind p
slot_is_wide extra (Bytes set) p = p

raised_names : (extra slot : ℕ) (kind : Kind) → IsOfCallBelow slot kind → IsOfCallBelow slot (raised_kind extra kind)
raised_names extra slot (MaybeValue m call) p = p
raised_names extra slot kind p = tt

register_names : (extra slot : ℕ) (known : Option Kind) → IfSome known (IsOfCallBelow slot) → IfSome (option_map (raised_kind extra) known) (IsOfCallBelow slot)
register_names extra slot None p = tt
register_names extra slot (Some kind) p = raised_names extra slot kind p

slot_names : (extra slot : ℕ) (kept : StackSlot) → IsSlotOfCallBelow slot kept → IsSlotOfCallBelow slot (raised_slot extra kept)
slot_names extra slot (Kept kind) p = raised_names extra slot kind p
slot_names extra slot (Bytes set) p = tt

description_is_wide : (extra slot : ℕ) (d : Description) → IsLawfulAt slot d → IsWideAt slot (raised_description extra d)
description_is_wide extra slot d p = record {
  registers = length-map d.registers (option_map (raised_kind extra)) ∙ p.registers;
  stack = length-map d.stack (raised_slot extra) ∙ p.stack;
  kinds = λ i. rw (register_of-raised extra d i) (register_is_wide extra (register_of d i) (p.kinds i));
  slots = λ k. rw (slot_of-raised extra d k) (slot_is_wide extra (slot_of d k) (p.slots k));
  calls = record {
    registers = λ i. rw (register_of-raised extra d i) (register_names extra slot (register_of d i) (p.calls.registers i));
    stack = λ k. rw (slot_of-raised extra d k) (slot_names extra slot (slot_of d k) (p.calls.stack k));
  };
}

known_is_wide : (extra slot : ℕ) (known : Option Description) → IfSome known (IsLawfulAt slot) → IfSome (option_map (raised_description extra) known) (IsWideAt slot)
known_is_wide extra slot None p = tt
known_is_wide extra slot (Some d) p = description_is_wide extra slot d p

-- at a slot where a table keeps what flows, the raised one does
kept_raised : (extra : ℕ) (p : Subject) (table : Table) (slot : ℕ) (d : Description) (targets : List (ℕ × Description)) → extra % 8 ≡ 0 → flow p slot d ≡ Ok targets → All (IsContained table) targets → IsKeptWide extra p (raised_table extra table) slot (raised_description extra d)
kept_raised extra p table slot d targets whole is all =
    by_result (flow_at extra p slot (raised_description extra d)) refl (subst (IsResultBelow (AreRaised extra) (flow_at extra p slot (raised_description extra d))) is (flow_raised extra p slot d whole))
  where
    by_result : (r : Result (List (ℕ × Description)) ℕ) → flow_at extra p slot (raised_description extra d) ≡ r → IsResultBelow (AreRaised extra) (flow_at extra p slot (raised_description extra d)) (Ok targets) → IsKeptWide extra p (raised_table extra table) slot (raised_description extra d)
    by_result (Ok wide) same h =
        let order : wide ≡ map (raised_target extra) targets = subst (λ r. IsResultBelow (AreRaised extra) r (Ok targets)) same h in
        (wide, same, subst (All (IsContained (raised_table extra table))) (sym order) (all_contained extra table targets all))
    by_result (Err rule) same h =
        let none : ⊥ = subst (λ r. IsResultBelow (AreRaised extra) r (Ok targets)) same h in
        absurd none

-- each lawful table stays one once its offsets are raised by a multiple of 8
pub raised_stays_lawful : (p : Subject) (extra : ℕ) (table : Table) → extra % 8 ≡ 0 → IsLawful p table → IsWideLawful p extra (raised_table extra table)
raised_stays_lawful p extra table whole l = record {
  start = contained_raised extra table (0, start_description) l.start;
  instructions = λ slot e found. let (d, is, same) = described_is extra table slot e found in l.instructions slot d is;
  kinds = λ slot. rw (described_raised extra table slot) (known_is_wide extra slot (described table slot) (l.kinds slot));
  kept = λ slot e found.
      let (d, is, same) = described_is extra table slot e found in
      let (targets, flows, all) = l.kept slot d is in
      subst (IsKeptWide extra p (raised_table extra table) slot) (sym same) (kept_raised extra p table slot d targets whole flows all);
}
