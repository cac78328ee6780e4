-- A larger description breaks a rule wherever a smaller one does, and flows to larger ones, also in a table whose
-- offsets are `extra` more.
use Rattle.std.proofs.Common.{◌≡◌, ℕ, zero, suc, ◌+◌, ◌/◌, ◌%◌, ◌^◌, ◌≤◌, ◌==◌, ◌&&◌, ◌∙◌, ℤ, pos, ◌+ℤ◌, Bool, true, false, not, if◌then◌else◌, bit_and, List, [], ◌++◌, All, Option, Some, None, option_map, Result, Ok, Err, refl, sym, ap, subst, inl, inr, arith}
use Rattle.std.proofs.lemmas.Int.{ints}
use Rattle.std.proofs.lemmas.Nat.{pow_pos}
use Rattle.std.specs.Int.Bits.{and_zero_l}
use Rattle.std.proofs.lemmas.Bool.{cases_Bool, cond_both, cond-true, cond-false, and_parts, and_from, eq-eqb, eqb-true}
use Rattle.std.proofs.lemmas.List.Elements.{All-nil, All-cons, All-head, All-tail, All-append}
use Rattle.host_types.specs.declared.helper.MapHelper.{MapHelper}
use Rattle.host_types.specs.declared.helper.MapHelper.TheVariants.{Lookup, Update, Delete}
use Rattle.host_types.specs.Layout.{stack_size}
use Rattle.host_types.specs.Rules.{unknown_opcode, unset_register, pointer_leaks, unset_stack, unknown_helper, outside_map, misaligned, outside_stack}
use Rattle.host_types.specs.Helpers.{helper_of}
use Rattle.bpf_decode.specs.declared.insn.Insn.{Insn}
use Rattle.bpf_decode.specs.declared.operation.Source.{Source}
use Rattle.bpf_decode.specs.declared.operation.Source.TheVariants.{Immediate, Register}
use Rattle.bpf_decode.specs.declared.operation.Width.{Width}
use Rattle.bpf_decode.specs.declared.operation.Width.TheVariants.{Bits64}
use Rattle.bpf_decode.specs.declared.operation.Size.{Size}
use Rattle.bpf_decode.specs.declared.operation.Size.TheVariants.{Byte, HalfWord, Word, DoubleWord}
use Rattle.bpf_decode.specs.declared.operation.Extension.{Extension}
use Rattle.bpf_decode.specs.declared.operation.Extension.TheVariants.{Zero, Sign}
use Rattle.bpf_decode.specs.declared.operation.Comparison.{Comparison}
use Rattle.bpf_decode.specs.declared.operation.AluCode.{AluCode}
use Rattle.bpf_decode.specs.declared.operation.Operation.{Operation}
use Rattle.bpf_decode.specs.declared.operation.Operation.TheVariants.{Alu, Load, Store, LoadImmediate, Jump, Branch, Call, Exit}
use Rattle.bpf_decode.specs.Opcodes.{operation_of, byte_count, distance_of, sign_extended}
use Rattle.bpf_decode.specs.Text.{insn_at}
use Rattle.insn_alu.specs.Arithmetic.{low, reads_dst}
use Rattle.insn_alu.proofs.Small.{low_fits, width_small}
use Rattle.verifier_kinds.specs.declared.kind.Align.{Align}
use Rattle.verifier_kinds.specs.declared.kind.Align.TheVariants.{One, Two, Four, Eight}
use Rattle.verifier_kinds.specs.declared.kind.Range.{Range}
use Rattle.verifier_kinds.specs.declared.kind.Offsets.{Offsets}
use Rattle.verifier_kinds.specs.declared.kind.Kind.{Kind}
use Rattle.verifier_kinds.specs.declared.kind.Kind.TheVariants.{Scalar, Context, Stack, MapValue, MaybeValue, MapName}
use Rattle.verifier_kinds.specs.declared.description.StackSlot.{StackSlot}
use Rattle.verifier_kinds.specs.declared.description.StackSlot.TheVariants.{Kept, Bytes}
use Rattle.verifier_kinds.specs.declared.description.Description.{Description}
use Rattle.verifier_kinds.specs.Kinds.{constant, factor, full, range_in, IsNormal, IsNormalKind, IsWithin}
use Rattle.verifier_kinds.specs.Descriptions.{register_of, slot_of, with_answer_known, number_bytes, with_kind, with_slot, with_unset}
use Rattle.verifier_kinds.specs.Arithmetic.{arith_by}
use Rattle.verifier_kinds.specs.Wide.{raised, raised_kind, arith_by_at}
use Rattle.verifier_kinds.specs.Refinement.{refined}
use Rattle.verifier_kinds.proofs.Ranges.{constant_is_normal}
use Rattle.verifier_kinds.proofs.Moves.{int_le_true, true_int_le}
use Rattle.verifier_kinds.proofs.Under.{IsKindUnder, IsSlotUnder, IsDescriptionUnder, kind_under_raised, description_under_trans}
use Rattle.verifier_kinds.proofs.Ranges.{divided_less}
use Rattle.verifier_kinds.proofs.NarrowerKinds.{IsResultBelow, result_below_self, IsKindNarrower, IsKnownNarrower, IsLeftWithin, arithmetic_narrows, refined_narrows}
use Rattle.verifier_kinds.proofs.NarrowerDescriptions.{IsNarrower, IsSlotNarrower, IsAlikeBelow, alike, register_narrows, slot_narrows, with_kind_below, with_slot_below, with_unset_below, mask_known, none_known, mask_more, mask_written, resolved_below}
use Rattle.verifier.specs.declared.jumps.Compared.{Compared}
use Rattle.verifier.specs.declared.jumps.Compared.TheVariants.{Numbers, Answer}
use Rattle.verifier.specs.Subject.{Subject}
use Rattle.verifier.specs.Flow.{◌>>=◌, both, first_of, holds_or, known_or, read_kind, writable, write_kind, operand_kind, dst_is_known, computed_kind, after_alu, lies_below, aligned, context_offset, stack_offset, loaded_range, mask, slot_kind, value_size_of, begins_in_value, ends_in_value, lies_in_value, is_aligned_in_value, value_access, load_kind, loaded_kind, after_load, wide_kind, after_load_immediate, written_slot, is_number, after_stack_store, stored, after_store, falls_to, jumps_to, target, is_null_check, compared_kinds, comparands, holds_of_null, checked_kind, on_successor, flow_of_branch, byte_in_slot, bytes_known, argument, name_in, flags_in, named_map, key_argument, value_argument, flags_argument, update_arguments, called_map, answer_kind, without_arguments, after_call, falls_on, flow_of_exit, flow_by, flow}
use Rattle.verifier.specs.Table.{Table, described, IsContained}
use Rattle.verifier.specs.Wide.{computed_kind_at, begin_number, end_number, begins_at, ends_at, lies_at, access_at, load_kind_at, loaded_kind_at, wide_kind_at, stored_at, after_store_at, on_successor_at, flow_of_branch_at, flow_by_at, flow_at}

-- ---- questions

-- that a rule isn't broken is all that some questions give
abbrev pub IsAsked : Unit {0} → Unit {0} → Type 0
IsAsked x y = Unit {0}

pub asked_self : (r : Result (Unit {0}) ℕ) → IsResultBelow IsAsked r r
asked_self r = result_below_self IsAsked r (λ x. tt)

pub then_below : {A B : Type 0} (P : A → A → Type 0) (Q : B → B → Type 0) (r s : Result A ℕ) (f g : A → Result B ℕ) → IsResultBelow P r s → ((x y : A) → P x y → IsResultBelow Q (f x) (g y)) → IsResultBelow Q (r >>= f) (s >>= g)
then_below P Q r (Err n) f g p q = tt
then_below P Q (Ok x) (Ok y) f g p q = q x y p
then_below P Q (Err m) (Ok y) f g p q = absurd p

pub then_same : {A B : Type 0} (Q : B → B → Type 0) (r : Result A ℕ) (f g : A → Result B ℕ) → ((x : A) → IsResultBelow Q (f x) (g x)) → IsResultBelow Q (r >>= f) (r >>= g)
then_same Q (Ok x) f g q = q x
then_same Q (Err n) f g q = tt

-- two answers of two questions
abbrev pub AreBoth : {A B : Type 0} → (A → A → Type 0) → (B → B → Type 0) → A × B → A × B → Type 0
AreBoth P Q x y = P x.0 y.0 × Q x.1 y.1

pub both_below : {A B : Type 0} (P : A → A → Type 0) (Q : B → B → Type 0) (r s : Result A ℕ) (t u : Result B ℕ) → IsResultBelow P r s → IsResultBelow Q t u → IsResultBelow (AreBoth P Q) (both r t) (both s u)
both_below P Q r (Err m) t (Err n) p q = tt
both_below P Q r (Err m) t (Ok y) p q = tt
both_below P Q r (Ok x) t (Err n) p q = tt
both_below P Q (Ok v) (Ok x) (Ok w) (Ok y) p q = (p, q)
both_below P Q (Err m) (Ok x) t (Ok y) p q = absurd p
both_below P Q (Ok v) (Ok x) (Err n) (Ok y) p q = absurd q

first_below : (r s t u : Result (Unit {0}) ℕ) → IsResultBelow IsAsked r s → IsResultBelow IsAsked t u → IsResultBelow IsAsked (first_of r t) (first_of s u)
first_below r s t u p q =
    then_below (AreBoth IsAsked IsAsked) IsAsked (both r t) (both s u) (λ x. Ok tt) (λ x. Ok tt) (both_below IsAsked IsAsked r s t u p q) (λ x y h. tt)

pub holds_below : (s t : Bool) (rule : ℕ) → (t ≡ true → s ≡ true) → IsResultBelow IsAsked (holds_or s rule) (holds_or t rule)
holds_below s false rule h = tt
holds_below true true rule h = tt
holds_below false true rule h = let wrong : false ≡ true = h refl in absurd cc

-- ---- registers

known_below : (extra : ℕ) (a c : Option Kind) (rule : ℕ) → IsKnownNarrower extra a c → IsResultBelow (IsKindNarrower extra) (known_or a rule) (known_or c rule)
known_below extra a None rule p = tt
known_below extra a (Some c) rule (x, is, narrow) = rw is narrow

read_below : (extra : ℕ) (d e : Description) (i : ℕ) → IsNarrower extra d e → IsResultBelow (IsKindNarrower extra) (read_kind d i) (read_kind e i)
read_below extra d e i n = known_below extra (register_of d i) (register_of e i) unset_register (register_narrows extra d e i n)

-- an immediate is the same number in both
operand_below : (extra : ℕ) (width : Width) (source : Source) (insn : Insn) (d e : Description) → IsNarrower extra d e → IsResultBelow (IsKindNarrower extra) (operand_kind width source insn d) (operand_kind width source insn e)
operand_below extra width Immediate insn d e n =
    let number : ℕ = low width (sign_extended insn.imm) in
    let p : IsNormal (constant number) = constant_is_normal number (width_small width number (low_fits width (sign_extended insn.imm))) in
    record { whole = n.whole; below = kind_under_raised extra (Scalar (constant number)); smaller = p; larger = p }
operand_below extra width Register insn d e n = read_below extra d e insn.src n

written_below : (extra : ℕ) (d e : Description) (i : ℕ) (r s : Result Kind ℕ) → IsNarrower extra d e → IsResultBelow (IsKindUnder extra) r s → IsResultBelow (IsDescriptionUnder extra) (write_kind d i r) (write_kind e i s)
written_below extra d e i r s n p =
    then_below (AreBoth (IsKindUnder extra) IsAsked) (IsDescriptionUnder extra) (both r (writable i)) (both s (writable i)) (λ x. Ok (with_kind d i x.0)) (λ x. Ok (with_kind e i x.0))
    (both_below (IsKindUnder extra) IsAsked r s (writable i) (writable i) p (asked_self (writable i)))
    (λ x y h. (with_kind_below extra d e i x.0 y.0 h.0 (alike extra d e n)).below)

-- ---- arithmetic

dst_below : (extra : ℕ) (code : AluCode) (insn : Insn) (d e : Description) → IsNarrower extra d e → IsResultBelow IsAsked (dst_is_known code insn d) (dst_is_known code insn e)
dst_below extra code insn d e n = by_test (reads_dst code)
  where
    by_test : (t : Bool) → IsResultBelow IsAsked (if t then (read_kind d insn.dst >>= λ kind. Ok tt) else Ok tt) (if t then (read_kind e insn.dst >>= λ kind. Ok tt) else Ok tt)
    by_test true = then_below (IsKindNarrower extra) IsAsked (read_kind d insn.dst) (read_kind e insn.dst) (λ kind. Ok tt) (λ kind. Ok tt) (read_below extra d e insn.dst n) (λ x y h. tt)
    by_test false = tt

alu_below : (extra : ℕ) (code : AluCode) (width : Width) (source : Source) (insn : Insn) (d e : Description) → IsNarrower extra d e → IsResultBelow (IsDescriptionUnder extra) (after_alu code width source insn d) (write_kind e insn.dst (computed_kind_at extra code width source insn e))
unfolding after_alu
alu_below extra code width source insn d e n =
    written_below extra d e insn.dst (computed_kind code width source insn d) (computed_kind_at extra code width source insn e) n
    (then_below (AreBoth IsAsked (IsKindNarrower extra)) (IsKindUnder extra)
    (both (dst_is_known code insn d) (operand_kind width source insn d)) (both (dst_is_known code insn e) (operand_kind width source insn e))
    (λ x. arith_by code width insn.offset (register_of d insn.dst) x.1) (λ x. arith_by_at extra code width insn.offset (register_of e insn.dst) x.1)
    (both_below IsAsked (IsKindNarrower extra) (dst_is_known code insn d) (dst_is_known code insn e) (operand_kind width source insn d) (operand_kind width source insn e) (dst_below extra code insn d e n) (operand_below extra width source insn d e n))
    (λ x y h. arithmetic_narrows extra code width insn.offset (register_of d insn.dst) (register_of e insn.dst) x.1 y.1 (register_narrows extra d e insn.dst n) h.1))

-- ---- access to the stack

-- an access has a byte
some_offset : (at : ℕ) (size : Size) → mask at size ≡ 0 → ⊥
some_offset at Byte e = let positive = pow_pos (at % 8) in absurd (omega arith)
some_offset at HalfWord e = let positive = pow_pos (at % 8) in absurd (omega arith)
some_offset at Word e = let positive = pow_pos (at % 8) in absurd (omega arith)
some_offset at DoubleWord e = let positive = pow_pos (at % 8) in absurd (omega arith)

-- where no byte of a slot is known, no access to it is
none_loaded : (set access : ℕ) → (access ≡ 0 → ⊥) → bit_and 0 set ≡ set → bit_and set access ≡ access → ⊥
none_loaded set access some p q =
    let none : set ≡ 0 = none_known set p in
    some (sym q ∙ ap (λ s. bit_and s access) none ∙ and_zero_l access)

-- a double word has all numbers of 64 bits
word_within : (range : Range) → IsNormal range → IsWithin range (full One)
word_within range p = let fits = p.fits in record { low = omega arith; high = omega arith; aligned = omega arith }

-- what is loaded of bytes of which at least as much is known
loaded_from : (extra : ℕ) (size : Size) (extension : Extension) (a : StackSlot) (set at : ℕ) → IsSlotNarrower extra a (Bytes set) → bit_and set (mask at size) ≡ mask at size → IsResultBelow (IsKindUnder extra) (slot_kind size extension a at) (Ok (Scalar (loaded_range size extension)))
loaded_from extra DoubleWord Zero (Kept (Scalar range)) set at n known = (range, refl, word_within range n.smaller)
loaded_from extra DoubleWord Sign (Kept (Scalar range)) set at n known = (range, refl, word_within range n.smaller)
loaded_from extra Byte extension (Kept (Scalar range)) set at n known = kind_under_raised extra (Scalar (loaded_range Byte extension))
loaded_from extra HalfWord extension (Kept (Scalar range)) set at n known = kind_under_raised extra (Scalar (loaded_range HalfWord extension))
loaded_from extra Word extension (Kept (Scalar range)) set at n known = kind_under_raised extra (Scalar (loaded_range Word extension))
loaded_from extra size extension (Kept pointer) set at n known = absurd (none_loaded set (mask at size) (some_offset at size) n.below known)
loaded_from extra size extension (Bytes more) set at n known =
    rw (cond-true (bit_and more (mask at size) == mask at size) (Ok (Scalar (loaded_range size extension))) (Err unset_stack) (eq-eqb (bit_and more (mask at size)) (mask at size) (mask_known more set (mask at size) n.below known)))
    (kind_under_raised extra (Scalar (loaded_range size extension)))

slot_kind_below : (extra : ℕ) (size : Size) (extension : Extension) (a b : StackSlot) (at : ℕ) → IsSlotNarrower extra a b → IsResultBelow (IsKindUnder extra) (slot_kind size extension a at) (slot_kind size extension b at)
slot_kind_below extra size extension a (Bytes set) at n =
    cond_both (bit_and set (mask at size) == mask at size) (Ok (Scalar (loaded_range size extension))) (Err unset_stack) (IsResultBelow (IsKindUnder extra) (slot_kind size extension a at))
    (λ t. loaded_from extra size extension a set at n (eqb-true (bit_and set (mask at size)) (mask at size) t)) (λ _. tt)
slot_kind_below extra DoubleWord extension a (Kept kind) at n = let (x, is, below) = n.below in rw is below
slot_kind_below extra Byte extension a (Kept (Scalar range)) at n = let (x, is, below) = n.below in rw (is, below.1) (kind_under_raised extra (Scalar (loaded_range Byte extension)))
slot_kind_below extra HalfWord extension a (Kept (Scalar range)) at n = let (x, is, below) = n.below in rw (is, below.1) (kind_under_raised extra (Scalar (loaded_range HalfWord extension)))
slot_kind_below extra Word extension a (Kept (Scalar range)) at n = let (x, is, below) = n.below in rw (is, below.1) (kind_under_raised extra (Scalar (loaded_range Word extension)))
slot_kind_below extra Byte extension a (Kept pointer) at n = tt
slot_kind_below extra HalfWord extension a (Kept pointer) at n = tt
slot_kind_below extra Word extension a (Kept pointer) at n = tt

-- ---- access to values

-- a number that an alignment divides is divided by each size that divides that
size_divides : (size : Size) (d : Align) (n : ℕ) → n % factor d ≡ 0 → factor d % byte_count size ≡ 0 → n % byte_count size ≡ 0
size_divides Byte One n p q = omega arith
size_divides Byte Two n p q = omega arith
size_divides Byte Four n p q = omega arith
size_divides Byte Eight n p q = omega arith
size_divides HalfWord One n p q = omega arith
size_divides HalfWord Two n p q = omega arith
size_divides HalfWord Four n p q = omega arith
size_divides HalfWord Eight n p q = omega arith
size_divides Word One n p q = omega arith
size_divides Word Two n p q = omega arith
size_divides Word Four n p q = omega arith
size_divides Word Eight n p q = omega arith
size_divides DoubleWord One n p q = omega arith
size_divides DoubleWord Two n p q = omega arith
size_divides DoubleWord Four n p q = omega arith
size_divides DoubleWord Eight n p q = omega arith

factor_divided : (d : Align) → factor d % factor d ≡ 0
factor_divided One = refl
factor_divided Two = refl
factor_divided Four = refl
factor_divided Eight = refl

-- what is raised by a multiple of 8 is divided by a size as it was
pub raised_rest : (extra n : ℕ) (size : Size) → extra % 8 ≡ 0 → (extra + n) % byte_count size ≡ n % byte_count size
raised_rest extra n Byte e = omega arith
raised_rest extra n HalfWord e = omega arith
raised_rest extra n Word e = omega arith
raised_rest extra n DoubleWord e = omega arith

-- an access at each of some offsets that is aligned is so at each of fewer
aligned_below : (extra : ℕ) (offsets outer : Offsets) (by : ℤ) (size : Size) → extra % 8 ≡ 0 → IsNormal (range_in offsets) → IsWithin (range_in (raised extra offsets)) (range_in outer) → is_aligned_in_value outer by (byte_count size) ≡ true → is_aligned_in_value offsets by (byte_count size) ≡ true
aligned_below extra offsets outer by size e p w t =
    let bytes : ℕ = byte_count size in
    let rest : ℕ = sign_extended by % bytes in
    let w_low = w.low in
    let w_high = w.high in
    let ordered = p.ordered in
    elim (cases_Bool (outer.low == outer.high)) [
      | inl one ↦
          let same : outer.low ≡ outer.high = eqb-true outer.low outer.high one in
          let low : outer.low ≡ extra + offsets.low = omega arith in
          let single : offsets.low ≡ offsets.high = omega arith in
          let sum : outer.low + rest ≡ extra + (offsets.low + rest) = omega arith in
          let known : ((outer.low + rest) % bytes == 0) ≡ true = sym (cond-true (outer.low == outer.high) ((outer.low + rest) % bytes == 0) ((factor outer.align % bytes == 0) && (rest == 0)) one) ∙ t in
          cond-true (offsets.low == offsets.high) ((offsets.low + rest) % bytes == 0) ((factor offsets.align % bytes == 0) && (rest == 0)) (eq-eqb offsets.low offsets.high single)
          ∙ ap (λ n. n == 0) (sym (raised_rest extra (offsets.low + rest) size e)) ∙ ap (λ n. n % bytes == 0) (sym sum) ∙ known
      | inr many ↦
          let known : ((factor outer.align % bytes == 0) && (rest == 0)) ≡ true = sym (cond-false (outer.low == outer.high) ((outer.low + rest) % bytes == 0) ((factor outer.align % bytes == 0) && (rest == 0)) many) ∙ t in
          let parts = and_parts (factor outer.align % bytes == 0) (rest == 0) known in
          let whole : factor outer.align % bytes ≡ 0 = eqb-true (factor outer.align % bytes) 0 parts.0 in
          let none : rest ≡ 0 = eqb-true rest 0 parts.1 in
          let low_whole : offsets.low % bytes ≡ 0 = size_divides size outer.align offsets.low (divided_less outer.align offsets.align offsets.low w.aligned p.low) whole in
          let align_whole : factor offsets.align % bytes ≡ 0 = size_divides size outer.align (factor offsets.align) (divided_less outer.align offsets.align (factor offsets.align) w.aligned (factor_divided offsets.align)) whole in
          cond_both (offsets.low == offsets.high) ((offsets.low + rest) % bytes == 0) ((factor offsets.align % bytes == 0) && (rest == 0)) (λ b. b ≡ true)
          (λ _.
          let sum : offsets.low + rest ≡ offsets.low = omega arith in
          ap (λ n. n % bytes == 0) sum ∙ eq-eqb (offsets.low % bytes) 0 low_whole)
          (λ _. and_from (factor offsets.align % bytes == 0) (rest == 0) (eq-eqb (factor offsets.align % bytes) 0 align_whole) parts.1)
    ]

begins_below : (extra : ℕ) (offsets outer : Offsets) (by : ℤ) → outer.low ≤ extra + offsets.low → begins_at extra outer by ≡ true → begins_in_value offsets by ≡ true
begins_below extra offsets outer by h t =
    let known = true_int_le (pos (begin_number extra)) (pos outer.low +ℤ by) t in
    int_le_true (pos 65536) (pos offsets.low +ℤ by) (omega (arith, ints))

ends_below : (extra value_size : ℕ) (offsets outer : Offsets) (by : ℤ) (size : ℕ) → extra + offsets.high ≤ outer.high → ends_at extra value_size outer by size ≡ true → ends_in_value value_size offsets by size ≡ true
ends_below extra value_size offsets outer by size h t =
    let known = true_int_le (pos (outer.high + size) +ℤ by) (pos (end_number extra value_size)) t in
    int_le_true (pos (offsets.high + size) +ℤ by) (pos (65536 + value_size)) (omega (arith, ints))

access_below : (extra value_size : ℕ) (offsets outer : Offsets) (by : ℤ) (size : Size) → extra % 8 ≡ 0 → IsNormal (range_in offsets) → IsWithin (range_in (raised extra offsets)) (range_in outer) → IsResultBelow IsAsked (value_access value_size offsets by (byte_count size)) (access_at extra value_size outer by (byte_count size))
access_below extra value_size offsets outer by size e p w =
    let bytes : ℕ = byte_count size in
    then_below IsAsked IsAsked (lies_in_value value_size offsets by bytes) (lies_at extra value_size outer by bytes)
    (λ within. holds_or (is_aligned_in_value offsets by bytes) misaligned) (λ within. holds_or (is_aligned_in_value outer by bytes) misaligned)
    (holds_below (begins_in_value offsets by && ends_in_value value_size offsets by bytes) (begins_at extra outer by && ends_at extra value_size outer by bytes) outside_map
    (λ t.
    let parts = and_parts (begins_at extra outer by) (ends_at extra value_size outer by bytes) t in
    and_from (begins_in_value offsets by) (ends_in_value value_size offsets by bytes)
    (begins_below extra offsets outer by w.low parts.0) (ends_below extra value_size offsets outer by bytes w.high parts.1)))
    (λ x y h. holds_below (is_aligned_in_value offsets by bytes) (is_aligned_in_value outer by bytes) misaligned (aligned_below extra offsets outer by size e p w))

-- ---- loads

load_below : (extra : ℕ) (p : Subject) (size : Size) (extension : Extension) (insn : Insn) (d e : Description) (a c : Kind) → IsNarrower extra d e → IsKindNarrower extra a c → IsResultBelow (IsKindUnder extra) (load_kind p size extension insn d a) (load_kind_at extra p size extension insn e c)
load_below extra p size extension insn d e a (Context k) n q =
    rw (q.below)
    (then_same (IsKindUnder extra) (context_offset p.context_size (k +ℤ insn.offset) (byte_count size)) (λ at. Ok (Scalar (loaded_range size extension))) (λ at. Ok (Scalar (loaded_range size extension)))
    (λ at. kind_under_raised extra (Scalar (loaded_range size extension))))
load_below extra p size extension insn d e a (Stack k) n q =
    rw (q.below)
    (then_same (IsKindUnder extra) (stack_offset (k +ℤ insn.offset) (byte_count size)) (λ at. slot_kind size extension (slot_of d (at / 8)) at) (λ at. slot_kind size extension (slot_of e (at / 8)) at)
    (λ at. slot_kind_below extra size extension (slot_of d (at / 8)) (slot_of e (at / 8)) at (slot_narrows extra d e (at / 8) n)))
load_below extra p size extension insn d e a (MapValue m outer) n q =
    let (x, is, within) = q.below in
    let x_normal : IsNormal (range_in x) = subst IsNormalKind is q.smaller in
    rw is
    (then_below IsAsked (IsKindUnder extra) (value_access (value_size_of p m) x insn.offset (byte_count size)) (access_at extra (value_size_of p m) outer insn.offset (byte_count size))
    (λ within. Ok (Scalar (loaded_range size extension))) (λ within. Ok (Scalar (loaded_range size extension)))
    (access_below extra (value_size_of p m) x outer insn.offset size n.whole x_normal within)
    (λ y z h. kind_under_raised extra (Scalar (loaded_range size extension))))
load_below extra p size extension insn d e a (MaybeValue m call) n q = tt
load_below extra p size extension insn d e a (Scalar range) n q = tt
load_below extra p size extension insn d e a (MapName m) n q = tt

after_load_below : (extra : ℕ) (p : Subject) (size : Size) (extension : Extension) (insn : Insn) (d e : Description) → IsNarrower extra d e → IsResultBelow (IsDescriptionUnder extra) (after_load p size extension insn d) (write_kind e insn.dst (loaded_kind_at extra p size extension insn e))
unfolding after_load
after_load_below extra p size extension insn d e n =
    written_below extra d e insn.dst (loaded_kind p size extension insn d) (loaded_kind_at extra p size extension insn e) n
    (then_below (IsKindNarrower extra) (IsKindUnder extra) (read_kind d insn.src) (read_kind e insn.src)
    (λ base. load_kind p size extension insn d base) (λ base. load_kind_at extra p size extension insn e base)
    (read_below extra d e insn.src n) (λ x y h. load_below extra p size extension insn d e x y n h))

-- what the wide instruction loads is read from no register
raised_below : (extra : ℕ) (r : Result Kind ℕ) → IsResultBelow (IsKindUnder extra) r (r >>= λ kind. Ok (raised_kind extra kind))
raised_below extra (Ok kind) = kind_under_raised extra kind
raised_below extra (Err n) = tt

after_load_immediate_below : (extra : ℕ) (p : Subject) (insn : Insn) (d e : Description) → IsNarrower extra d e → IsResultBelow (IsDescriptionUnder extra) (after_load_immediate p insn d) (write_kind e insn.dst (wide_kind_at extra p insn))
unfolding after_load_immediate
after_load_immediate_below extra p insn d e n = written_below extra d e insn.dst (wide_kind p insn) (wide_kind_at extra p insn) n (raised_below extra (wide_kind p insn))

-- ---- stores

written_slot_below : (extra : ℕ) (size : Size) (a b : StackSlot) (at : ℕ) (kind wide : Kind) → IsSlotUnder extra a b → IsKindUnder extra kind wide → IsResultBelow (IsSlotUnder extra) (written_slot size a at kind) (written_slot size b at wide)
written_slot_below extra DoubleWord a b at kind wide p q = (kind, refl, q)
written_slot_below extra Byte a b at kind (Scalar range) p (x, is, within) = rw is (mask_written (number_bytes a) (number_bytes b) (mask at Byte) (mask_more extra a b p))
written_slot_below extra HalfWord a b at kind (Scalar range) p (x, is, within) = rw is (mask_written (number_bytes a) (number_bytes b) (mask at HalfWord) (mask_more extra a b p))
written_slot_below extra Word a b at kind (Scalar range) p (x, is, within) = rw is (mask_written (number_bytes a) (number_bytes b) (mask at Word) (mask_more extra a b p))
written_slot_below extra Byte a b at kind pointer p q = tt
written_slot_below extra HalfWord a b at kind pointer p q = tt
written_slot_below extra Word a b at kind pointer p q = tt

number_below : (extra : ℕ) (kind wide : Kind) → IsKindUnder extra kind wide → IsResultBelow IsAsked (is_number kind) (is_number wide)
number_below extra kind (Scalar range) (x, is, within) = rw is tt
number_below extra kind pointer q = tt

stack_store_below : (extra : ℕ) (size : Size) (offset : ℤ) (kind wide : Kind) (d e : Description) → IsNarrower extra d e → IsKindUnder extra kind wide → IsResultBelow (IsDescriptionUnder extra) (after_stack_store size offset kind d) (after_stack_store size offset wide e)
stack_store_below extra size offset kind wide d e n q =
    then_same (IsDescriptionUnder extra) (stack_offset offset (byte_count size))
    (λ at. written_slot size (slot_of d (at / 8)) at kind >>= λ slot. Ok (with_slot d (at / 8) slot))
    (λ at. written_slot size (slot_of e (at / 8)) at wide >>= λ slot. Ok (with_slot e (at / 8) slot))
    (λ at.
    then_below (IsSlotUnder extra) (IsDescriptionUnder extra) (written_slot size (slot_of d (at / 8)) at kind) (written_slot size (slot_of e (at / 8)) at wide)
    (λ slot. Ok (with_slot d (at / 8) slot)) (λ slot. Ok (with_slot e (at / 8) slot))
    (written_slot_below extra size (slot_of d (at / 8)) (slot_of e (at / 8)) at kind wide (n.below.slots (at / 8)) q)
    (λ a b h. (with_slot_below extra d e (at / 8) a b h (alike extra d e n)).below))

stored_below : (extra : ℕ) (p : Subject) (size : Size) (insn : Insn) (d e : Description) (a c kind wide : Kind) → IsNarrower extra d e → IsKindNarrower extra a c → IsKindUnder extra kind wide → IsResultBelow (IsDescriptionUnder extra) (stored p size insn d a kind) (stored_at extra p size insn e c wide)
stored_below extra p size insn d e a (Stack k) kind wide n q r = rw (q.below) (stack_store_below extra size (k +ℤ insn.offset) kind wide d e n r)
stored_below extra p size insn d e a (MapValue m outer) kind wide n q r =
    let (x, is, within) = q.below in
    let x_normal : IsNormal (range_in x) = subst IsNormalKind is q.smaller in
    rw is
    (then_below IsAsked (IsDescriptionUnder extra) (value_access (value_size_of p m) x insn.offset (byte_count size)) (access_at extra (value_size_of p m) outer insn.offset (byte_count size))
    (λ within. is_number kind >>= λ number. Ok d) (λ within. is_number wide >>= λ number. Ok e)
    (access_below extra (value_size_of p m) x outer insn.offset size n.whole x_normal within)
    (λ y z h. then_below IsAsked (IsDescriptionUnder extra) (is_number kind) (is_number wide) (λ number. Ok d) (λ number. Ok e) (number_below extra kind wide r) (λ u v g. n.below)))
stored_below extra p size insn d e a (MaybeValue m call) kind wide n q r = tt
stored_below extra p size insn d e a (Scalar range) kind wide n q r = tt
stored_below extra p size insn d e a (Context k) kind wide n q r = tt
stored_below extra p size insn d e a (MapName m) kind wide n q r = tt

after_store_below : (extra : ℕ) (p : Subject) (size : Size) (source : Source) (insn : Insn) (d e : Description) → IsNarrower extra d e → IsResultBelow (IsDescriptionUnder extra) (after_store p size source insn d) (after_store_at extra p size source insn e)
unfolding after_store
after_store_below extra p size source insn d e n =
    then_below (AreBoth (IsKindNarrower extra) (IsKindNarrower extra)) (IsDescriptionUnder extra)
    (both (read_kind d insn.dst) (operand_kind Bits64 source insn d)) (both (read_kind e insn.dst) (operand_kind Bits64 source insn e))
    (λ x. stored p size insn d x.0 x.1) (λ x. stored_at extra p size insn e x.0 x.1)
    (both_below (IsKindNarrower extra) (IsKindNarrower extra) (read_kind d insn.dst) (read_kind e insn.dst) (operand_kind Bits64 source insn d) (operand_kind Bits64 source insn e) (read_below extra d e insn.dst n) (operand_below extra Bits64 source insn d e n))
    (λ x y h. stored_below extra p size insn d e x.0 y.0 x.1 y.1 n h.0 (h.1.below))

-- ---- calls

-- a byte of a slot of which at least as much is known
byte_below : (extra : ℕ) (a b : StackSlot) (i : ℕ) → IsSlotUnder extra a b → IsResultBelow IsAsked (byte_in_slot a i) (byte_in_slot b i)
byte_below extra a (Kept (Scalar range)) i (x, is, below) = rw (is, below.1) tt
byte_below extra a (Kept pointer) i p = tt
byte_below extra (Bytes more) (Bytes set) i p =
    holds_below (bit_and more (2 ^ i) == 2 ^ i) (bit_and set (2 ^ i) == 2 ^ i) unset_stack
    (λ t. eq-eqb (bit_and more (2 ^ i)) (2 ^ i) (mask_known more set (2 ^ i) p (eqb-true (bit_and set (2 ^ i)) (2 ^ i) t)))
byte_below extra (Kept (Scalar range)) (Bytes set) i p = asked_below_all (holds_or (bit_and set (2 ^ i) == 2 ^ i) unset_stack)
  where
    asked_below_all : (r : Result (Unit {0}) ℕ) → IsResultBelow IsAsked (Ok tt) r
    asked_below_all (Ok x) = tt
    asked_below_all (Err n) = tt
byte_below extra (Kept pointer) (Bytes set) i p =
    cond_both (bit_and set (2 ^ i) == 2 ^ i) (Ok tt) (Err unset_stack) (IsResultBelow IsAsked (Err pointer_leaks))
    (λ t. none_loaded set (2 ^ i) (some_bit i) p (eqb-true (bit_and set (2 ^ i)) (2 ^ i) t)) (λ _. tt)
  where
    some_bit : (i : ℕ) → 2 ^ i ≡ 0 → ⊥
    some_bit i e = let positive = pow_pos i in absurd (omega arith)

bytes_below : (extra : ℕ) (d e : Description) (at n : ℕ) → IsNarrower extra d e → IsResultBelow IsAsked (bytes_known d at n) (bytes_known e at n)
bytes_below extra d e at zero h = tt
bytes_below extra d e at (suc n) h =
    first_below (bytes_known d at n) (bytes_known e at n) (byte_in_slot (slot_of d ((at + n) / 8)) ((at + n) % 8)) (byte_in_slot (slot_of e ((at + n) / 8)) ((at + n) % 8))
    (bytes_below extra d e at n h) (byte_below extra (slot_of d ((at + n) / 8)) (slot_of e ((at + n) / 8)) ((at + n) % 8) (h.below.slots ((at + n) / 8)))

argument_below : (extra : ℕ) (p : Subject) (d e : Description) (size align : ℕ) (kind wide : Kind) → IsNarrower extra d e → IsKindUnder extra kind wide → IsResultBelow IsAsked (argument p d size align kind) (argument p e size align wide)
argument_below extra p d e size align kind (Context k) n q = rw q (asked_self (argument p e size align (Context k)))
argument_below extra p d e size align kind (Stack k) n q =
    rw q
    (then_same IsAsked (lies_below (k +ℤ pos stack_size) size stack_size outside_stack)
    (λ at. both (aligned at align) (bytes_known d at size) >>= λ known. Ok tt) (λ at. both (aligned at align) (bytes_known e at size) >>= λ known. Ok tt)
    (λ at.
    then_below (AreBoth ◌≡◌ IsAsked) IsAsked (both (aligned at align) (bytes_known d at size)) (both (aligned at align) (bytes_known e at size)) (λ known. Ok tt) (λ known. Ok tt)
    (both_below ◌≡◌ IsAsked (aligned at align) (aligned at align) (bytes_known d at size) (bytes_known e at size)
    (result_below_self ◌≡◌ (aligned at align) (λ x. refl)) (bytes_below extra d e at size n))
    (λ x y h. tt)))
argument_below extra p d e size align kind (MaybeValue m call) n q = tt
argument_below extra p d e size align kind wide n q = tt

name_below : (extra : ℕ) (kind wide : Kind) → IsKindUnder extra kind wide → IsResultBelow ◌≡◌ (name_in kind) (name_in wide)
name_below extra kind (MapName m) q = rw q refl
name_below extra kind (MaybeValue m call) q = tt
name_below extra kind wide q = tt

flags_below : (extra : ℕ) (kind wide : Kind) → IsKindUnder extra kind wide → IsResultBelow IsAsked (flags_in kind) (flags_in wide)
flags_below extra kind (Scalar range) (x, is, within) = rw is tt
flags_below extra kind (MaybeValue m call) q = tt
flags_below extra kind wide q = tt

named_below : (extra : ℕ) (d e : Description) → IsNarrower extra d e → IsResultBelow ◌≡◌ (named_map d) (named_map e)
named_below extra d e n = then_below (IsKindNarrower extra) ◌≡◌ (read_kind d 1) (read_kind e 1) name_in name_in (read_below extra d e 1 n) (λ x y h. name_below extra x y (h.below))

key_below : (extra : ℕ) (p : Subject) (d e : Description) → IsNarrower extra d e → IsResultBelow IsAsked (key_argument p d) (key_argument p e)
key_below extra p d e n =
    then_below (IsKindNarrower extra) IsAsked (read_kind d 2) (read_kind e 2) (argument p d 4 4) (argument p e 4 4) (read_below extra d e 2 n)
    (λ x y h. argument_below extra p d e 4 4 x y n (h.below))

flags_argument_below : (extra : ℕ) (d e : Description) → IsNarrower extra d e → IsResultBelow IsAsked (flags_argument d) (flags_argument e)
flags_argument_below extra d e n = then_below (IsKindNarrower extra) IsAsked (read_kind d 4) (read_kind e 4) flags_in flags_in (read_below extra d e 4 n) (λ x y h. flags_below extra x y (h.below))

-- what an update asks of the arguments after its key, for a map
value_below : (extra : ℕ) (p : Subject) (d e : Description) (m : ℕ) → IsNarrower extra d e → IsResultBelow IsAsked (value_argument p d (Ok m)) (value_argument p e (Ok m))
value_below extra p d e m n =
    then_below (IsKindNarrower extra) IsAsked (read_kind d 3) (read_kind e 3) (argument p d (value_size_of p m) 1) (argument p e (value_size_of p m) 1) (read_below extra d e 3 n)
    (λ x y h. argument_below extra p d e (value_size_of p m) 1 x y n (h.below))

-- the arguments that a helper asks for, once it is known what its first one names
abbrev asked_following : Subject → MapHelper → Description → Result ℕ ℕ → Result (Unit {0}) ℕ
asked_following p Update d name = first_of (value_argument p d name) (flags_argument d)
asked_following p other d name = Ok tt

following_is : (p : Subject) (helper : MapHelper) (d : Description) → update_arguments p helper d ≡ asked_following p helper d (named_map d)
following_is p Update d = refl
following_is p Lookup d = refl
following_is p Delete d = refl

following_below : (extra : ℕ) (p : Subject) (helper : MapHelper) (d e : Description) (m : ℕ) → IsNarrower extra d e → IsResultBelow IsAsked (asked_following p helper d (Ok m)) (asked_following p helper e (Ok m))
following_below extra p Update d e m n =
    first_below (value_argument p d (Ok m)) (value_argument p e (Ok m)) (flags_argument d) (flags_argument e) (value_below extra p d e m n) (flags_argument_below extra d e n)
following_below extra p Lookup d e m n = tt
following_below extra p Delete d e m n = tt

-- Which bytes an update asks for depends on the map that it names: the larger description breaks a rule
-- where it names none, whatever else it asks for, and else both name the same.
named_then : (f g : Result ℕ ℕ → Result (Unit {0}) ℕ) (a b : Result (Unit {0}) ℕ) (r s : Result ℕ ℕ) → IsResultBelow ◌≡◌ r s → IsResultBelow IsAsked a b → ((m : ℕ) → IsResultBelow IsAsked (f (Ok m)) (g (Ok m))) → IsResultBelow ◌≡◌ (both r (both a (f r)) >>= λ x. Ok x.0) (both s (both b (g s)) >>= λ x. Ok x.0)
named_then f g a b r (Err n) p q each = refused (both b (g (Err n)))
  where
    refused : {X : Type 0} (rest : Result X ℕ) → IsResultBelow ◌≡◌ (both r (both a (f r)) >>= λ x. Ok x.0) (both (Err n) rest >>= λ x. Ok x.0)
    refused (Ok x) = tt
    refused (Err m) = tt
named_then f g a b (Ok l) (Ok m) p q each =
    rw p
    (then_below (AreBoth ◌≡◌ (AreBoth IsAsked IsAsked)) ◌≡◌ (both (Ok m) (both a (f (Ok m)))) (both (Ok m) (both b (g (Ok m)))) (λ x. Ok x.0) (λ x. Ok x.0)
    (both_below ◌≡◌ (AreBoth IsAsked IsAsked) (Ok m) (Ok m) (both a (f (Ok m))) (both b (g (Ok m))) refl
    (both_below IsAsked IsAsked a b (f (Ok m)) (g (Ok m)) q (each m)))
    (λ x y h. h.0))
named_then f g a b (Err n) (Ok m) p q each = absurd p

called_below : (extra : ℕ) (p : Subject) (helper : MapHelper) (d e : Description) → IsNarrower extra d e → IsResultBelow ◌≡◌ (called_map p helper d) (called_map p helper e)
called_below extra p helper d e n =
    rw (following_is p helper d, following_is p helper e)
    (named_then (asked_following p helper d) (asked_following p helper e) (key_argument p d) (key_argument p e) (named_map d) (named_map e)
    (named_below extra d e n) (key_below extra p d e n) (λ m. following_below extra p helper d e m n))

without_below : (extra : ℕ) (d e : Description) → IsAlikeBelow extra d e → IsAlikeBelow extra (without_arguments d) (without_arguments e)
without_below extra d e n =
    with_unset_below extra (with_unset (with_unset (with_unset (with_unset d 1) 2) 3) 4) (with_unset (with_unset (with_unset (with_unset e 1) 2) 3) 4) 5
    (with_unset_below extra (with_unset (with_unset (with_unset d 1) 2) 3) (with_unset (with_unset (with_unset e 1) 2) 3) 4
    (with_unset_below extra (with_unset (with_unset d 1) 2) (with_unset (with_unset e 1) 2) 3
    (with_unset_below extra (with_unset d 1) (with_unset e 1) 2
    (with_unset_below extra d e 1 n))))

answer_below : (extra : ℕ) (helper : MapHelper) (slot m : ℕ) → IsKindUnder extra (answer_kind helper slot m) (answer_kind helper slot m)
answer_below extra Lookup slot m = refl
answer_below extra Update slot m = kind_under_raised extra (Scalar (full One))
answer_below extra Delete slot m = kind_under_raised extra (Scalar (full One))

answered_below : (extra : ℕ) (helper : MapHelper) (slot l m : ℕ) (d e : Description) → IsNarrower extra d e → l ≡ m → IsDescriptionUnder extra (with_kind (without_arguments d) 0 (answer_kind helper slot l)) (with_kind (without_arguments e) 0 (answer_kind helper slot m))
answered_below extra helper slot l m d e n same =
    rw same (with_kind_below extra (without_arguments d) (without_arguments e) 0 (answer_kind helper slot m) (answer_kind helper slot m) (answer_below extra helper slot m) (without_below extra d e (alike extra d e n))).below

call_below : (extra : ℕ) (p : Subject) (slot : ℕ) (insn : Insn) (d e : Description) → IsNarrower extra d e → IsResultBelow (IsDescriptionUnder extra) (after_call p slot insn d) (after_call p slot insn e)
unfolding after_call
call_below extra p slot insn d e n =
    then_same (IsDescriptionUnder extra) (known_or (helper_of (sign_extended insn.imm)) unknown_helper)
    (λ helper. called_map p helper d >>= λ m. Ok (with_kind (without_arguments d) 0 (answer_kind helper slot m)))
    (λ helper. called_map p helper e >>= λ m. Ok (with_kind (without_arguments e) 0 (answer_kind helper slot m)))
    (λ helper.
    then_below ◌≡◌ (IsDescriptionUnder extra) (called_map p helper d) (called_map p helper e)
    (λ m. Ok (with_kind (without_arguments d) 0 (answer_kind helper slot m))) (λ m. Ok (with_kind (without_arguments e) 0 (answer_kind helper slot m)))
    (called_below extra p helper d e n) (λ l m same. answered_below extra helper slot l m d e n same))

-- ---- targets

-- a target's description is under the table's, whose offsets are `extra` more
abbrev pub IsContainedUnder : ℕ → Table → ℕ × Description → Type 0
IsContainedUnder extra table target = (d : Description) × (described table target.0 ≡ Some d) × IsDescriptionUnder extra target.1 d

-- Of the targets of a larger description that a table contains, those of a smaller one are under it too.
abbrev pub AreTargetsUnder : ℕ → List (ℕ × Description) → List (ℕ × Description) → Type 0
AreTargetsUnder extra smaller larger = (table : Table) → All (IsContained table) larger → All (IsContainedUnder extra table) smaller

contained_below : (extra : ℕ) (table : Table) (to : ℕ) (d e : Description) → IsDescriptionUnder extra d e → IsContained table (to, e) → IsContainedUnder extra table (to, d)
contained_below extra table to d e below (f, found, above) = (f, found, description_under_trans extra d e f below above)

target_below : (extra to : ℕ) (d e : Description) → IsDescriptionUnder extra d e → AreTargetsUnder extra (target to (Some d)) (target to (Some e))
target_below extra to d e below table h =
    All-cons (IsContainedUnder extra table) (to, d) [] (contained_below extra table to d e below (All-head (IsContained table) (to, e) [] h)) (All-nil (IsContainedUnder extra table))

-- both of what may flow on the two successors of a jump
successors_below : (extra next jump : ℕ) (a b c d : Option Description) → AreTargetsUnder extra (target next a) (target next c) → AreTargetsUnder extra (target jump b) (target jump d) → AreTargetsUnder extra (target next a ++ target jump b) (target next c ++ target jump d)
successors_below extra next jump a b None d p q table h =
    All-append (IsContainedUnder extra table) (target next a) (target jump b) (p table (All-nil (IsContained table))) (q table h)
successors_below extra next jump a b (Some c) d p q table h =
    All-append (IsContainedUnder extra table) (target next a) (target jump b)
    (p table (All-cons (IsContained table) (next, c) [] (All-head (IsContained table) (next, c) (target jump d) h) (All-nil (IsContained table))))
    (q table (All-tail (IsContained table) (next, c) (target jump d) h))

falls_on_below : (extra : ℕ) (p : Subject) (slot : ℕ) (r s : Result Description ℕ) → IsResultBelow (IsDescriptionUnder extra) r s → IsResultBelow (AreTargetsUnder extra) (falls_on p slot r) (falls_on p slot s)
falls_on_below extra p slot r s h =
    then_below (AreBoth (IsDescriptionUnder extra) ◌≡◌) (AreTargetsUnder extra) (both r (falls_to p.text slot)) (both s (falls_to p.text slot)) (λ x. Ok (target x.1 (Some x.0))) (λ x. Ok (target x.1 (Some x.0)))
    (both_below (IsDescriptionUnder extra) ◌≡◌ r s (falls_to p.text slot) (falls_to p.text slot) h (result_below_self ◌≡◌ (falls_to p.text slot) (λ x. refl)))
    (λ x y g. subst (λ to. (AreTargetsUnder extra) (target to (Some x.0)) (target y.1 (Some y.0))) (sym g.1) (target_below extra y.1 x.0 y.0 g.0))

jump_below : (extra : ℕ) (p : Subject) (slot : ℕ) (distance : ℤ) (d e : Description) → IsNarrower extra d e → IsResultBelow (AreTargetsUnder extra) (jumps_to p.text slot distance >>= λ to. Ok (target to (Some d))) (jumps_to p.text slot distance >>= λ to. Ok (target to (Some e)))
jump_below extra p slot distance d e n = then_same (AreTargetsUnder extra) (jumps_to p.text slot distance) (λ to. Ok (target to (Some d))) (λ to. Ok (target to (Some e))) (λ to. target_below extra to d e n.below)

-- ---- conditional jumps

-- what is compared, from a smaller description and from a larger one: ranges within others, or one answer
abbrev IsComparedBelow : Compared → Compared → Type 0
IsComparedBelow x (Numbers c d) = (a : Range) × (b : Range) × (x ≡ Numbers a b) × IsWithin a c × IsWithin b d × IsNormal b × IsNormal d
IsComparedBelow x (Answer m call) = x ≡ Answer m call

compared_below : (extra : ℕ) (null_check : Bool) (a b c d : Kind) → IsKindNarrower extra a c → IsKindNarrower extra b d → IsResultBelow IsComparedBelow (compared_kinds null_check (a, b)) (compared_kinds null_check (c, d))
compared_below extra null_check a b (MaybeValue m call) d p q = rw (p.below) (by_test null_check)
  where
    by_test : (t : Bool) → IsResultBelow IsComparedBelow (compared_kinds t (MaybeValue m call, b)) (compared_kinds t (MaybeValue m call, d))
    by_test true = refl
    by_test false = tt
compared_below extra null_check a b (Scalar c) (Scalar d) p q =
    let (x, left, within) = p.below in
    let (y, right, also) = q.below in
    rw (left, right) (x, y, refl, within, also, subst IsNormalKind right q.smaller, q.larger)
compared_below extra null_check a b c (MaybeValue m call) p q = tt
compared_below extra null_check a b c d p q = tt

comparands_below : (extra : ℕ) (comparison : Comparison) (width : Width) (source : Source) (insn : Insn) (d e : Description) → IsNarrower extra d e → IsResultBelow IsComparedBelow (comparands comparison width source insn d) (comparands comparison width source insn e)
comparands_below extra comparison width source insn d e n =
    then_below (AreBoth (IsKindNarrower extra) (IsKindNarrower extra)) IsComparedBelow
    (both (read_kind d insn.dst) (operand_kind width source insn d)) (both (read_kind e insn.dst) (operand_kind width source insn e))
    (compared_kinds (is_null_check comparison width source insn)) (compared_kinds (is_null_check comparison width source insn))
    (both_below (IsKindNarrower extra) (IsKindNarrower extra) (read_kind d insn.dst) (read_kind e insn.dst) (operand_kind width source insn d) (operand_kind width source insn e) (read_below extra d e insn.dst n) (operand_below extra width source insn d e n))
    (λ x y h. compared_below extra (is_null_check comparison width source insn) x.0 x.1 y.0 y.1 h.0 h.1)

-- what a way says of dst
learned_below : (extra : ℕ) (to dst : ℕ) (d e : Description) (r s : Option Range) → IsNarrower extra d e → IsLeftWithin r s → (AreTargetsUnder extra) (target to (option_map (λ range. with_kind d dst (Scalar range)) r)) (target to (option_map (λ range. with_kind e dst (Scalar range)) s))
learned_below extra to dst d e None s n h = λ table g. All-nil (IsContainedUnder extra table)
learned_below extra to dst d e (Some r) (Some s) n h =
    target_below extra to (with_kind d dst (Scalar r)) (with_kind e dst (Scalar s)) (with_kind_below extra d e dst (Scalar r) (Scalar s) (r, refl, h) (alike extra d e n)).below
learned_below extra to dst d e (Some r) None n h = absurd h

checked_below : (extra to call : ℕ) (kind : Kind) (d e : Description) → IsNarrower extra d e → AreTargetsUnder extra (target to (Some (with_answer_known call kind d))) (target to (Some (with_answer_known call (raised_kind extra kind) e)))
checked_below extra to call kind d e n =
    target_below extra to (with_answer_known call kind d) (with_answer_known call (raised_kind extra kind) e) (resolved_below extra call kind (raised_kind extra kind) d e (kind_under_raised extra kind) (alike extra d e n)).below

successor_below : (extra : ℕ) (comparison : Comparison) (width : Width) (taken : Bool) (insn : Insn) (to : ℕ) (d e : Description) (x y : Compared) → IsNarrower extra d e → IsComparedBelow x y → AreTargetsUnder extra (target to (on_successor comparison width taken insn d x)) (target to (on_successor_at extra comparison width taken insn e y))
successor_below extra comparison width taken insn to d e x (Numbers c b) n (a, f, is, within, also, p, q) =
    rw is (learned_below extra to insn.dst d e (refined comparison width taken a f) (refined comparison width taken c b) n (refined_narrows comparison width taken a f c b p q within also))
successor_below extra comparison width true insn to d e x (Answer m call) n is = rw is (checked_below extra to call (checked_kind m (holds_of_null comparison)) d e n)
successor_below extra comparison width false insn to d e x (Answer m call) n is = rw is (checked_below extra to call (checked_kind m (not (holds_of_null comparison))) d e n)

branch_below : (extra : ℕ) (p : Subject) (comparison : Comparison) (width : Width) (source : Source) (insn : Insn) (slot : ℕ) (d e : Description) → IsNarrower extra d e → IsResultBelow (AreTargetsUnder extra) (flow_of_branch p comparison width source insn slot d) (flow_of_branch_at extra p comparison width source insn slot e)
branch_below extra p comparison width source insn slot d e n =
    let targets : Result (ℕ × ℕ) ℕ = both (falls_to p.text slot) (jumps_to p.text slot insn.offset) in
    let successor : Bool → Compared → Option Description = λ taken compared. on_successor comparison width taken insn d compared in
    let wide : Bool → Compared → Option Description = λ taken compared. on_successor_at extra comparison width taken insn e compared in
    then_below (AreBoth IsComparedBelow ◌≡◌) (AreTargetsUnder extra)
    (both (comparands comparison width source insn d) targets) (both (comparands comparison width source insn e) targets)
    (λ x. Ok (target x.1.0 (successor false x.0) ++ target x.1.1 (successor true x.0)))
    (λ x. Ok (target x.1.0 (wide false x.0) ++ target x.1.1 (wide true x.0)))
    (both_below IsComparedBelow ◌≡◌ (comparands comparison width source insn d) (comparands comparison width source insn e) targets targets
    (comparands_below extra comparison width source insn d e n) (result_below_self ◌≡◌ targets (λ x. refl)))
    (λ x y h.
    rw (h.1)
    (successors_below extra y.1.0 y.1.1 (successor false x.0) (successor true x.0) (wide false y.0) (wide true y.0)
    (successor_below extra comparison width false insn y.1.0 d e x.0 y.0 n h.0) (successor_below extra comparison width true insn y.1.1 d e x.0 y.0 n h.0)))

-- ---- instructions

exit_below : (extra : ℕ) (d e : Description) → IsNarrower extra d e → IsResultBelow (AreTargetsUnder extra) (flow_of_exit d) (flow_of_exit e)
exit_below extra d e n =
    then_below (IsKindNarrower extra) (AreTargetsUnder extra) (read_kind d 0) (read_kind e 0) (λ kind. is_number kind >>= λ returned. Ok []) (λ kind. is_number kind >>= λ returned. Ok [])
    (read_below extra d e 0 n)
    (λ x y h. then_below IsAsked (AreTargetsUnder extra) (is_number x) (is_number y) (λ returned. Ok []) (λ returned. Ok []) (number_below extra x y (h.below)) (λ u v g table all. All-nil (IsContainedUnder extra table)))

below_by : (extra : ℕ) (p : Subject) (operation : Operation) (slot : ℕ) (d e : Description) → IsNarrower extra d e → IsResultBelow (AreTargetsUnder extra) (flow_by p operation slot d) (flow_by_at extra p operation slot e)
unfolding flow_by flow_by_at
below_by extra p (Alu code width source) slot d e n =
    falls_on_below extra p slot (after_alu code width source (insn_at p.text slot) d) (write_kind e (insn_at p.text slot).dst (computed_kind_at extra code width source (insn_at p.text slot) e)) (alu_below extra code width source (insn_at p.text slot) d e n)
below_by extra p (Load size extension) slot d e n =
    falls_on_below extra p slot (after_load p size extension (insn_at p.text slot) d) (write_kind e (insn_at p.text slot).dst (loaded_kind_at extra p size extension (insn_at p.text slot) e)) (after_load_below extra p size extension (insn_at p.text slot) d e n)
below_by extra p (Store size source) slot d e n =
    falls_on_below extra p slot (after_store p size source (insn_at p.text slot) d) (after_store_at extra p size source (insn_at p.text slot) e) (after_store_below extra p size source (insn_at p.text slot) d e n)
below_by extra p LoadImmediate slot d e n =
    falls_on_below extra p slot (after_load_immediate p (insn_at p.text slot) d) (write_kind e (insn_at p.text slot).dst (wide_kind_at extra p (insn_at p.text slot))) (after_load_immediate_below extra p (insn_at p.text slot) d e n)
below_by extra p Call slot d e n =
    falls_on_below extra p slot (after_call p slot (insn_at p.text slot) d) (after_call p slot (insn_at p.text slot) e) (call_below extra p slot (insn_at p.text slot) d e n)
below_by extra p (Jump distance) slot d e n = jump_below extra p slot (distance_of distance (insn_at p.text slot)) d e n
below_by extra p (Branch comparison width source) slot d e n = branch_below extra p comparison width source (insn_at p.text slot) slot d e n
below_by extra p Exit slot d e n = exit_below extra d e n

-- where an instruction leads from a description, what it leads to from one below it is contained
pub flow_below : (extra : ℕ) (p : Subject) (slot : ℕ) (d e : Description) → IsNarrower extra d e → IsResultBelow (AreTargetsUnder extra) (flow p slot d) (flow_at extra p slot e)
flow_below extra p slot d e n =
    then_same (AreTargetsUnder extra) (known_or (operation_of (insn_at p.text slot).opcode) unknown_opcode) (λ operation. flow_by p operation slot d) (λ operation. flow_by_at extra p operation slot e)
    (λ operation. below_by extra p operation slot d e n)
