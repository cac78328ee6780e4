-- What arithmetic makes of kinds of the verifier is one.
use Rattle.std.proofs.Common.{◌≡◌, ℕ, ◌%◌, ◌<◌, ◌≤◌, ◌&&◌, nat_le, ℤ, pos, negsuc, ◌+ℤ◌, ◌≤ℤ◌, IfSome, Option, Some, None, Ok, arith}
use Rattle.std.specs.Prelude.{IfOk}
use Rattle.std.proofs.lemmas.Int.{ints}
use Rattle.std.proofs.lemmas.Bool.{cond_both, and_parts, leb-true}
use Rattle.bpf_decode.specs.declared.operation.Width.{Width}
use Rattle.bpf_decode.specs.declared.operation.Width.TheVariants.{Bits32, Bits64}
use Rattle.bpf_decode.specs.declared.operation.AluCode.{AluCode}
use Rattle.bpf_decode.specs.declared.operation.AluCode.TheVariants.{Add, Sub, Mov}
use Rattle.bpf_decode.specs.Opcodes.{is}
use Rattle.insn_alu.specs.Arithmetic.{alu, modulus}
use Rattle.insn_alu.proofs.Small.{alu_small, width_small}
use Rattle.verifier_kinds.specs.declared.kind.Align.{Align}
use Rattle.verifier_kinds.specs.declared.kind.Range.{Range}
use Rattle.verifier_kinds.specs.declared.kind.Offsets.{Offsets}
use Rattle.verifier_kinds.specs.declared.kind.Kind.{Kind}
use Rattle.verifier_kinds.specs.declared.kind.Kind.TheVariants.{Scalar, Context, Stack, MapValue, MaybeValue, MapName}
use Rattle.verifier_kinds.specs.Kinds.{factor, is_constant, least_align, range_in, IsKind, IsNormal, IsOffset}
use Rattle.verifier_kinds.specs.Arithmetic.{range_taken, computed_range, range_of, within_offsets, displaced, signed_offset, within_value, displaced_value, kind_of, kind_with_dst, moved_number, copied, arith_by}
use Rattle.verifier_kinds.proofs.Ranges.{constant_is_normal}
use Rattle.verifier_kinds.proofs.Operands.{taken_below}
use Rattle.verifier_kinds.proofs.Computed.{row_is_normal}
use Rattle.verifier_kinds.proofs.Moves.{true_int_le}
use Rattle.verifier_kinds.proofs.Values.{are_offsets, added_divided, subtracted_divided, signed_ordered}
use Rattle.verifier_kinds.proofs.Narrower.{taken_is_normal}

-- ---- ranges

computed_is_normal : (code : AluCode) (width : Width) (offset : ℤ) (a b : Range) → IsNormal a → IsNormal b → a.high < modulus width → b.high < modulus width → IsNormal (computed_range code width offset a b)
computed_is_normal code width offset a b p q left right =
    let ordered = p.ordered in
    cond_both (is_constant a && is_constant b) _ _ IsNormal
    (λ _. constant_is_normal (alu code width offset a.low b.low) (alu_small code width offset a.low b.low (width_small width a.low (omega arith))))
    (λ _. row_is_normal code width offset a b p q left right)

range_is_normal : (code : AluCode) (width : Width) (offset : ℤ) (a b : Range) → IsNormal a → IsNormal b → IsNormal (range_of code width offset a b)
range_is_normal code width offset a b p q =
    computed_is_normal code width offset (range_taken width a) (range_taken width b) (taken_is_normal width a p) (taken_is_normal width b q) (taken_below width a) (taken_below width b)

-- ---- pointers

-- an offset that is taken is one that a pointer may have
offset_is_kind : (kind : ℤ → Kind) (rule : ℕ) (k : ℤ) → ((k : ℤ) → IsOffset k → IsKind (kind k)) → IfOk (within_offsets kind rule k) IsKind
offset_is_kind kind rule k each = grind (arith, cond_both, negsuc, pos, and_parts, true_int_le)

displaced_is_kind : (kind : ℤ → Kind) (rule : ℕ) (code : AluCode) (width : Width) (offset : ℤ) (by : Range) → ((k : ℤ) → IsOffset k → IsKind (kind k)) → IfOk (displaced kind rule code width offset by) IsKind
displaced_is_kind kind rule Add Bits64 offset by each = grind (arith, cond_both, offset_is_kind)
displaced_is_kind kind rule Sub Bits64 offset by each = grind (arith, cond_both, offset_is_kind)
displaced_is_kind kind rule code width offset by each = tt

ends_are_kind : (m : ℕ) (d : Align) (low high : ℤ) → low ≤ℤ high → ((n : ℕ) → low ≡ pos n → n % factor d ≡ 0) → IfOk (within_value m d low high) IsKind
ends_are_kind m d (pos low) (pos high) ordered divided = grind (arith, ints, cond_both, nat_le, are_offsets, leb-true)
ends_are_kind m d (pos low) (negsuc high) ordered divided = tt
ends_are_kind m d (negsuc low) high ordered divided = tt

value_is_kind : (m : ℕ) (code : AluCode) (width : Width) (offsets : Offsets) (by : Range) → IsNormal (range_in offsets) → IsNormal by → IfOk (displaced_value m code width offsets by) IsKind
value_is_kind m Add Bits64 offsets by p q =
    ends_are_kind m (least_align offsets.align by.align) (pos offsets.low +ℤ signed_offset by by.low) (pos offsets.high +ℤ signed_offset by by.high)
    (sums_order offsets.low offsets.high (signed_offset by by.low) (signed_offset by by.high) p.ordered (signed_ordered by q.ordered))
    (λ n is. added_divided offsets by n p q is)
  where
    sums_order : (a b : ℕ) (y z : ℤ) → a ≤ b → y ≤ℤ z → (pos a +ℤ y) ≤ℤ (pos b +ℤ z)
    sums_order a b y z h k = omega (arith, ints)
value_is_kind m Sub Bits64 offsets by p q = grind (arith, cond_both, pos, ends_are_kind, subtracted_divided, ints)
value_is_kind m code width offsets by p q = tt

-- ---- arithmetic

made_is_kind : (code : AluCode) (width : Width) (offset : ℤ) (a b : Kind) → IsKind a → IsKind b → IfOk (kind_of code width offset a b) IsKind
made_is_kind code width offset (MaybeValue m id) b p q = tt
made_is_kind code width offset (Scalar a) (MaybeValue m id) p q = tt
made_is_kind code width offset (Context k) (MaybeValue m id) p q = tt
made_is_kind code width offset (Stack k) (MaybeValue m id) p q = tt
made_is_kind code width offset (MapValue m offsets) (MaybeValue n id) p q = tt
made_is_kind code width offset (MapName m) (MaybeValue n id) p q = tt
made_is_kind code width offset (Scalar a) (Scalar b) p q = range_is_normal code width offset a b p q
made_is_kind code width offset (Context k) (Scalar by) p q = displaced_is_kind Context 16 code width k by (λ _ h. h)
made_is_kind code width offset (Stack k) (Scalar by) p q = displaced_is_kind Stack 17 code width k by (λ _ h. h)
made_is_kind code width offset (MapValue m offsets) (Scalar by) p q = value_is_kind m code width offsets by p.normal q
made_is_kind code width offset a b p q = tt

with_dst_is_kind : (code : AluCode) (width : Width) (offset : ℤ) (a : Option Kind) (b : Kind) → IfSome a IsKind → IsKind b → IfOk (kind_with_dst code width offset a b) IsKind
with_dst_is_kind code width offset (Some a) b p q = made_is_kind code width offset a b p q
with_dst_is_kind code width offset None b p q = tt

moved_is_kind : (width : Width) (offset : ℤ) (b : Kind) → IsKind b → IfOk (moved_number width offset b) IsKind
moved_is_kind width offset (Scalar b) q = range_is_normal Mov width offset b b q q
moved_is_kind width offset (MaybeValue m id) q = tt
moved_is_kind width offset b q = tt

copied_is_kind : (width : Width) (offset : ℤ) (b : Kind) → IsKind b → IfOk (copied width offset b) IsKind
copied_is_kind Bits32 offset b q = moved_is_kind Bits32 offset b q
copied_is_kind Bits64 offset b q = cond_both (is offset 0) (Ok b) (moved_number Bits64 offset b) (λ r. IfOk r IsKind) (λ _. q) (λ _. moved_is_kind Bits64 offset b q)

-- what arithmetic makes of kinds of the verifier is one
pub arithmetic_is_kind : (code : AluCode) (width : Width) (offset : ℤ) (a : Option Kind) (b : Kind) → IfSome a IsKind → IsKind b → IfOk (arith_by code width offset a b) IsKind
arithmetic_is_kind code width offset a b p q = grind (arith, cond_both, with_dst_is_kind, copied_is_kind)
