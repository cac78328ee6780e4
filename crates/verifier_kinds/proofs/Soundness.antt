-- Arithmetic is sound: the number that it computes is of the kind that it gives.
use Rattle.std.proofs.Common.{◌≡◌, ℕ, ◌+◌, ◌-◌, ◌%◌, ◌^◌, ◌<◌, ◌≤◌, ◌∙◌, true, inl, inr, ℤ, pos, ◌+ℤ◌, ◌-ℤ◌, Option, Some, None, Result, Ok, Err, refl, sym, subst, arith}
use Rattle.std.specs.Int.{cast_signed, w64}
use Rattle.std.proofs.lemmas.Bool.{cases_Bool, cond-true, cond-false}
use Rattle.bpf_decode.specs.declared.operation.Width.{Width}
use Rattle.bpf_decode.specs.declared.operation.Width.TheVariants.{Bits32, Bits64}
use Rattle.bpf_decode.specs.declared.operation.AluCode.{AluCode}
use Rattle.bpf_decode.specs.declared.operation.AluCode.TheVariants.{Add, Sub, Mov}
use Rattle.bpf_decode.specs.Opcodes.{is}
use Rattle.insn_alu.specs.Arithmetic.{alu, reads_dst}
use Rattle.insn_alu.proofs.Halves.{low_of_small}
use Rattle.host_types.specs.Rules.{wrong_kind}
use Rattle.host_types.specs.Layout.{context_base, stack_end}
use Rattle.verifier_kinds.specs.declared.kind.Align.{Align}
use Rattle.verifier_kinds.specs.declared.kind.Range.{Range}
use Rattle.verifier_kinds.specs.declared.kind.Offsets.{Offsets}
use Rattle.verifier_kinds.specs.declared.kind.Kind.{Kind}
use Rattle.verifier_kinds.specs.declared.kind.Kind.TheVariants.{Scalar, Context, Stack, MapValue, MapName}
use Rattle.verifier_kinds.specs.Kinds.{Setting, IsSetting, IsOfKind, IsByElement, Describes, IsIn, is_constant, least_align, normal, offsets_in, shape_at}
use Rattle.verifier_kinds.specs.Arithmetic.{arith_by, moved_forward, moved_back, displaced, displaced_value, signed_offset, within_value, kind_of, kind_with_dst, moved_number, copied}
use Rattle.verifier_kinds.proofs.Operands.{constant_number}
use Rattle.verifier_kinds.proofs.Computed.{in_range_of}
use Rattle.verifier_kinds.proofs.Moves.{moved_is, moved_address, moved_back_is, moved_back_address}
use Rattle.verifier_kinds.proofs.Joins.{same_offset}
use Rattle.verifier_kinds.proofs.Values.{move_is, value_added, value_subtracted, some_and_with, element_far, by_element_at}

-- ---- pointers

-- a kind of pointers whose offsets count from an address that is far from both ends
record IsPointer (setting : Setting) (kind : ℤ → Kind) (base : ℕ) : Type 0 where
  pub numbers : (k : ℤ) (n : ℕ) → pos n ≡ pos base +ℤ k → IsOfKind setting (kind k) n
  pub low : 65536 ≤ base
  pub high : base < 2 ^ 63

-- the address of a pointer that a number moves
moved_sound : (setting : Setting) (kind : ℤ → Kind) (base rule : ℕ) → IsPointer setting kind base → (offset : ℤ) (by : Range) (result : Kind) (x y : ℕ) → moved_forward kind rule offset by ≡ Ok result → pos x ≡ pos base +ℤ offset → IsIn by y → y < 2 ^ 64 → IsOfKind setting result ((x + y) % 2 ^ 64)
moved_sound setting kind base rule pointer offset by result x y e is within ys = grind (arith, moved_is, constant_number, moved_address)

-- the address of a pointer that a number moves back
moved_back_sound : (setting : Setting) (kind : ℤ → Kind) (base rule : ℕ) → IsPointer setting kind base → (offset : ℤ) (by : Range) (result : Kind) (x y : ℕ) → moved_back kind rule offset by ≡ Ok result → pos x ≡ pos base +ℤ offset → IsIn by y → x < 2 ^ 64 → y < 2 ^ 64 → IsOfKind setting result ((x + (2 ^ 64 - y)) % 2 ^ 64)
moved_back_sound setting kind base rule pointer offset by result x y e is within xs ys = grind (arith, moved_back_is, constant_number, moved_back_address)

-- the machine moves an address back by the same number
subtracted : (offset : ℤ) (x y : ℕ) → x < 2 ^ 64 → y < 2 ^ 64 → (x + (2 ^ 64 - y)) % 2 ^ 64 ≡ alu Sub Bits64 offset x y
unfolding alu
subtracted offset x y xs ys = rw (low_of_small Bits64 x xs, low_of_small Bits64 y ys) refl

added : (offset : ℤ) (x y : ℕ) → (x + y) % 2 ^ 64 ≡ alu Add Bits64 offset x y
unfolding alu
added offset x y = refl

-- a pointer takes part in additions and subtractions of 64 bits alone
displaced_sound : (code : AluCode) (width : Width) (field : ℤ) (setting : Setting) (kind : ℤ → Kind) (base rule : ℕ) → IsPointer setting kind base → (offset : ℤ) (by : Range) (result : Kind) (x y : ℕ) → displaced kind rule code width offset by ≡ Ok result → pos x ≡ pos base +ℤ offset → IsIn by y → x < 2 ^ 64 → y < 2 ^ 64 → IsOfKind setting result (alu code width field x y)
displaced_sound Add Bits64 field setting kind base rule pointer offset by result x y e is within xs ys =
    subst (IsOfKind setting result) (added field x y) (moved_sound setting kind base rule pointer offset by result x y e is within ys)
displaced_sound Sub Bits64 field setting kind base rule pointer offset by result x y e is within xs ys =
    subst (IsOfKind setting result) (subtracted field x y xs ys) (moved_back_sound setting kind base rule pointer offset by result x y e is within xs ys)
displaced_sound code width field setting kind base rule pointer offset by result x y e is within xs ys = cc

context_pointer : (setting : Setting) → IsPointer setting Context context_base
context_pointer setting = record { numbers = λ k n is. is; low = omega arith; high = omega arith }

stack_pointer : (setting : Setting) → IsPointer setting Stack stack_end
stack_pointer setting = record { numbers = λ k n is. is; low = omega arith; high = omega arith }

-- ---- pointers to values of maps

-- a pointer to a value of a map that a number moves
value_moved : (setting : Setting) (m : ℕ) (offsets : Offsets) (by : Range) (result : Kind) (x y : ℕ) → IsSetting setting → displaced_value m Add Bits64 offsets by ≡ Ok result → IsOfKind setting (MapValue m offsets) x → IsIn by y → y < 2 ^ 64 → IsOfKind setting result ((x + y) % 2 ^ 64)
value_moved setting m offsets by result x y given e p q ys =
    let align : Align = least_align offsets.align by.align in
    let move = move_is m align (pos offsets.low +ℤ signed_offset by by.low) (pos offsets.high +ℤ signed_offset by by.high) result e in
    let made : Offsets = offsets_in (normal move.first move.last align) in
    subst (λ k. IsOfKind setting k ((x + y) % 2 ^ 64)) (sym move.is)
    (some_and_with (shape_at setting.shapes m) (λ shape. IsByElement offsets shape m x) (λ shape. IsByElement made shape m ((x + y) % 2 ^ 64))
    (λ shape is h.
    by_element_at shape m move.first move.last align h.first ((x + y) % 2 ^ 64) h.element
    (value_added offsets by move.first move.last h.first x h.offset y (element_far setting m shape h.first given is h.element) move.low move.high move.small h.within q ys h.address))
    p)

-- and one that a constant moves back
value_moved_back : (setting : Setting) (m : ℕ) (offsets : Offsets) (by : Range) (result : Kind) (x y : ℕ) → IsSetting setting → displaced_value m Sub Bits64 offsets by ≡ Ok result → IsOfKind setting (MapValue m offsets) x → IsIn by y → y < 2 ^ 64 → IsOfKind setting result ((x + (2 ^ 64 - y)) % 2 ^ 64)
value_moved_back setting m offsets by result x y given e p q ys = elim (cases_Bool (is_constant by)) [
  | inl t ↦
      let align : Align = least_align offsets.align by.align in
      let low : ℤ = pos offsets.low -ℤ cast_signed w64 by.low in
      let high : ℤ = pos offsets.high -ℤ cast_signed w64 by.low in
      let move = move_is m align low high result (sym (cond-true (is_constant by) (within_value m align low high) (Err wrong_kind) t) ∙ e) in
      let made : Offsets = offsets_in (normal move.first move.last align) in
      subst (λ k. IsOfKind setting k ((x + (2 ^ 64 - y)) % 2 ^ 64)) (sym move.is)
      (some_and_with (shape_at setting.shapes m) (λ shape. IsByElement offsets shape m x) (λ shape. IsByElement made shape m ((x + (2 ^ 64 - y)) % 2 ^ 64))
      (λ shape is h.
      by_element_at shape m move.first move.last align h.first ((x + (2 ^ 64 - y)) % 2 ^ 64) h.element
      (value_subtracted offsets by move.first move.last h.first x h.offset y (element_far setting m shape h.first given is h.element) t move.low move.high move.small h.within q ys h.address))
      p)
  | inr f ↦
      let align : Align = least_align offsets.align by.align in
      let low : ℤ = pos offsets.low -ℤ cast_signed w64 by.low in
      let high : ℤ = pos offsets.high -ℤ cast_signed w64 by.low in
      let is : ◌≡◌ {A = Result Kind ℕ} (Err wrong_kind) (Ok result) = sym (cond-false (is_constant by) (within_value m align low high) (Err wrong_kind) f) ∙ e in
      cc
]

-- it takes part in additions and subtractions of 64 bits alone
value_sound : (code : AluCode) (width : Width) (field : ℤ) (setting : Setting) (m : ℕ) (offsets : Offsets) (by : Range) (result : Kind) (x y : ℕ) → IsSetting setting → displaced_value m code width offsets by ≡ Ok result → IsOfKind setting (MapValue m offsets) x → IsIn by y → x < 2 ^ 64 → y < 2 ^ 64 → IsOfKind setting result (alu code width field x y)
value_sound Add Bits64 field setting m offsets by result x y given e p q xs ys =
    subst (IsOfKind setting result) (added field x y) (value_moved setting m offsets by result x y given e p q ys)
value_sound Sub Bits64 field setting m offsets by result x y given e p q xs ys =
    subst (IsOfKind setting result) (subtracted field x y xs ys) (value_moved_back setting m offsets by result x y given e p q ys)
value_sound code width field setting m offsets by result x y given e p q xs ys = cc

-- ---- kinds

-- what an operation makes of two kinds
kinds_sound : (code : AluCode) (width : Width) (offset : ℤ) (setting : Setting) (a b kind : Kind) (x y : ℕ) → IsSetting setting → kind_of code width offset a b ≡ Ok kind → IsOfKind setting a x → IsOfKind setting b y → x < 2 ^ 64 → y < 2 ^ 64 → IsOfKind setting kind (alu code width offset x y)
kinds_sound code width offset setting (Scalar a) (Scalar b) kind x y given e p q xs ys = grind (arith, in_range_of)
kinds_sound code width offset setting (Context k) (Scalar by) kind x y given e p q xs ys =
    displaced_sound code width offset setting Context context_base 16 (context_pointer setting) k by kind x y e p q xs ys
kinds_sound code width offset setting (Stack k) (Scalar by) kind x y given e p q xs ys =
    displaced_sound code width offset setting Stack stack_end 17 (stack_pointer setting) k by kind x y e p q xs ys
kinds_sound code width offset setting (MapValue m offsets) (Scalar by) kind x y given e p q xs ys =
    value_sound code width offset setting m offsets by kind x y given e p q xs ys
kinds_sound code width offset setting (MapName m) (Scalar by) kind x y given e p q xs ys = cc
kinds_sound code width offset setting a b kind x y given e p q xs ys = cc

-- the same where dst may not be known
with_dst_sound : (code : AluCode) (width : Width) (offset : ℤ) (setting : Setting) (a : Option Kind) (b kind : Kind) (x y : ℕ) → IsSetting setting → kind_with_dst code width offset a b ≡ Ok kind → Describes setting a (Some x) → IsOfKind setting b y → x < 2 ^ 64 → y < 2 ^ 64 → IsOfKind setting kind (alu code width offset x y)
with_dst_sound code width offset setting (Some a) b kind x y given e p q xs ys = kinds_sound code width offset setting a b kind x y given e p q xs ys
with_dst_sound code width offset setting None b kind x y given e p q xs ys = cc

-- ---- moves

-- a move doesn't ask for the first operand
moved_alone : (width : Width) (offset : ℤ) (x y : ℕ) → alu Mov width offset y y ≡ alu Mov width offset x y
unfolding alu
moved_alone width offset x y = refl

moved_number_sound : (width : Width) (offset : ℤ) (setting : Setting) (b kind : Kind) (x y : ℕ) → moved_number width offset b ≡ Ok kind → IsOfKind setting b y → y < 2 ^ 64 → IsOfKind setting kind (alu Mov width offset x y)
moved_number_sound width offset setting (Scalar b) kind x y e q ys = grind (arith, moved_alone, in_range_of)
moved_number_sound width offset setting b kind x y e q ys = cc

-- a move of all bits copies
moved_whole : (offset : ℤ) (x y : ℕ) → is offset 0 ≡ true → y < 2 ^ 64 → y ≡ alu Mov Bits64 offset x y
unfolding alu
moved_whole offset x y t ys = rw (same_offset offset (pos 0) t) (sym (low_of_small Bits64 y ys))

copied_sound : (width : Width) (offset : ℤ) (setting : Setting) (b kind : Kind) (x y : ℕ) → copied width offset b ≡ Ok kind → IsOfKind setting b y → y < 2 ^ 64 → IsOfKind setting kind (alu Mov width offset x y)
copied_sound Bits32 offset setting b kind x y e q ys = moved_number_sound Bits32 offset setting b kind x y e q ys
copied_sound Bits64 offset setting b kind x y e q ys = grind (arith, cases_Bool, inl, cond-true, moved_whole, inr, moved_number_sound, cond-false)

-- ---- instructions

-- Arithmetic on numbers that its operands' kinds describe gives a number of the kind that it gives. Only
-- code that reads dst asks what is known of dst.
pub arithmetic_sound : (setting : Setting) (code : AluCode) (width : Width) (offset : ℤ) (a : Option Kind) (b kind : Kind) (x y : ℕ) → IsSetting setting → arith_by code width offset a b ≡ Ok kind → (reads_dst code ≡ true → Describes setting a (Some x)) → IsOfKind setting b y → x < 2 ^ 64 → y < 2 ^ 64 → IsOfKind setting kind (alu code width offset x y)
arithmetic_sound setting Mov width offset a b kind x y given e p q xs ys = copied_sound width offset setting b kind x y e q ys
arithmetic_sound setting code width offset a b kind x y given e p q xs ys = with_dst_sound code width offset setting a b kind x y given e (p refl) q xs ys
