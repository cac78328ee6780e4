-- What arithmetic makes of kinds (this project's own profile; the numbers are those of its refusals).
use Rattle.std.specs.Prelude.{ℕ, ◌+◌, ◌-◌, ◌*◌, ◌/◌, ◌^◌, min, max, nat_lt, nat_le, ◌==◌, ℤ, pos, negsuc, ◌+ℤ◌, ◌-ℤ◌, int_le, ◌&&◌, if◌then◌else◌, Option, Some, None, Result, Ok, Err}
use Rattle.std.specs.Int.{cast_signed, leading_zeros, w64}
use Rattle.host_types.specs.Rules.{unset_register, wrong_kind, outside_context, outside_stack, outside_map, null_not_checked}
use Rattle.bpf_decode.specs.declared.insn.Insn.{Insn}
use Rattle.bpf_decode.specs.declared.operation.Width.{Width}
use Rattle.bpf_decode.specs.declared.operation.Width.TheVariants.{Bits32, Bits64}
use Rattle.bpf_decode.specs.declared.operation.AluCode.{AluCode}
use Rattle.bpf_decode.specs.declared.operation.AluCode.TheVariants.{Add, Sub, Mul, Div, Or, And, Lsh, Rsh, Neg, Mod, Xor, Mov, Arsh, ToLittleEndian, ToBigEndian, SwapBytes}
use Rattle.bpf_decode.specs.declared.operation.Operation.{Operation}
use Rattle.bpf_decode.specs.declared.operation.Operation.TheVariants.{Alu}
use Rattle.bpf_decode.specs.Opcodes.{operation_of, is}
use Rattle.insn_alu.specs.Arithmetic.{alu, modulus, count, reads_dst}
use Rattle.verifier_kinds.specs.declared.kind.Align.{Align}
use Rattle.verifier_kinds.specs.declared.kind.Align.TheVariants.{One}
use Rattle.verifier_kinds.specs.declared.kind.Range.{Range}
use Rattle.verifier_kinds.specs.declared.kind.Offsets.{Offsets}
use Rattle.verifier_kinds.specs.declared.kind.Kind.{Kind}
use Rattle.verifier_kinds.specs.declared.kind.Kind.TheVariants.{Scalar, Context, Stack, MapValue, MaybeValue}
use Rattle.verifier_kinds.specs.Kinds.{rank, constant, is_constant, least_align, greatest_align, times_power, normal, offset_bias, greatest_offset, offsets_in}

-- the numbers between two ends that an alignment divides
abbrev pub between : ℕ → ℕ → Align → Range
between low high align = record { low = low; high = high; align = align }

-- all numbers of a width that an alignment divides
abbrev pub all : Width → Align → Range
all width align = between 0 (modulus width - 1) align

-- a range with its ends moved inward to multiples of its alignment
abbrev pub normal_of : Range → Range
normal_of r = normal r.low r.high r.align

-- What a width takes of an operand: with 32 bits, of a range with larger numbers the alignment alone.
abbrev pub range_taken : Width → Range → Range
range_taken width r = if nat_lt r.high (modulus width) then r else normal_of (all width r.align)

-- the numbers between two ends where those fit a width, and else all of it
abbrev pub unless_wrapped : Width → ℕ → ℕ → Align → Range
unless_wrapped width low high align = if nat_lt high (modulus width) then between low high align else all width align

abbrev pub sum_of : Width → Range → Range → Range
sum_of width a b = unless_wrapped width (a.low + b.low) (a.high + b.high) (least_align a.align b.align)

-- a difference may wrap where the second number may be the larger one
abbrev pub difference_of : Width → Range → Range → Range
difference_of width a b =
    let align = least_align a.align b.align in
    if nat_le b.high a.low then between (a.low - b.high) (a.high - b.low) align else all width align

abbrev pub product_of : Width → Range → Range → Range
product_of width a b = unless_wrapped width (a.low * b.low) (a.high * b.high) (times_power a.align (rank b.align))

-- a division by zero gives 0
abbrev pub quotient_of : Range → Range → Range
quotient_of a b = if b.low == 0 then between 0 a.high One else between (a.low / b.high) (a.high / b.low) One

-- and leaves all
abbrev pub remainder_of : Range → Range → Range
remainder_of a b = between 0 (if b.low == 0 then a.high else min a.high (b.high - 1)) One

-- a number that both share bits with has no more than either, and zeros below where either has
abbrev pub and_of : Range → Range → Range
and_of a b = between 0 (min a.high b.high) (greatest_align a.align b.align)

-- the least number at or above another whose bits are all ones: 2^k - 1 for some k
abbrev pub ones_from : ℕ → ℕ
ones_from n = 2 ^ (64 - leading_zeros w64 n) - 1

abbrev pub or_of : Range → Range → Range
or_of a b = between (max a.low b.low) (ones_from (max a.high b.high)) (least_align a.align b.align)

abbrev pub xor_of : Range → Range → Range
xor_of a b = between 0 (ones_from (max a.high b.high)) (least_align a.align b.align)

-- a shift by a number, of which the low bits count, multiplies by its power of 2
abbrev pub shifted_left : Width → ℕ → Range → Range
shifted_left width bits a = unless_wrapped width (a.low * 2 ^ bits) (a.high * 2 ^ bits) (times_power a.align bits)

abbrev pub left_shift_of : Width → Range → Range → Range
left_shift_of width a b = if is_constant b then shifted_left width (count width b.low) a else all width a.align

-- or divides by it
abbrev pub right_by : ℕ → Range → Range
right_by bits a = between (a.low / 2 ^ bits) (a.high / 2 ^ bits) One

abbrev pub right_shift_of : Width → Range → Range → Range
right_shift_of width a b = if is_constant b then right_by (count width b.low) a else between 0 a.high One

-- the greatest number of 16, 32 or 64 bits
abbrev pub greatest_of_bits : ℕ → ℕ
greatest_of_bits bits =
    if bits == 16 then 65535 else (
    if bits == 32 then 4294967295 else 18446744073709551615)

-- the second operand of a byte swap is its width
abbrev pub swapped_range : Range → Range
swapped_range b = if is_constant b then between 0 (greatest_of_bits b.low) One else all Bits64 One

-- What an operation makes of two ranges of its width, the ends raw; where a result may wrap, it is all
-- numbers. The field offset of a division and of a move gives their signed forms.
unfoldable pub row : AluCode → Width → ℤ → Range → Range → Range
row Add width offset a b = sum_of width a b
row Sub width offset a b = difference_of width a b
row Mul width offset a b = product_of width a b
row Div width offset a b = if is offset 0 then quotient_of a b else all width One
row Or width offset a b = or_of a b
row And width offset a b = and_of a b
row Lsh width offset a b = left_shift_of width a b
row Rsh width offset a b = right_shift_of width a b
row Neg width offset a b = all width One
row Mod width offset a b = if is offset 0 then remainder_of a b else all width One
row Xor width offset a b = xor_of a b
row Mov width offset a b = if is offset 0 then b else all width One
row Arsh width offset a b = all width One
row ToLittleEndian width offset a b = swapped_range b
row ToBigEndian width offset a b = swapped_range b
row SwapBytes width offset a b = swapped_range b

-- what an operation makes of two ranges of its width: of two numbers just theirs
abbrev pub computed_range : AluCode → Width → ℤ → Range → Range → Range
computed_range code width offset a b =
    if is_constant a && is_constant b then constant (alu code width offset a.low b.low) else normal_of (row code width offset a b)

-- what an operation makes of two ranges
abbrev pub range_of : AluCode → Width → ℤ → Range → Range → Range
range_of code width offset a b = computed_range code width offset (range_taken width a) (range_taken width b)

-- the kind with an offset that a pointer may have, from -65536 (negsuc 65535) to `offset_bias`; outside of that the rule is
-- broken
abbrev pub within_offsets : (ℤ → Kind) → ℕ → ℤ → Result Kind ℕ
within_offsets kind rule offset = if int_le (negsuc 65535) offset && int_le offset (pos offset_bias) then Ok (kind offset) else Err rule

-- a pointer that a number moves: only by a constant, of which 2^63 or more stands for itself less 2^64
abbrev pub moved_forward : (ℤ → Kind) → ℕ → ℤ → Range → Result Kind ℕ
moved_forward kind rule offset by =
    if is_constant by then within_offsets kind rule (offset +ℤ cast_signed w64 by.low) else Err wrong_kind

-- a pointer that a number moves back
abbrev pub moved_back : (ℤ → Kind) → ℕ → ℤ → Range → Result Kind ℕ
moved_back kind rule offset by =
    if is_constant by then within_offsets kind rule (offset -ℤ cast_signed w64 by.low) else Err wrong_kind

-- a pointer takes part in additions and subtractions of 64 bits alone
abbrev pub displaced : (ℤ → Kind) → ℕ → AluCode → Width → ℤ → Range → Result Kind ℕ
displaced kind rule Add Bits64 offset by = moved_forward kind rule offset by
displaced kind rule Sub Bits64 offset by = moved_back kind rule offset by
displaced kind rule code width offset by = Err wrong_kind

-- a number as an offset: of a constant 2^63 or more stands for itself less 2^64
abbrev pub signed_offset : Range → ℕ → ℤ
signed_offset by n = if is_constant by then cast_signed w64 n else pos n

-- a pointer to a map's value at the offsets between two ends, if a pointer may have them; each is
-- `offset_bias` more than it is
abbrev pub within_value : ℕ → Align → ℤ → ℤ → Result Kind ℕ
within_value m align (pos low) (pos high) = if nat_le high greatest_offset then Ok (MapValue m (offsets_in (normal low high align))) else Err outside_map
within_value m align low high = Err outside_map

-- A pointer to a map's value is moved by any number, and moved back by a constant; what it may become there is
-- said of the alignment and the two ends.
abbrev pub displaced_by : (Align → ℤ → ℤ → Result Kind ℕ) → AluCode → Width → Offsets → Range → Result Kind ℕ
displaced_by within Add Bits64 offsets by =
    within (least_align offsets.align by.align) (pos offsets.low +ℤ signed_offset by by.low) (pos offsets.high +ℤ signed_offset by by.high)
displaced_by within Sub Bits64 offsets by =
    if is_constant by
    then within (least_align offsets.align by.align) (pos offsets.low -ℤ cast_signed w64 by.low) (pos offsets.high -ℤ cast_signed w64 by.low)
    else Err wrong_kind
displaced_by within code width offsets by = Err wrong_kind

-- where it is moved to the offsets that a pointer may have
abbrev pub displaced_value : ℕ → AluCode → Width → Offsets → Range → Result Kind ℕ
displaced_value m code width offsets by = displaced_by (within_value m) code width offsets by

-- What an operation makes of the kinds of dst and of the second operand. A pointer is moved as dst alone,
-- and the answer of a lookup not before it is checked.
abbrev pub kind_of : AluCode → Width → ℤ → Kind → Kind → Result Kind ℕ
kind_of code width offset (MaybeValue m id) b = Err null_not_checked
kind_of code width offset a (MaybeValue m id) = Err null_not_checked
kind_of code width offset (Scalar a) (Scalar b) = Ok (Scalar (range_of code width offset a b))
kind_of code width offset (Context k) (Scalar by) = displaced Context outside_context code width k by
kind_of code width offset (Stack k) (Scalar by) = displaced Stack outside_stack code width k by
kind_of code width offset (MapValue m offsets) (Scalar by) = displaced_value m code width offsets by
kind_of code width offset a b = Err wrong_kind

-- what a move of a number makes of its kind
abbrev pub moved_number : Width → ℤ → Kind → Result Kind ℕ
moved_number width offset (Scalar b) = Ok (Scalar (range_of Mov width offset b b))
moved_number width offset (MaybeValue m id) = Err null_not_checked
moved_number width offset pointer = Err wrong_kind

-- a move of all 64 bits copies any kind
abbrev pub copied : Width → ℤ → Kind → Result Kind ℕ
copied Bits64 offset kind = if is offset 0 then Ok kind else moved_number Bits64 offset kind
copied Bits32 offset kind = moved_number Bits32 offset kind

-- what an operation makes of the kind of dst, where it is known, and of the second operand
abbrev pub kind_with_dst : AluCode → Width → ℤ → Option Kind → Kind → Result Kind ℕ
kind_with_dst code width offset (Some a) b = kind_of code width offset a b
kind_with_dst code width offset None b = Err unset_register

-- what an operation makes of kinds: a move alone doesn't ask for that of dst
abbrev pub arith_by : AluCode → Width → ℤ → Option Kind → Kind → Result Kind ℕ
arith_by code width offset a b = if reads_dst code then kind_with_dst code width offset a b else copied width offset b

-- what an arithmetic instruction makes of them
abbrev pub arith_of : Insn → Option Kind → Kind → Result Kind ℕ
arith_of insn a b = arith_with (operation_of insn.opcode)
  where
    arith_with : Option Operation → Result Kind ℕ
    arith_with (Some (Alu code width source)) = arith_by code width insn.offset a b
    arith_with other = Err wrong_kind
