-- Kinds of tables that also say offsets below -65536 (this project's own profile). The offsets of a pointer to
-- a map's value may be any there: their numbers are `extra` more than those of the verifier, so that they are
-- `extra + offset_bias` more than the offsets are. Each table with such offsets is one for a great enough `extra`.
use Rattle.std.specs.Prelude.{ℕ, ◌+◌, nat_le, ℤ, pos, ◌&&◌, if◌then◌else◌, length, map, option_map, ◌≡◌, IfSome, Option, Some, None, Result, Ok, Err, ◌<◌}
use Rattle.host_types.specs.Rules.{unset_register, outside_map}
use Rattle.bpf_decode.specs.declared.operation.Width.{Width}
use Rattle.bpf_decode.specs.declared.operation.AluCode.{AluCode}
use Rattle.insn_alu.specs.Arithmetic.{reads_dst}
use Rattle.verifier_kinds.specs.declared.kind.Align.{Align}
use Rattle.verifier_kinds.specs.declared.kind.Range.{Range}
use Rattle.verifier_kinds.specs.declared.kind.Offsets.{Offsets}
use Rattle.verifier_kinds.specs.declared.kind.Kind.{Kind}
use Rattle.verifier_kinds.specs.declared.kind.Kind.TheVariants.{Scalar, MapValue}
use Rattle.verifier_kinds.specs.declared.description.StackSlot.{StackSlot}
use Rattle.verifier_kinds.specs.declared.description.StackSlot.TheVariants.{Kept, Bytes}
use Rattle.verifier_kinds.specs.declared.description.Description.{Description}
use Rattle.verifier_kinds.specs.Kinds.{greatest_offset, normal, offsets_in, IsNormal}
use Rattle.verifier_kinds.specs.Descriptions.{register_of, slot_of, IsOfCallsBelow}
use Rattle.verifier_kinds.specs.Arithmetic.{displaced_by, kind_of, copied}

-- the same offsets, their numbers `extra` more
abbrev pub raised : ℕ → Offsets → Offsets
raised extra offsets = record { low = extra + offsets.low; high = extra + offsets.high; align = offsets.align }

-- a kind of the verifier as such a table says it
abbrev pub raised_kind : ℕ → Kind → Kind
raised_kind extra (MapValue m offsets) = MapValue m (raised extra offsets)
raised_kind extra kind = kind

-- a slot of the stack as such a table says it
abbrev pub raised_slot : ℕ → StackSlot → StackSlot
raised_slot extra (Kept kind) = Kept (raised_kind extra kind)
raised_slot extra (Bytes set) = Bytes set

-- a description as such a table says it
abbrev pub raised_description : ℕ → Description → Description
raised_description extra d = record { registers = map (option_map (raised_kind extra)) d.registers; stack = map (raised_slot extra) d.stack }

-- a pointer to a map's value at the offsets between two ends, if a pointer may have them: from -65536 to 65536
abbrev pub within_value_at : ℕ → ℕ → Align → ℤ → ℤ → Result Kind ℕ
within_value_at extra m align (pos low) (pos high) =
    if nat_le extra low && nat_le high (extra + greatest_offset) then Ok (MapValue m (offsets_in (normal low high align))) else Err outside_map
within_value_at extra m align low high = Err outside_map

-- a pointer to a map's value is moved there from wherever it is
abbrev pub displaced_value_at : ℕ → ℕ → AluCode → Width → Offsets → Range → Result Kind ℕ
displaced_value_at extra m code width offsets by = displaced_by (within_value_at extra m) code width offsets by

-- what an operation makes of kinds; of all others it makes what it does elsewhere
abbrev pub kind_of_at : ℕ → AluCode → Width → ℤ → Kind → Kind → Result Kind ℕ
kind_of_at extra code width offset (MapValue m offsets) (Scalar by) = displaced_value_at extra m code width offsets by
kind_of_at extra code width offset a b = kind_of code width offset a b

-- the same where dst may be unknown
abbrev pub kind_with_dst_at : ℕ → AluCode → Width → ℤ → Option Kind → Kind → Result Kind ℕ
kind_with_dst_at extra code width offset (Some a) b = kind_of_at extra code width offset a b
kind_with_dst_at extra code width offset None b = Err unset_register

-- what arithmetic makes of kinds: a move alone doesn't ask for that of dst
abbrev pub arith_by_at : ℕ → AluCode → Width → ℤ → Option Kind → Kind → Result Kind ℕ
arith_by_at extra code width offset a b = if reads_dst code then kind_with_dst_at extra code width offset a b else copied width offset b

-- the ranges of numbers are normal; of offsets nothing is asked
abbrev pub IsWideKind : Kind → Type 0
IsWideKind (Scalar range) = IsNormal range
IsWideKind kind = Unit {0}

-- the same of a slot of the stack
abbrev pub IsWideSlot : StackSlot → Type 0
IsWideSlot (Kept kind) = IsWideKind kind
IsWideSlot (Bytes set) = set < 256

-- what holds of the description of a slot of the program in such a table
pub record IsWideAt (slot : ℕ) (d : Description) : Type 0 where
  pub registers : length d.registers ≡ 11
  pub stack : length d.stack ≡ 64
  pub kinds : (i : ℕ) → IfSome (register_of d i) IsWideKind
  pub slots : (k : ℕ) → IsWideSlot (slot_of d k)
  pub calls : IsOfCallsBelow slot d
