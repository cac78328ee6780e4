-- What a conditional jump says of dst on each of its two branches (this project's own profile).
use Rattle.std.specs.Prelude.{ℕ, ◌+◌, ◌-◌, ◌==◌, nat_lt, nat_le, min, max, Bool, ◌&&◌, if◌then◌else◌, Option, Some, None, option_map}
use Rattle.bpf_decode.specs.declared.insn.Insn.{Insn}
use Rattle.bpf_decode.specs.declared.operation.Width.{Width}
use Rattle.bpf_decode.specs.declared.operation.Comparison.{Comparison}
use Rattle.bpf_decode.specs.declared.operation.Comparison.TheVariants.{Equal, NotEqual, Greater, GreaterOrEqual, Less, LessOrEqual}
use Rattle.bpf_decode.specs.declared.operation.Operation.{Operation}
use Rattle.bpf_decode.specs.declared.operation.Operation.TheVariants.{Branch}
use Rattle.bpf_decode.specs.Opcodes.{operation_of}
use Rattle.insn_alu.specs.Arithmetic.{modulus}
use Rattle.verifier_kinds.specs.declared.kind.Range.{Range}
use Rattle.verifier_kinds.specs.declared.kind.Kind.{Kind}
use Rattle.verifier_kinds.specs.declared.kind.Kind.TheVariants.{Scalar}
use Rattle.verifier_kinds.specs.Kinds.{is_constant, greatest_align}
use Rattle.verifier_kinds.specs.Arithmetic.{between, normal_of}

-- a range with its ends moved inward to multiples of its alignment, if a number is left
abbrev pub some_of : Range → Option Range
some_of r = if nat_le (normal_of r).low (normal_of r).high then Some (normal_of r) else None

-- a range without a number, where that is one of its ends
abbrev pub without_end : Range → ℕ → Option Range
without_end a n =
    some_of (between (if a.low == n then a.low + 1 else a.low) (if a.high == n then a.high - 1 else a.high) a.align)

-- the comparison that holds where another doesn't; one that says nothing of a range stands for itself
abbrev pub negated : Comparison → Comparison
negated Equal = NotEqual
negated NotEqual = Equal
negated Greater = LessOrEqual
negated GreaterOrEqual = Less
negated Less = GreaterOrEqual
negated LessOrEqual = Greater
negated other = other

-- the numbers of a of which a comparison with a number of b may hold; none of them may be left
abbrev pub kept_by : Comparison → Range → Range → Option Range
kept_by Equal a b = some_of (between (max a.low b.low) (min a.high b.high) (greatest_align a.align b.align))
kept_by NotEqual a b = if is_constant b then without_end a b.low else Some a
kept_by Greater a b = some_of (between (max a.low (b.low + 1)) a.high a.align)
kept_by GreaterOrEqual a b = some_of (between (max a.low b.low) a.high a.align)
kept_by Less a b = if b.high == 0 then None else some_of (between a.low (min a.high (b.high - 1)) a.align)
kept_by LessOrEqual a b = some_of (between a.low (min a.high b.high) a.align)
kept_by other a b = Some a

-- a comparison of a width says something of ranges within its numbers alone
abbrev pub is_informative : Width → Range → Range → Bool
is_informative width a b = nat_lt a.high (modulus width) && nat_lt b.high (modulus width)

-- what is known of a where the jump is taken, or isn't; None: nothing goes that way
abbrev pub refined : Comparison → Width → Bool → Range → Range → Option Range
refined comparison width taken a b =
    if is_informative width a b then kept_by (if taken then comparison else negated comparison) a b else Some a

-- the same of kinds that are numbers
abbrev pub refined_kind : Comparison → Width → Bool → Kind → Kind → Option Kind
refined_kind comparison width taken (Scalar a) (Scalar b) = option_map Scalar (refined comparison width taken a b)
refined_kind comparison width taken a b = Some a

-- the same of a conditional jump
abbrev pub refine_of : Insn → Bool → Kind → Kind → Option Kind
refine_of insn taken a b = refine_with (operation_of insn.opcode)
  where
    refine_with : Option Operation → Option Kind
    refine_with (Some (Branch comparison width source)) = refined_kind comparison width taken a b
    refine_with other = Some a
