-- Lowered texts: each instruction is a copy of one of an original text, or a jump that was inserted.
use Rattle.std.specs.Prelude.{◌≡◌, ◌<◌, ℕ, ◌+◌, pos, true, ◌⊎◌, List, length, slice_index, Option, Some, None}
use Rattle.bpf_decode.specs.declared.insn.Insn.{Insn}
use Rattle.bpf_decode.specs.declared.operation.Comparison.{Comparison}
use Rattle.bpf_decode.specs.declared.operation.Comparison.TheVariants.{Equal, NotEqual, Greater, GreaterOrEqual, Less, LessOrEqual, AnyBit, SignedGreater, SignedGreaterOrEqual, SignedLess, SignedLessOrEqual}
use Rattle.bpf_decode.specs.declared.operation.Distance.{Distance}
use Rattle.bpf_decode.specs.declared.operation.Distance.TheVariants.{Offset, Imm}
use Rattle.bpf_decode.specs.declared.operation.Operation.{Operation}
use Rattle.bpf_decode.specs.declared.operation.Operation.TheVariants.{Jump, Branch}
use Rattle.bpf_decode.specs.declared.operation.Source.{Source}
use Rattle.bpf_decode.specs.declared.operation.Width.{Width}
use Rattle.bpf_decode.specs.Opcodes.{operation_of}
use Rattle.bpf_decode.specs.Text.{insn_at, slots_of, width_at, IsInstruction}
use Rattle.loop_copies.specs.Slots.{falls_through, jump_from}

-- an instruction without the distance of its jump
abbrev pub without_distance : Option Operation → Insn → Insn
without_distance (Some (Jump Offset)) insn = record insn { offset = pos 0 }
without_distance (Some (Jump Imm)) insn = record insn { imm = pos 0 }
without_distance (Some (Branch comparison width source)) insn = record insn { offset = pos 0 }
without_distance operation insn = insn

-- what two instructions have in common that differ at most in the distance of their jump
unfoldable pub undirected : Insn → Insn
undirected insn = without_distance (operation_of insn.opcode) insn

-- An instruction of a lowered text stands for a slot of the original: `origins` has that slot at the
-- instruction's own.
pub record HasOrigin (lowered origins : List ℕ) (at slot : ℕ) : Type 0 where
  pub instruction : IsInstruction lowered at
  pub origin : slice_index origins at ≡ slot

-- two jumps lead alike: the copy's to an instruction that stands for the slot of the original's, or both to none
abbrev pub LeadAlike : List ℕ → List ℕ → Option ℕ → Option ℕ → Type 0
LeadAlike lowered origins None None = Unit {0}
LeadAlike lowered origins (Some there) (Some to) = HasOrigin lowered origins there to
LeadAlike lowered origins there to = ⊥

-- The instruction of a lowered text is an exact copy of the original's at a slot: it differs at most in the distance
-- of its jump, and wherever the original goes on, it goes on to an instruction that stands for that slot.
pub record IsExactCopy (text lowered origins : List ℕ) (at slot : ℕ) : Type 0 where
  pub instruction : IsInstruction text slot
  pub same : undirected (insn_at lowered at) ≡ undirected (insn_at text slot)
  pub falls : falls_through (operation_of (insn_at text slot).opcode) ≡ true
      → HasOrigin lowered origins (at + width_at lowered at) (slot + width_at text slot)
  pub jumps : LeadAlike lowered origins (jump_from lowered at) (jump_from text slot)

-- the comparison that holds just where another one doesn't, if there is one (RFC 9669, section 4.3)
unfoldable pub negation : Comparison → Option Comparison
negation Equal = Some NotEqual
negation NotEqual = Some Equal
negation Greater = Some LessOrEqual
negation GreaterOrEqual = Some Less
negation Less = Some GreaterOrEqual
negation LessOrEqual = Some Greater
negation AnyBit = None
negation SignedGreater = Some SignedLessOrEqual
negation SignedGreaterOrEqual = Some SignedLess
negation SignedLess = Some SignedGreaterOrEqual
negation SignedLessOrEqual = Some SignedGreater

-- one conditional jump has the negation of another one's comparison
pub record Negates (insn other : Insn) : Type 0 where
  pub comparison : Comparison
  pub negated : Comparison
  pub width : Width
  pub source : Source
  pub is : operation_of insn.opcode ≡ Some (Branch comparison width source)
  pub other_is : operation_of other.opcode ≡ Some (Branch negated width source)
  pub negation : negation comparison ≡ Some negated

-- what two conditional jumps have in common that compare the same numbers
abbrev pub operands : Insn → Insn
operands insn = record insn { opcode = 0; offset = pos 0 }

-- The instruction of a lowered text is a negated copy of the original's at a slot: both are conditional jumps that
-- compare the same numbers, each by the negation of the other's comparison. So the copy jumps where the original falls
-- through, and falls through where the original jumps.
pub record IsNegatedCopy (text lowered origins : List ℕ) (at slot : ℕ) : Type 0 where
  pub instruction : IsInstruction text slot
  pub negates : Negates (insn_at lowered at) (insn_at text slot)
  pub same : operands (insn_at lowered at) ≡ operands (insn_at text slot)
  pub falls : LeadAlike lowered origins (Some (at + width_at lowered at)) (jump_from text slot)
  pub jumps : LeadAlike lowered origins (jump_from lowered at) (Some (slot + width_at text slot))

-- a copy is an exact or a negated one
unfoldable pub IsCopy : List ℕ → List ℕ → List ℕ → ℕ → ℕ → Type 0
IsCopy text lowered origins at slot = IsExactCopy text lowered origins at slot ⊎ IsNegatedCopy text lowered origins at slot

-- The instruction of a lowered text is a jump that is always taken and that was inserted: it stands for a slot
-- and leads to a copy of the original's instruction there, or forward to another instruction that stands for it.
pub record IsInsertedJump (text lowered origins : List ℕ) (at slot : ℕ) : Type 0 where
  pub distance : Distance
  pub jump : operation_of (insn_at lowered at).opcode ≡ Some (Jump distance)
  pub to : ℕ
  pub leads : jump_from lowered at ≡ Some to
  pub origin : HasOrigin lowered origins to slot
  pub onward : (at < to) ⊎ IsCopy text lowered origins to slot

-- an instruction of a lowered text is a copy, or a jump that was inserted
abbrev pub IsCoveredAt : List ℕ → List ℕ → List ℕ → ℕ → Type 0
IsCoveredAt text lowered origins at =
    IsCopy text lowered origins at (slice_index origins at) ⊎ IsInsertedJump text lowered origins at (slice_index origins at)

-- A lowered text covers the original: it begins with an instruction that stands for slot 0, and each of its
-- instructions is a copy, or a jump that was inserted. So blocks of instructions may stand in another order, and
-- in several copies; `origins` has the slot of the original for which each slot stands.
pub record IsCovering (text lowered origins : List ℕ) : Type 0 where
  pub whole : length origins ≡ slots_of lowered
  pub start : HasOrigin lowered origins 0 0
  pub covered : (at : ℕ) → IsInstruction lowered at → IsCoveredAt text lowered origins at

-- the slot of a shortened text at which a copy of the whole one's instruction stands has the same origin
abbrev pub KeepsOriginAt : List ℕ → List ℕ → List ℕ → List ℕ → List ℕ → ℕ → Type 0
KeepsOriginAt whole lowered far near origins at =
    IsCopy lowered whole near at (slice_index near at) → slice_index origins (slice_index near at) ≡ slice_index far at

-- A text was shortened: it is one that covers the original, without some of its jumps that are always taken. Put in
-- again they are inserted jumps, so the whole text covers the shortened one, too. A comparison whose jump passes over one
-- that is left out stands negated there. `far` has the origins of the whole text's slots in the original, `near` those in
-- the shortened one, and `origins` those of the shortened one's slots.
pub record IsShortening (text whole lowered far near origins : List ℕ) : Type 0 where
  pub long : length origins ≡ slots_of lowered
  pub covers : IsCovering text whole far
  pub shorter : IsCovering lowered whole near
  pub kept : (at : ℕ) → IsInstruction whole at → KeepsOriginAt whole lowered far near origins at

-- a text came of another one that covers the original, without some of its jumps
abbrev pub IsShorterCovering : List ℕ → List ℕ → List ℕ → Type 0
IsShorterCovering text lowered origins = (whole : List ℕ) × (far : List ℕ) × (near : List ℕ) × IsShortening text whole lowered far near origins
