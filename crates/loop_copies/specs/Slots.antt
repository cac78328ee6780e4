-- To which slots the instructions of a text lead.
use Rattle.std.specs.Prelude.{ℕ, ◌+◌, ℤ, pos, negsuc, ◌+ℤ◌, Bool, true, false, List, Option, Some, None}
use Rattle.bpf_decode.specs.declared.operation.Operation.{Operation}
use Rattle.bpf_decode.specs.declared.operation.Operation.TheVariants.{Jump, Branch, Exit}
use Rattle.bpf_decode.specs.Opcodes.{operation_of, distance_of}
use Rattle.bpf_decode.specs.Text.{insn_at, width_at}

-- from an operation a run may go on to the next instruction
abbrev pub falls_through : Option Operation → Bool
falls_through None = false
falls_through (Some (Jump distance)) = false
falls_through (Some Exit) = false
falls_through operation = true

-- the slot with a number, if that isn't before the text
abbrev pub slot_numbered : ℤ → Option ℕ
slot_numbered (pos slot) = Some slot
slot_numbered (negsuc n) = None

-- the slot at a distance from the instruction after a slot (RFC 9669, section 4.3)
abbrev pub slot_from : List ℕ → ℕ → ℤ → Option ℕ
slot_from text slot distance = slot_numbered (pos (slot + width_at text slot) +ℤ distance)

-- the slot to which an operation at a slot may jump
abbrev pub jump_by : List ℕ → ℕ → Option Operation → Option ℕ
jump_by text slot (Some (Jump distance)) = slot_from text slot (distance_of distance (insn_at text slot))
jump_by text slot (Some (Branch comparison width source)) = slot_from text slot (insn_at text slot).offset
jump_by text slot operation = None

-- the slot to which the instruction at a slot may jump
unfoldable pub jump_from : List ℕ → ℕ → Option ℕ
jump_from text slot = jump_by text slot (operation_of (insn_at text slot).opcode)
