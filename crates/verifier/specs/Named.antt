-- Which maps a program names.
use Rattle.std.specs.Prelude.{◌≡◌, ℕ, zero, suc, ◌<◌, ◌==◌, ℤ, pos, negsuc, Bool, true, false, ◌&&◌, ◌||◌, if◌then◌else◌, List, [], ◌∷◌, slice_index_or, Option, Some, None}
use Rattle.host_types.specs.declared.shape.Shape.{Shape}
use Rattle.bpf_decode.specs.declared.insn.Insn.{Insn}
use Rattle.bpf_decode.specs.declared.operation.Operation.{Operation}
use Rattle.bpf_decode.specs.declared.operation.Operation.TheVariants.{LoadImmediate}
use Rattle.bpf_decode.specs.Opcodes.{operation_of}
use Rattle.bpf_decode.specs.Text.{insn_at, is_instruction, slots_of}
use Rattle.verifier.specs.Subject.{Subject}

-- an operation is the load of the wide instruction
abbrev pub is_wide : Option Operation → Bool
is_wide (Some LoadImmediate) = true
is_wide operation = false

-- a number of a map isn't below zero
abbrev pub map_number : ℤ → Option ℕ
map_number (pos m) = Some m
map_number (negsuc n) = None

-- the map that an instruction names: it is wide, its src asks for a map's name or for an address in a map's
-- first value, and its imm is the number
abbrev pub named_by : Insn → Option ℕ
named_by insn = if is_wide (operation_of insn.opcode) && (insn.src == 1 || insn.src == 2) then map_number insn.imm else None

-- the map that is named at a slot, reached or not, if an instruction stands there and names one
abbrev pub named_at : List ℕ → ℕ → Option ℕ
named_at text slot = if is_instruction text slot then named_by (insn_at text slot) else None

-- it is this map
abbrev pub is_map : Option ℕ → ℕ → Bool
is_map None m = false
is_map (Some named) m = named == m

-- one of the slots before a slot names a map
unfoldable pub names_before : List ℕ → ℕ → ℕ → Bool
names_before text m zero = false
names_before text m (suc n) = names_before text m n || is_map (named_at text n) m

-- a text names a map
abbrev pub names : List ℕ → ℕ → Bool
names text m = names_before text m (slots_of text)

-- flags say of each of the numbers 0 to 7 whether the slots before a slot name it
abbrev pub AreNamed : List ℕ → ℕ → List Bool → Type 0
AreNamed text slot flags = (m : ℕ) → m < 8 → slice_index_or flags m false ≡ names_before text m slot

-- of shapes by number, from a number on, those that are named; the others are not there
abbrev pub named_from : (ℕ → Bool) → ℕ → List (Option Shape) → List (Option Shape)
named_from named m [] = []
named_from named m (shape ∷ shapes) = (if named m then shape else None) ∷ named_from named (suc m) shapes

-- The shapes of the maps that a program names. A tenant's maps are asked for these alone.
abbrev pub named_shapes : Subject → List (Option Shape)
named_shapes p = named_from (names p.text) 0 p.shapes
