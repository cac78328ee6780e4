-- Descriptions: what is known of all registers and of the stack (this project's own profile).
use Rattle.std.specs.Prelude.{◌≡◌, ℕ, ◌*◌, ◌<◌, bit_and, List, [], ◌∷◌, length, map, replicate, slice_index_or, slice_set, ◌==◌, if◌then◌else◌, IsSome, IfSome, IsBitSet, Option, Some, None, option_map, pos}
use Rattle.host_types.specs.Bytes.{number_of, part_of}
use Rattle.host_types.specs.Memory.{all_set}
use Rattle.verifier_kinds.specs.declared.kind.Kind.{Kind}
use Rattle.verifier_kinds.specs.declared.kind.Kind.TheVariants.{Scalar, Context, Stack, MaybeValue}
use Rattle.verifier_kinds.specs.declared.description.StackSlot.{StackSlot}
use Rattle.verifier_kinds.specs.declared.description.StackSlot.TheVariants.{Kept, Bytes}
use Rattle.verifier_kinds.specs.declared.description.Description.{Description}
use Rattle.verifier_kinds.specs.Kinds.{Setting, Describes, IsOfKind, IsKind, IsNormalKind, IsOfCallBelow, IsBelow, IsKindBelow, join_of_kinds}

-- the kind of a register; nothing is known of what is past R10
abbrev pub register_of : Description → ℕ → Option Kind
register_of d i = slice_index_or d.registers i None

-- the stack slot with a number; of what is past the stack nothing is known
abbrev pub slot_of : Description → ℕ → StackSlot
slot_of d k = slice_index_or d.stack k (Bytes 0)

-- the description with one register's kind replaced
abbrev pub with_kind : Description → ℕ → Kind → Description
with_kind d i kind = record d { registers = slice_set d.registers i (Some kind) }

-- the description with one slot of the stack replaced
abbrev pub with_slot : Description → ℕ → StackSlot → Description
with_slot d k slot = record d { stack = slice_set d.stack k slot }

-- the description with nothing known of one register
abbrev pub with_unset : Description → ℕ → Description
with_unset d i = record d { registers = slice_set d.registers i None }

-- the kind once it is known what kind the answer of a call is of
abbrev pub resolved_kind : ℕ → Kind → Kind → Kind
resolved_kind call to (MaybeValue m id) = if id == call then to else MaybeValue m id
resolved_kind call to kind = kind

-- the same of a slot of the stack
abbrev pub resolved_slot : ℕ → Kind → StackSlot → StackSlot
resolved_slot call to (Kept kind) = Kept (resolved_kind call to kind)
resolved_slot call to (Bytes set) = Bytes set

-- the description once it is known what kind the answer of a call is of: of each register and each slot
-- that keeps it
unfoldable pub with_answer_known : ℕ → Kind → Description → Description
with_answer_known call to d =
    record { registers = map (option_map (resolved_kind call to)) d.registers; stack = map (resolved_slot call to) d.stack }

-- at the start R1 is the context's address and R10 the stack's end, and nothing else is known
abbrev pub start_description : Description
start_description = record {
  registers = None ∷ Some (Context (pos 0)) ∷ None ∷ None ∷ None ∷ None ∷ None ∷ None ∷ None ∷ None ∷ Some (Stack (pos 0)) ∷ [];
  stack = replicate 64 (Bytes 0);
}

-- a slot of the stack describes its eight bytes
abbrev pub DescribesSlot : Setting → StackSlot → List (Option ℕ) → Type 0
DescribesSlot setting (Kept kind) bytes = (given : List ℕ) × (all_set bytes ≡ Some given) × IsOfKind setting kind (number_of given)
DescribesSlot setting (Bytes set) bytes = (i : ℕ) → i < 8 → IsBitSet set i → IsSome (slice_index_or bytes i None)

-- each kind describes its register
abbrev pub DescribesRegisters : Setting → Description → List (Option ℕ) → Type 0
DescribesRegisters setting d registers = (i : ℕ) → Describes setting (register_of d i) (slice_index_or registers i None)

-- each slot describes its eight bytes of the stack
abbrev pub DescribesStack : Setting → Description → List (Option ℕ) → Type 0
DescribesStack setting d stack = (k : ℕ) → DescribesSlot setting (slot_of d k) (part_of stack (8 * k) 8)

-- what holds of each stack slot of the verifier
abbrev pub IsSlot : StackSlot → Type 0
IsSlot (Kept kind) = IsKind kind
IsSlot (Bytes set) = set < 256

-- what holds of each description of the verifier
pub record IsDescription (d : Description) : Type 0 where
  pub registers : length d.registers ≡ 11
  pub stack : length d.stack ≡ 64
  pub kinds : (i : ℕ) → IfSome (register_of d i) IsKind
  pub slots : (k : ℕ) → IsSlot (slot_of d k)

-- the same for a slot of the stack: its ranges are normal
abbrev pub IsNormalSlot : StackSlot → Type 0
IsNormalSlot (Kept kind) = IsNormalKind kind
IsNormalSlot (Bytes set) = set < 256

-- the same: it names calls below a slot of the program alone
abbrev pub IsSlotOfCallBelow : ℕ → StackSlot → Type 0
IsSlotOfCallBelow slot (Kept kind) = IsOfCallBelow slot kind
IsSlotOfCallBelow slot (Bytes set) = Unit {0}

-- a description names calls below a slot of the program alone
pub record IsOfCallsBelow (slot : ℕ) (d : Description) : Type 0 where
  pub registers : (i : ℕ) → IfSome (register_of d i) (IsOfCallBelow slot)
  pub stack : (k : ℕ) → IsSlotOfCallBelow slot (slot_of d k)

-- What holds of the description of a slot of the program in a lawful table: eleven registers and 64 slots
-- of the stack, normal ranges, and calls before the slot.
pub record IsLawfulAt (slot : ℕ) (d : Description) : Type 0 where
  pub registers : length d.registers ≡ 11
  pub stack : length d.stack ≡ 64
  pub kinds : (i : ℕ) → IfSome (register_of d i) IsNormalKind
  pub slots : (k : ℕ) → IsNormalSlot (slot_of d k)
  pub calls : IsOfCallsBelow slot d

-- the bytes of a slot that are known to hold numbers, by the bits of a number: of a kept pointer none
abbrev pub number_bytes : StackSlot → ℕ
number_bytes (Kept (Scalar range)) = 255
number_bytes (Kept pointer) = 0
number_bytes (Bytes set) = set

-- the slot says at least as much as another
abbrev pub IsSlotBelow : StackSlot → StackSlot → Type 0
IsSlotBelow slot (Kept outer) = (inner : Kind) × (slot ≡ Kept inner) × IsKindBelow inner outer
IsSlotBelow slot (Bytes set) = bit_and (number_bytes slot) set ≡ set

-- the description says at least as much as another, offset by offset
pub record IsDescriptionBelow (d e : Description) : Type 0 where
  pub registers : (i : ℕ) → IsBelow (register_of d i) (register_of e i)
  pub slots : (k : ℕ) → IsSlotBelow (slot_of d k) (slot_of e k)

-- the least knowledge of a register above two
abbrev pub join_of_registers : Option Kind → Option Kind → Option Kind
join_of_registers (Some a) (Some b) = join_of_kinds a b
join_of_registers a b = None

-- a slot that keeps a kind, if there is one, and else knows these bytes
abbrev pub kept_or_bytes : Option Kind → ℕ → StackSlot
kept_or_bytes (Some kind) set = Kept kind
kept_or_bytes None set = Bytes set

-- the least slot above two
abbrev pub join_of_slots : StackSlot → StackSlot → StackSlot
join_of_slots (Kept a) (Kept b) = kept_or_bytes (join_of_kinds a b) 0
join_of_slots a b = Bytes (bit_and (number_bytes a) (number_bytes b))

-- two lists, merged offset by offset
abbrev pub joined_with : {X : Type 0} → (X → X → X) → List X → List X → List X
joined_with f (x ∷ xs) (y ∷ ys) = f x y ∷ joined_with f xs ys
joined_with f xs ys = []

-- the least description above two
abbrev pub join_of : Description → Description → Description
join_of d e = record { registers = joined_with join_of_registers d.registers e.registers; stack = joined_with join_of_slots d.stack e.stack }
