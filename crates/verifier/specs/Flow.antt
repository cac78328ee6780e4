-- What flows on from an instruction, or which rule it breaks (this project's own profile, docs/VERIFIER.md;
-- the numbers are those of the refusals).
use Rattle.std.specs.Prelude.{ℕ, zero, suc, ◌+◌, ◌-◌, ◌*◌, ◌/◌, ◌%◌, ◌^◌, bit_and, bit_or, nat_lt, nat_le, ◌==◌, ℤ, pos, negsuc, ◌+ℤ◌, int_le, Bool, true, false, not, ◌&&◌, if◌then◌else◌, List, [], ◌∷◌, ◌++◌, Option, Some, None, option_map, unwrap_or, is_some, Result, Ok, Err}
use Rattle.host_types.specs.declared.helper.MapHelper.{MapHelper}
use Rattle.host_types.specs.declared.helper.MapHelper.TheVariants.{Lookup, Update}
use Rattle.host_types.specs.declared.shape.Shape.{Shape}
use Rattle.host_types.specs.Rules.{unknown_opcode, back_jump, jump_out, falls_off, unset_register, wrong_kind, outside_context, outside_stack, unset_stack, outside_map, misaligned, null_not_checked, frame_written, unknown_helper, unknown_map, pointer_leaks}
use Rattle.host_types.specs.Layout.{stack_size}
use Rattle.host_types.specs.Helpers.{helper_of}
use Rattle.bpf_decode.specs.declared.insn.Insn.{Insn}
use Rattle.bpf_decode.specs.declared.operation.Source.{Source}
use Rattle.bpf_decode.specs.declared.operation.Source.TheVariants.{Immediate, Register}
use Rattle.bpf_decode.specs.declared.operation.Width.{Width}
use Rattle.bpf_decode.specs.declared.operation.Width.TheVariants.{Bits64}
use Rattle.bpf_decode.specs.declared.operation.Size.{Size}
use Rattle.bpf_decode.specs.declared.operation.Size.TheVariants.{Byte, HalfWord, Word, DoubleWord}
use Rattle.bpf_decode.specs.declared.operation.Extension.{Extension}
use Rattle.bpf_decode.specs.declared.operation.Extension.TheVariants.{Zero, Sign}
use Rattle.bpf_decode.specs.declared.operation.Distance.{Distance}
use Rattle.bpf_decode.specs.declared.operation.Comparison.{Comparison}
use Rattle.bpf_decode.specs.declared.operation.Comparison.TheVariants.{Equal, NotEqual}
use Rattle.bpf_decode.specs.declared.operation.AluCode.{AluCode}
use Rattle.bpf_decode.specs.declared.operation.Operation.{Operation}
use Rattle.bpf_decode.specs.declared.operation.Operation.TheVariants.{Alu, Load, Store, LoadImmediate, Jump, Branch, Call, Exit}
use Rattle.bpf_decode.specs.Opcodes.{operation_of, is, byte_count, distance_of, sign_extended, wide_immediate}
use Rattle.bpf_decode.specs.Text.{insn_at, is_instruction, slots_of, width_at}
use Rattle.insn_alu.specs.Arithmetic.{low, reads_dst}
use Rattle.verifier_kinds.specs.declared.kind.Align.TheVariants.{One, Eight}
use Rattle.verifier_kinds.specs.declared.kind.Range.{Range}
use Rattle.verifier_kinds.specs.declared.kind.Offsets.{Offsets}
use Rattle.verifier_kinds.specs.declared.kind.Kind.{Kind}
use Rattle.verifier_kinds.specs.declared.kind.Kind.TheVariants.{Scalar, Context, Stack, MapValue, MaybeValue, MapName}
use Rattle.verifier_kinds.specs.declared.description.StackSlot.{StackSlot}
use Rattle.verifier_kinds.specs.declared.description.StackSlot.TheVariants.{Kept, Bytes}
use Rattle.verifier_kinds.specs.declared.description.Description.{Description}
use Rattle.verifier_kinds.specs.Kinds.{constant, factor, full, normal, offset_bias, offsets_in, shape_at}
use Rattle.verifier_kinds.specs.Descriptions.{register_of, with_answer_known, slot_of, with_kind, with_slot, with_unset, number_bytes}
use Rattle.verifier_kinds.specs.Arithmetic.{arith_by}
use Rattle.verifier_kinds.specs.Refinement.{refined}
use Rattle.verifier.specs.declared.jumps.Compared.{Compared}
use Rattle.verifier.specs.declared.jumps.Compared.TheVariants.{Numbers, Answer}
use Rattle.verifier.specs.Subject.{Subject}

infixl 10 ◌>>=◌
-- a question that is asked only where the one before it breaks no rule
abbrev pub ◌>>=◌ : {A B : Type 0} → Result A ℕ → (A → Result B ℕ) → Result B ℕ
(Ok x) >>= f = f x
(Err n) >>= f = Err n

-- two questions that are asked at once: the smallest number of those that break names the rule
abbrev pub both : {A B : Type 0} → Result A ℕ → Result B ℕ → Result (A × B) ℕ
both (Ok x) (Ok y) = Ok (x, y)
both (Ok x) (Err n) = Err n
both (Err m) (Ok y) = Err m
both (Err m) (Err n) = Err (if nat_lt n m then n else m)

-- the same of questions that say nothing but whether a rule is broken
abbrev pub first_of : Result (Unit {0}) ℕ → Result (Unit {0}) ℕ → Result (Unit {0}) ℕ
first_of a b = both a b >>= λ x. Ok tt

-- the test holds, or the rule is broken
abbrev pub holds_or : Bool → ℕ → Result (Unit {0}) ℕ
holds_or test rule = if test then Ok tt else Err rule

-- what is known, or the rule is broken
abbrev pub known_or : {A : Type 0} → Option A → ℕ → Result A ℕ
known_or (Some x) rule = Ok x
known_or None rule = Err rule

-- the kind of a register that is read
abbrev pub read_kind : Description → ℕ → Result Kind ℕ
read_kind d i = known_or (register_of d i) unset_register

-- R10 is read-only
abbrev pub writable : ℕ → Result (Unit {0}) ℕ
writable i = holds_or (not (i == 10)) frame_written

-- the description with a kind written to a register
abbrev pub write_kind : Description → ℕ → Result Kind ℕ → Result Description ℕ
write_kind d i kind = both kind (writable i) >>= λ x. Ok (with_kind d i x.0)

-- the kind of a number of an immediate, as a width takes it
abbrev pub immediate_kind : Width → Insn → Kind
immediate_kind width insn = Scalar (constant (low width (sign_extended insn.imm)))

-- the kind of the second operand of arithmetic
abbrev pub operand_kind : Width → Source → Insn → Description → Result Kind ℕ
operand_kind width Immediate insn d = Ok (immediate_kind width insn)
operand_kind width Register insn d = read_kind d insn.src

-- dst is known where the arithmetic reads it
abbrev pub dst_is_known : AluCode → Insn → Description → Result (Unit {0}) ℕ
dst_is_known code insn d = if reads_dst code then (read_kind d insn.dst >>= λ kind. Ok tt) else Ok tt

-- the kind that arithmetic leaves in dst
abbrev pub computed_kind : AluCode → Width → Source → Insn → Description → Result Kind ℕ
computed_kind code width source insn d =
    both (dst_is_known code insn d) (operand_kind width source insn d) >>= λ x. arith_by code width insn.offset (register_of d insn.dst) x.1

-- arithmetic
unfoldable pub after_alu : AluCode → Width → Source → Insn → Description → Result Description ℕ
after_alu code width source insn d = write_kind d insn.dst (computed_kind code width source insn d)

-- the offset of `size` bytes that lie whole between 0 and an end
abbrev pub lies_below : ℤ → ℕ → ℕ → ℕ → Result ℕ ℕ
lies_below (pos at) size end rule = if nat_le (at + size) end then Ok at else Err rule
lies_below (negsuc n) size end rule = Err rule

-- the location of an access that is aligned to its size
abbrev pub aligned : ℕ → ℕ → Result ℕ ℕ
aligned at size = if at % size == 0 then Ok at else Err misaligned

-- the location in the context of an access at an offset from its beginning
abbrev pub context_offset : ℕ → ℤ → ℕ → Result ℕ ℕ
context_offset context_size offset size = lies_below offset size context_size outside_context >>= λ at. aligned at size

-- the location in the stack of an access at an offset from its end
abbrev pub stack_offset : ℤ → ℕ → Result ℕ ℕ
stack_offset offset size = lies_below (offset +ℤ pos stack_size) size stack_size outside_stack >>= λ at. aligned at size

-- the numbers that are loaded: with sign extension they are all numbers
abbrev pub loaded_range : Size → Extension → Range
loaded_range Byte Zero = normal 0 255 One
loaded_range HalfWord Zero = normal 0 65535 One
loaded_range Word Zero = normal 0 4294967295 One
loaded_range DoubleWord Zero = full One
loaded_range size Sign = full One

-- the bytes of an access in a slot of the stack, by the bits of a number
abbrev pub mask : ℕ → Size → ℕ
mask at size = (2 ^ byte_count size - 1) * 2 ^ (at % 8)

-- what is known of bytes of a slot that are loaded: a double word that is kept, or a number; the bytes of
-- a kept pointer aren't read one by one
abbrev pub slot_kind : Size → Extension → StackSlot → ℕ → Result Kind ℕ
slot_kind DoubleWord extension (Kept kind) at = Ok kind
slot_kind size extension (Kept (Scalar range)) at = Ok (Scalar (loaded_range size extension))
slot_kind size extension (Kept pointer) at = Err pointer_leaks
slot_kind size extension (Bytes set) at =
    if bit_and set (mask at size) == mask at size then Ok (Scalar (loaded_range size extension)) else Err unset_stack

-- the bytes of a value of the map m; a map that isn't there has none
abbrev pub value_size_of : Subject → ℕ → ℕ
value_size_of p m = unwrap_or (option_map (λ (shape : Shape). shape.value_size) (shape_at p.shapes m)) 0

-- an access begins in a value, at whichever of its offsets the pointer is; these are `offset_bias`
-- more than they are
abbrev pub begins_in_value : Offsets → ℤ → Bool
begins_in_value offsets by = int_le (pos offset_bias) (pos offsets.low +ℤ by)

-- and ends in it
abbrev pub ends_in_value : ℕ → Offsets → ℤ → ℕ → Bool
ends_in_value value_size offsets by size = int_le (pos (offsets.high + size) +ℤ by) (pos (offset_bias + value_size))

-- an access lies whole in a value
abbrev pub lies_in_value : ℕ → Offsets → ℤ → ℕ → Result (Unit {0}) ℕ
lies_in_value value_size offsets by size = holds_or (begins_in_value offsets by && ends_in_value value_size offsets by size) outside_map

-- an access is aligned to its size, at whichever of its offsets the pointer is
abbrev pub is_aligned_in_value : Offsets → ℤ → ℕ → Bool
is_aligned_in_value offsets by size =
    if offsets.low == offsets.high
    then (offsets.low + sign_extended by % size) % size == 0
    else (factor offsets.align % size == 0) && (sign_extended by % size == 0)

-- an access through a pointer to a value
abbrev pub value_access : ℕ → Offsets → ℤ → ℕ → Result (Unit {0}) ℕ
value_access value_size offsets by size =
    lies_in_value value_size offsets by size >>= λ within. holds_or (is_aligned_in_value offsets by size) misaligned

-- what is known of a number that is loaded through a base
abbrev pub load_kind : Subject → Size → Extension → Insn → Description → Kind → Result Kind ℕ
load_kind p size extension insn d (Context k) =
    context_offset p.context_size (k +ℤ insn.offset) (byte_count size) >>= λ at. Ok (Scalar (loaded_range size extension))
load_kind p size extension insn d (Stack k) =
    stack_offset (k +ℤ insn.offset) (byte_count size) >>= λ at. slot_kind size extension (slot_of d (at / 8)) at
load_kind p size extension insn d (MapValue m offsets) =
    value_access (value_size_of p m) offsets insn.offset (byte_count size) >>= λ within. Ok (Scalar (loaded_range size extension))
load_kind p size extension insn d (MaybeValue m call) = Err null_not_checked
load_kind p size extension insn d (Scalar range) = Err wrong_kind
load_kind p size extension insn d (MapName m) = Err wrong_kind

-- what is known of a number that is loaded
abbrev pub loaded_kind : Subject → Size → Extension → Insn → Description → Result Kind ℕ
loaded_kind p size extension insn d = read_kind d insn.src >>= λ base. load_kind p size extension insn d base

-- a load
unfoldable pub after_load : Subject → Size → Extension → Insn → Description → Result Description ℕ
after_load p size extension insn d = write_kind d insn.dst (loaded_kind p size extension insn d)

-- the name of a map that the program may use
abbrev pub name_kind : Subject → ℤ → Result Kind ℕ
name_kind p (pos m) = holds_or (is_some (shape_at p.shapes m)) unknown_map >>= λ there. Ok (MapName m)
name_kind p (negsuc n) = Err unknown_map

-- the one offset of a pointer that is so many bytes after the beginning of an element
abbrev pub at_offset : ℕ → Offsets
at_offset n = offsets_in (constant (offset_bias + n))

-- the address at an offset in the first value of a map that the program may use: a map always has a first
-- element, so nothing is left to test
abbrev pub first_value_kind : Subject → ℤ → ℕ → Result Kind ℕ
first_value_kind p (pos m) n =
    holds_or (is_some (shape_at p.shapes m)) unknown_map >>= λ there. holds_or (nat_lt n (value_size_of p m)) outside_map >>= λ within. Ok (MapValue m (at_offset n))
first_value_kind p (negsuc k) n = Err unknown_map

-- what is known of what the wide instruction loads: a number, the name of a map, or an address in its first
-- value
abbrev pub wide_kind : Subject → Insn → Result Kind ℕ
wide_kind p insn =
    if insn.src == 0 then Ok (Scalar (constant (wide_immediate insn))) else (
    if insn.src == 1 then name_kind p insn.imm else first_value_kind p insn.imm insn.next_imm)

-- the load of both immediates
unfoldable pub after_load_immediate : Subject → Insn → Description → Result Description ℕ
after_load_immediate p insn d = write_kind d insn.dst (wide_kind p insn)

-- a slot of the stack with some of its bytes written: a double word is kept, and a pointer is stored whole
-- alone
abbrev pub written_slot : Size → StackSlot → ℕ → Kind → Result StackSlot ℕ
written_slot DoubleWord slot at kind = Ok (Kept kind)
written_slot size slot at (Scalar range) = Ok (Bytes (bit_or (number_bytes slot) (mask at size)))
written_slot size slot at pointer = Err pointer_leaks

-- no pointer is given away: not to a map, and not as what the program returns
abbrev pub is_number : Kind → Result (Unit {0}) ℕ
is_number (Scalar range) = Ok tt
is_number pointer = Err pointer_leaks

-- what is known after a store to the stack at an offset from its end
abbrev pub after_stack_store : Size → ℤ → Kind → Description → Result Description ℕ
after_stack_store size offset kind d = do
  at ← stack_offset offset (byte_count size)
  slot ← written_slot size (slot_of d (at / 8)) at kind
  Ok (with_slot d (at / 8) slot)

-- What is known after a store of a kind through a base. Nothing is known of what maps hold, and the
-- context is read-only.
abbrev pub stored : Subject → Size → Insn → Description → Kind → Kind → Result Description ℕ
stored p size insn d (Stack k) kind = after_stack_store size (k +ℤ insn.offset) kind d
stored p size insn d (MapValue m offsets) kind =
    value_access (value_size_of p m) offsets insn.offset (byte_count size) >>= λ within. is_number kind >>= λ number. Ok d
stored p size insn d (MaybeValue m call) kind = Err null_not_checked
stored p size insn d (Scalar range) kind = Err wrong_kind
stored p size insn d (Context k) kind = Err wrong_kind
stored p size insn d (MapName m) kind = Err wrong_kind

-- a store
unfoldable pub after_store : Subject → Size → Source → Insn → Description → Result Description ℕ
after_store p size source insn d =
    both (read_kind d insn.dst) (operand_kind Bits64 source insn d) >>= λ x. stored p size insn d x.0 x.1

-- the slot to which an instruction falls through
abbrev pub falls_to : List ℕ → ℕ → Result ℕ ℕ
falls_to text slot = let to = slot + width_at text slot in if nat_lt to (slots_of text) then Ok to else Err falls_off

-- a slot to which an instruction may jump: one after it, at which an instruction begins
abbrev pub lands_on : List ℕ → ℕ → ℤ → Result ℕ ℕ
lands_on text slot (negsuc n) = Err back_jump
lands_on text slot (pos to) =
    if nat_le to slot then Err back_jump else (
    if nat_lt to (slots_of text) && is_instruction text to then Ok to else Err jump_out)

-- the slot to which an instruction jumps; the distance counts from the next instruction
abbrev pub jumps_to : List ℕ → ℕ → ℤ → Result ℕ ℕ
jumps_to text slot distance = lands_on text slot (pos (slot + width_at text slot) +ℤ distance)

-- a target that is reached where something is known there
abbrev pub target : ℕ → Option Description → List (ℕ × Description)
target to None = []
target to (Some d) = (to, d) ∷ []

-- a comparison that says whether a lookup's answer is 0
abbrev pub is_null_check : Comparison → Width → Source → Insn → Bool
is_null_check Equal Bits64 Immediate insn = is insn.imm 0
is_null_check NotEqual Bits64 Immediate insn = is insn.imm 0
is_null_check comparison width source insn = false

-- numbers are compared, and a lookup's answer with 0
abbrev pub compared_kinds : Bool → Kind × Kind → Result Compared ℕ
compared_kinds null_check (MaybeValue m call, b) = if null_check then Ok (Answer m call) else Err null_not_checked
compared_kinds null_check (a, MaybeValue m call) = Err null_not_checked
compared_kinds null_check (Scalar a, Scalar b) = Ok (Numbers a b)
compared_kinds null_check kinds = Err wrong_kind

-- what a conditional jump compares
abbrev pub comparands : Comparison → Width → Source → Insn → Description → Result Compared ℕ
comparands comparison width source insn d =
    both (read_kind d insn.dst) (operand_kind width source insn d) >>= compared_kinds (is_null_check comparison width source insn)

-- a comparison with 0 holds of 0
abbrev pub holds_of_null : Comparison → Bool
holds_of_null Equal = true
holds_of_null comparison = false

-- the beginning of an element; offsets are `offset_bias` more than they are
abbrev pub beginning : Offsets
beginning = record { low = offset_bias; high = offset_bias; align = Eight }

-- what a lookup's answer is once it is known whether it is 0
abbrev pub checked_kind : ℕ → Bool → Kind
checked_kind m true = Scalar (constant 0)
checked_kind m false = MapValue m beginning

-- What is known on one way of a conditional jump: a comparison of numbers says of dst alone, and one of
-- a lookup's answer with 0 of all that keep this answer.
abbrev pub on_successor : Comparison → Width → Bool → Insn → Description → Compared → Option Description
on_successor comparison width taken insn d (Numbers a b) =
    option_map (λ range. with_kind d insn.dst (Scalar range)) (refined comparison width taken a b)
on_successor comparison width true insn d (Answer m call) = Some (with_answer_known call (checked_kind m (holds_of_null comparison)) d)
on_successor comparison width false insn d (Answer m call) = Some (with_answer_known call (checked_kind m (not (holds_of_null comparison))) d)

-- Where a conditional jump leads. Both targets are verified, also where nothing goes one way.
abbrev pub flow_of_branch : Subject → Comparison → Width → Source → Insn → ℕ → Description → Result (List (ℕ × Description)) ℕ
flow_of_branch p comparison width source insn slot d = do
  x ← both (comparands comparison width source insn d) (both (falls_to p.text slot) (jumps_to p.text slot insn.offset))
  Ok (target x.1.0 (on_successor comparison width false insn d x.0) ++ target x.1.1 (on_successor comparison width true insn d x.0))

-- where a jump leads that is always taken
abbrev pub flow_of_jump : Subject → Distance → Insn → ℕ → Description → Result (List (ℕ × Description)) ℕ
flow_of_jump p distance insn slot d = jumps_to p.text slot (distance_of distance insn) >>= λ to. Ok (target to (Some d))

-- a byte of the stack is known to hold a number's part
abbrev pub byte_in_slot : StackSlot → ℕ → Result (Unit {0}) ℕ
byte_in_slot (Kept (Scalar range)) i = Ok tt
byte_in_slot (Kept pointer) i = Err pointer_leaks
byte_in_slot (Bytes set) i = holds_or (bit_and set (2 ^ i) == 2 ^ i) unset_stack

-- so are the bytes of the stack from an offset on
abbrev pub bytes_known : Description → ℕ → ℕ → Result (Unit {0}) ℕ
bytes_known d at zero = Ok tt
bytes_known d at (suc n) = first_of (bytes_known d at n) (byte_in_slot (slot_of d ((at + n) / 8)) ((at + n) % 8))

-- Bytes that a helper reads: they lie whole in the context or in the stack, at a multiple of `align`, and
-- those of the stack are known to hold numbers.
abbrev pub argument : Subject → Description → ℕ → ℕ → Kind → Result (Unit {0}) ℕ
argument p d size align (Context k) =
    lies_below k size p.context_size outside_context >>= λ at. aligned at align >>= λ begin. Ok tt
argument p d size align (Stack k) =
    lies_below (k +ℤ pos stack_size) size stack_size outside_stack >>= λ at. both (aligned at align) (bytes_known d at size) >>= λ known. Ok tt
argument p d size align (MaybeValue m call) = Err null_not_checked
argument p d size align other = Err wrong_kind

-- the same of bytes whose number isn't known
abbrev pub points : Kind → Result (Unit {0}) ℕ
points (Context k) = Ok tt
points (Stack k) = Ok tt
points (MaybeValue m call) = Err null_not_checked
points other = Err wrong_kind

-- the map whose name a kind is
abbrev pub name_in : Kind → Result ℕ ℕ
name_in (MapName m) = Ok m
name_in (MaybeValue m call) = Err null_not_checked
name_in other = Err wrong_kind

-- the flags of an update are a number
abbrev pub flags_in : Kind → Result (Unit {0}) ℕ
flags_in (Scalar range) = Ok tt
flags_in (MaybeValue m call) = Err null_not_checked
flags_in other = Err wrong_kind

-- R1 of a helper is the name of a map
abbrev pub named_map : Description → Result ℕ ℕ
named_map d = read_kind d 1 >>= name_in

-- R2 is where the four bytes of the key are
abbrev pub key_argument : Subject → Description → Result (Unit {0}) ℕ
key_argument p d = read_kind d 2 >>= argument p d 4 4

-- R3 of an update is where the value is, of as many bytes as the map's values have
abbrev pub value_argument : Subject → Description → Result ℕ ℕ → Result (Unit {0}) ℕ
value_argument p d (Ok m) = read_kind d 3 >>= argument p d (value_size_of p m) 1
value_argument p d (Err rule) = read_kind d 3 >>= points

-- R4 of an update holds its flags
abbrev pub flags_argument : Description → Result (Unit {0}) ℕ
flags_argument d = read_kind d 4 >>= flags_in

-- the arguments after the key, which an update has alone
abbrev pub update_arguments : Subject → MapHelper → Description → Result (Unit {0}) ℕ
update_arguments p Update d = first_of (value_argument p d (named_map d)) (flags_argument d)
update_arguments p other d = Ok tt

-- the map that a helper is called for, if it may be called
abbrev pub called_map : Subject → MapHelper → Description → Result ℕ ℕ
called_map p helper d = both (named_map d) (both (key_argument p d) (update_arguments p helper d)) >>= λ x. Ok x.0

-- what a helper leaves in R0
abbrev pub answer_kind : MapHelper → ℕ → ℕ → Kind
answer_kind Lookup slot m = MaybeValue m slot
answer_kind other slot m = Scalar (full One)

-- after a call nothing is known of R1 to R5
abbrev pub without_arguments : Description → Description
without_arguments d = with_unset (with_unset (with_unset (with_unset (with_unset d 1) 2) 3) 4) 5

-- a call of a helper
unfoldable pub after_call : Subject → ℕ → Insn → Description → Result Description ℕ
after_call p slot insn d = do
  helper ← known_or (helper_of (sign_extended insn.imm)) unknown_helper
  m ← called_map p helper d
  Ok (with_kind (without_arguments d) 0 (answer_kind helper slot m))

-- what is known after an instruction that falls through
abbrev pub after : Subject → ℕ → Operation → Insn → Description → Result Description ℕ
after p slot (Alu code width source) insn d = after_alu code width source insn d
after p slot (Load size extension) insn d = after_load p size extension insn d
after p slot (Store size source) insn d = after_store p size source insn d
after p slot LoadImmediate insn d = after_load_immediate p insn d
after p slot Call insn d = after_call p slot insn d
after p slot other insn d = Ok d

-- where an instruction leads that falls through, from what is known after it
abbrev pub falls_on : Subject → ℕ → Result Description ℕ → Result (List (ℕ × Description)) ℕ
falls_on p slot after = both after (falls_to p.text slot) >>= λ x. Ok (target x.1 (Some x.0))

-- where EXIT leads: nowhere, if R0 may be returned
abbrev pub flow_of_exit : Description → Result (List (ℕ × Description)) ℕ
flow_of_exit d = read_kind d 0 >>= λ kind. is_number kind >>= λ returned. Ok []

-- Where an operation leads and what is known there: a list of targets, the slot to which it falls
-- through before the one to which it jumps.
unfoldable pub flow_by : Subject → Operation → ℕ → Description → Result (List (ℕ × Description)) ℕ
flow_by p Exit slot d = flow_of_exit d
flow_by p (Jump distance) slot d = flow_of_jump p distance (insn_at p.text slot) slot d
flow_by p (Branch comparison width source) slot d = flow_of_branch p comparison width source (insn_at p.text slot) slot d
flow_by p operation slot d = falls_on p slot (after p slot operation (insn_at p.text slot) d)

-- where the instruction at a slot leads from a description, or the rule that it breaks
abbrev pub flow : Subject → ℕ → Description → Result (List (ℕ × Description)) ℕ
flow p slot d = known_or (operation_of (insn_at p.text slot).opcode) unknown_opcode >>= λ operation. flow_by p operation slot d
