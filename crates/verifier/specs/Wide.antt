-- Tables that also say offsets below -65536, and what flows on in them (this project's own profile). The rules
-- are those of flow: where it speaks of offsets, the numbers are `extra` more here, and all else is just its.
use Rattle.std.specs.Prelude.{◌≡◌, ℕ, ◌+◌, ◌%◌, int_le, ℤ, pos, ◌+ℤ◌, Bool, true, false, not, ◌&&◌, List, ◌++◌, map, option_map, All, IfSome, Option, Some, Result, Ok}
use Rattle.host_types.specs.Rules.{unknown_opcode, outside_map, misaligned}
use Rattle.bpf_decode.specs.declared.insn.Insn.{Insn}
use Rattle.bpf_decode.specs.declared.operation.Source.{Source}
use Rattle.bpf_decode.specs.declared.operation.Width.{Width}
use Rattle.bpf_decode.specs.declared.operation.Width.TheVariants.{Bits64}
use Rattle.bpf_decode.specs.declared.operation.Size.{Size}
use Rattle.bpf_decode.specs.declared.operation.Extension.{Extension}
use Rattle.bpf_decode.specs.declared.operation.Comparison.{Comparison}
use Rattle.bpf_decode.specs.declared.operation.AluCode.{AluCode}
use Rattle.bpf_decode.specs.declared.operation.Operation.{Operation}
use Rattle.bpf_decode.specs.declared.operation.Operation.TheVariants.{Alu, Load, Store, LoadImmediate, Branch}
use Rattle.bpf_decode.specs.Opcodes.{operation_of, byte_count}
use Rattle.bpf_decode.specs.Text.{insn_at, IsInstruction}
use Rattle.verifier_kinds.specs.declared.kind.Offsets.{Offsets}
use Rattle.verifier_kinds.specs.declared.kind.Kind.{Kind}
use Rattle.verifier_kinds.specs.declared.kind.Kind.TheVariants.{Scalar, MapValue}
use Rattle.verifier_kinds.specs.declared.description.Description.{Description}
use Rattle.verifier_kinds.specs.Kinds.{offset_bias}
use Rattle.verifier_kinds.specs.Descriptions.{register_of, with_answer_known, start_description}
use Rattle.verifier_kinds.specs.Wide.{raised_kind, raised_description, arith_by_at, IsWideAt}
use Rattle.verifier.specs.declared.jumps.Compared.{Compared}
use Rattle.verifier.specs.declared.jumps.Compared.TheVariants.{Numbers, Answer}
use Rattle.verifier.specs.Subject.{Subject}
use Rattle.verifier.specs.Flow.{◌>>=◌, both, holds_or, known_or, read_kind, write_kind, operand_kind, dst_is_known, loaded_range, value_size_of, is_aligned_in_value, load_kind, wide_kind, is_number, stored, falls_to, jumps_to, target, comparands, holds_of_null, checked_kind, on_successor, falls_on, flow_by}
use Rattle.verifier.specs.Table.{Table, described, IsContained}

-- the kind that arithmetic leaves in dst
abbrev pub computed_kind_at : ℕ → AluCode → Width → Source → Insn → Description → Result Kind ℕ
computed_kind_at extra code width source insn d =
    both (dst_is_known code insn d) (operand_kind width source insn d) >>= λ x. arith_by_at extra code width insn.offset (register_of d insn.dst) x.1

-- the number of a value's first byte
abbrev pub begin_number : ℕ → ℕ
begin_number extra = extra + offset_bias

-- and that of its end
abbrev pub end_number : ℕ → ℕ → ℕ
end_number extra value_size = extra + (offset_bias + value_size)

-- an access begins in a value
abbrev pub begins_at : ℕ → Offsets → ℤ → Bool
begins_at extra offsets by = int_le (pos (begin_number extra)) (pos offsets.low +ℤ by)

-- and ends in it
abbrev pub ends_at : ℕ → ℕ → Offsets → ℤ → ℕ → Bool
ends_at extra value_size offsets by size = int_le (pos (offsets.high + size) +ℤ by) (pos (end_number extra value_size))

-- an access lies whole in a value
abbrev pub lies_at : ℕ → ℕ → Offsets → ℤ → ℕ → Result (Unit {0}) ℕ
lies_at extra value_size offsets by size = holds_or (begins_at extra offsets by && ends_at extra value_size offsets by size) outside_map

-- an access through a pointer to a value
abbrev pub access_at : ℕ → ℕ → Offsets → ℤ → ℕ → Result (Unit {0}) ℕ
access_at extra value_size offsets by size =
    lies_at extra value_size offsets by size >>= λ within. holds_or (is_aligned_in_value offsets by size) misaligned

-- what is known of a number that is loaded through a base
abbrev pub load_kind_at : ℕ → Subject → Size → Extension → Insn → Description → Kind → Result Kind ℕ
load_kind_at extra p size extension insn d (MapValue m offsets) =
    access_at extra (value_size_of p m) offsets insn.offset (byte_count size) >>= λ within. Ok (Scalar (loaded_range size extension))
load_kind_at extra p size extension insn d base = load_kind p size extension insn d base

-- what is known of a number that is loaded
abbrev pub loaded_kind_at : ℕ → Subject → Size → Extension → Insn → Description → Result Kind ℕ
loaded_kind_at extra p size extension insn d = read_kind d insn.src >>= λ base. load_kind_at extra p size extension insn d base

-- what is known of what the wide instruction loads
abbrev pub wide_kind_at : ℕ → Subject → Insn → Result Kind ℕ
wide_kind_at extra p insn = wide_kind p insn >>= λ kind. Ok (raised_kind extra kind)

-- what is known after a store of a kind through a base
abbrev pub stored_at : ℕ → Subject → Size → Insn → Description → Kind → Kind → Result Description ℕ
stored_at extra p size insn d (MapValue m offsets) kind =
    access_at extra (value_size_of p m) offsets insn.offset (byte_count size) >>= λ within. is_number kind >>= λ number. Ok d
stored_at extra p size insn d base kind = stored p size insn d base kind

-- a store
abbrev pub after_store_at : ℕ → Subject → Size → Source → Insn → Description → Result Description ℕ
after_store_at extra p size source insn d =
    both (read_kind d insn.dst) (operand_kind Bits64 source insn d) >>= λ x. stored_at extra p size insn d x.0 x.1

-- what is known on one branch of a conditional jump
abbrev pub on_successor_at : ℕ → Comparison → Width → Bool → Insn → Description → Compared → Option Description
on_successor_at extra comparison width taken insn d (Numbers a b) = on_successor comparison width taken insn d (Numbers a b)
on_successor_at extra comparison width true insn d (Answer m call) = Some (with_answer_known call (raised_kind extra (checked_kind m (holds_of_null comparison))) d)
on_successor_at extra comparison width false insn d (Answer m call) = Some (with_answer_known call (raised_kind extra (checked_kind m (not (holds_of_null comparison)))) d)

-- where a conditional jump leads
abbrev pub flow_of_branch_at : ℕ → Subject → Comparison → Width → Source → Insn → ℕ → Description → Result (List (ℕ × Description)) ℕ
flow_of_branch_at extra p comparison width source insn slot d = do
  x ← both (comparands comparison width source insn d) (both (falls_to p.text slot) (jumps_to p.text slot insn.offset))
  Ok (target x.1.0 (on_successor_at extra comparison width false insn d x.0) ++ target x.1.1 (on_successor_at extra comparison width true insn d x.0))

-- where an operation leads and what is known there
unfoldable pub flow_by_at : ℕ → Subject → Operation → ℕ → Description → Result (List (ℕ × Description)) ℕ
flow_by_at extra p (Alu code width source) slot d =
    let insn = insn_at p.text slot in falls_on p slot (write_kind d insn.dst (computed_kind_at extra code width source insn d))
flow_by_at extra p (Load size extension) slot d =
    let insn = insn_at p.text slot in falls_on p slot (write_kind d insn.dst (loaded_kind_at extra p size extension insn d))
flow_by_at extra p (Store size source) slot d = falls_on p slot (after_store_at extra p size source (insn_at p.text slot) d)
flow_by_at extra p LoadImmediate slot d =
    let insn = insn_at p.text slot in falls_on p slot (write_kind d insn.dst (wide_kind_at extra p insn))
flow_by_at extra p (Branch comparison width source) slot d = flow_of_branch_at extra p comparison width source (insn_at p.text slot) slot d
flow_by_at extra p operation slot d = flow_by p operation slot d

-- where the instruction at a slot leads from a description, or the rule that it breaks
abbrev pub flow_at : ℕ → Subject → ℕ → Description → Result (List (ℕ × Description)) ℕ
flow_at extra p slot d = known_or (operation_of (insn_at p.text slot).opcode) unknown_opcode >>= λ operation. flow_by_at extra p operation slot d

-- a table as one says it whose numbers of offsets are `extra` more
abbrev pub raised_table : ℕ → Table → Table
raised_table extra table = map (option_map (raised_description extra)) table

-- at a slot with this description no rule is broken, and all that flows on is contained
abbrev pub IsKeptWide : ℕ → Subject → Table → ℕ → Description → Type 0
IsKeptWide extra p table slot d = (targets : List (ℕ × Description)) × (flow_at extra p slot d ≡ Ok targets) × All (IsContained table) targets

-- A lawful table whose numbers of offsets are `extra` more than those of the verifier: the number n stands for the offset
-- n - offset_bias - extra, so with `extra` 65536 the number 0 stands for -131072. `flow_at` differs from `flow` in five operations (Alu,
-- Load, Store, LoadImmediate, Branch), and in these by `extra` alone.
pub record IsWideLawful (p : Subject) (extra : ℕ) (table : Table) : Type 0 where
  pub start : IsContained table (0, start_description)
  pub instructions : (slot : ℕ) (d : Description) → described table slot ≡ Some d → IsInstruction p.text slot
  pub kinds : (slot : ℕ) → IfSome (described table slot) (IsWideAt slot)
  pub kept : (slot : ℕ) (d : Description) → described table slot ≡ Some d → IsKeptWide extra p table slot d

-- A subject that no table is lawful for, also none that says offsets below -65536: whatever is said of its slots, a
-- rule is broken. Numbers are aligned as the offsets are, since 8 divides `extra`.
abbrev pub HasNoLawful : Subject → Type 0
HasNoLawful p = (extra : ℕ) (table : Table) → extra % 8 ≡ 0 → IsWideLawful p extra table → ⊥
