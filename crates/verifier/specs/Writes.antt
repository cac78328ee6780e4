-- Which maps the rest of a run may write: those of its stores through pointers to maps' values, and of its updates (this
-- project's own rule). No run takes more pages of these maps out than they have.
use Rattle.std.specs.Prelude.{◌≡◌, ℕ, zero, suc, ◌-◌, ◌<◌, ◌≤◌, nat_lt, Bool, false, ◌||◌, List, slice_index_or, Option, Some, None}
use Rattle.host_types.specs.declared.helper.MapHelper.{MapHelper}
use Rattle.host_types.specs.declared.helper.MapHelper.TheVariants.{Update}
use Rattle.host_types.specs.Helpers.{helper_of}
use Rattle.bpf_decode.specs.declared.operation.Operation.{Operation}
use Rattle.bpf_decode.specs.declared.operation.Operation.TheVariants.{Store, Call}
use Rattle.bpf_decode.specs.Opcodes.{operation_of, sign_extended}
use Rattle.bpf_decode.specs.Text.{insn_at, slots_of}
use Rattle.verifier_kinds.specs.declared.kind.Kind.{Kind}
use Rattle.verifier_kinds.specs.declared.kind.Kind.TheVariants.{MapValue, MapName}
use Rattle.verifier.specs.Named.{is_map}
use Rattle.verifier.specs.Subject.{Subject}
use Rattle.verifier.specs.Table.{Table}
use Rattle.verifier.specs.Verified.{Accepted, kind_at}

-- the map that a store through a base writes
abbrev pub store_map : Option Kind → Option ℕ
store_map (Some (MapValue m offsets)) = Some m
store_map base = None

-- the map that an update writes
abbrev pub update_map : Option Kind → Option ℕ
update_map (Some (MapName m)) = Some m
update_map name = None

-- of the helpers only an update writes
abbrev pub call_map : Option MapHelper → Option Kind → Option ℕ
call_map (Some Update) name = update_map name
call_map helper name = None

-- the map that an operation writes at a slot of a table
abbrev pub map_by : Subject → Table → ℕ → Option Operation → Option ℕ
map_by p table slot (Some (Store size source)) = store_map (kind_at table slot (insn_at p.text slot).dst)
map_by p table slot (Some Call) = call_map (helper_of (sign_extended (insn_at p.text slot).imm)) (kind_at table slot 1)
map_by p table slot operation = None

-- the map that the instruction at a slot writes; a slot that isn't reached writes none, as nothing is known there
unfoldable pub written_map : Accepted → ℕ → Option ℕ
written_map v slot = map_by v.subject v.table slot (operation_of (insn_at v.subject.text slot).opcode)

-- one of the next n slots writes the map
unfoldable pub writes_within : Accepted → ℕ → ℕ → ℕ → Bool
writes_within v slot zero m = false
writes_within v slot (suc n) m = is_map (written_map v slot) m || writes_within v (suc slot) n m

-- the rest of a program writes the map, from a slot on
abbrev pub writes_from : Accepted → ℕ → ℕ → Bool
writes_from v slot m = writes_within v slot (slots_of v.subject.text - slot) m

-- What is kept of each of the eight maps is one more than the last of the first n slots that writes it, and 0 where none does.
pub record AreLastWrites (v : Accepted) (n : ℕ) (lasts : List ℕ) : Type 0 where
  pub most : (m : ℕ) → m < 8 → slice_index_or lasts m 0 ≤ n
  pub each : (m slot : ℕ) → m < 8 → slot ≤ n → writes_within v slot (n - slot) m ≡ nat_lt slot (slice_index_or lasts m 0)
