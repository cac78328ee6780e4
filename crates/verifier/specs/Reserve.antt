-- How many frames the rest of a run may need: each store through a pointer to a map's value and each
-- update may break pages that share frames (this project's own rule).
use Rattle.std.specs.Prelude.{◌≡◌, ℕ, zero, suc, ◌+◌, ◌-◌, List, slice_index_or, Option, Some, option_map, unwrap_or}
use Rattle.host_types.specs.declared.helper.MapHelper.{MapHelper}
use Rattle.host_types.specs.declared.helper.MapHelper.TheVariants.{Update}
use Rattle.host_types.specs.Helpers.{helper_of, update_charge}
use Rattle.bpf_decode.specs.declared.operation.Operation.{Operation}
use Rattle.bpf_decode.specs.declared.operation.Operation.TheVariants.{Store, Call}
use Rattle.bpf_decode.specs.Opcodes.{operation_of, sign_extended}
use Rattle.bpf_decode.specs.Text.{insn_at, slots_of}
use Rattle.verifier_kinds.specs.declared.kind.Kind.{Kind}
use Rattle.verifier_kinds.specs.declared.kind.Kind.TheVariants.{MapValue, MapName}
use Rattle.verifier_kinds.specs.Kinds.{shape_at}
use Rattle.verifier.specs.Subject.{Subject}
use Rattle.verifier.specs.Table.{Table}
use Rattle.verifier.specs.Verified.{Accepted, kind_at}

-- a store through a pointer to a map's value writes to one page
abbrev pub store_cost : Option Kind → ℕ
store_cost (Some (MapValue m offsets)) = 1
store_cost base = 0

-- an update writes a value, which lies in one page or in two
abbrev pub update_cost : Subject → Option Kind → ℕ
update_cost p (Some (MapName m)) = unwrap_or (option_map update_charge (shape_at p.shapes m)) 0
update_cost p name = 0

-- of the helpers only an update writes
abbrev pub call_cost : Subject → Option MapHelper → Option Kind → ℕ
call_cost p (Some Update) name = update_cost p name
call_cost p helper name = 0

-- what an operation may need at a slot of a table
abbrev pub cost_by : Subject → Table → ℕ → Option Operation → ℕ
cost_by p table slot (Some (Store size source)) = store_cost (kind_at table slot (insn_at p.text slot).dst)
cost_by p table slot (Some Call) = call_cost p (helper_of (sign_extended (insn_at p.text slot).imm)) (kind_at table slot 1)
cost_by p table slot operation = 0

-- what the instruction at a slot may need; a slot that isn't reached needs nothing, as nothing is known
-- there
unfoldable pub cost_at : Accepted → ℕ → ℕ
cost_at v slot = cost_by v.subject v.table slot (operation_of (insn_at v.subject.text slot).opcode)

-- what the next n slots may need
unfoldable pub costs_from : Accepted → ℕ → ℕ → ℕ
costs_from v slot zero = 0
costs_from v slot (suc n) = cost_at v slot + costs_from v (suc slot) n

-- what the rest of a program may need from a slot on
abbrev pub reserve_from : Accepted → ℕ → ℕ
reserve_from v slot = costs_from v slot (slots_of v.subject.text - slot)

-- what is kept for the slots of a program is their reserves, and after the text 0
abbrev pub AreReserves : Accepted → List ℕ → Type 0
AreReserves v reserves = (slot : ℕ) → slice_index_or reserves slot 0 ≡ reserve_from v slot
