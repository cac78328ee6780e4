-- A seat as its holder sees it.
use Rattle.std.specs.Prelude.{◌≡◌, ◌≢◌, ℕ, length, Bool, false, List, [], ◌∷◌, Option, None, if◌then◌else◌}
use Rattle.atomic_table.specs.Seated.{TableId}
use Rattle.host_types.specs.Tenant.{TenantPart}
use Rattle.page_table.specs.State.{MemoryState, part}
use Rattle.host_types.specs.declared.fault.Fault.{Fault}
use Rattle.host_types.specs.declared.fault.Fault.TheVariants.{BadShape, OutOfMemory}
use Rattle.turn.specs.Views.{SeatView, new_view, holding, resting}

-- the turn that the seat belongs to, its number there, and what it knows
pub record SeatState : Type 0 where
  pub turn : TableId
  pub id : ℕ
  pub view : SeatView

-- what a tenant's seat knows: the part of its tenant
abbrev pub own_part : SeatState → TenantPart
own_part seat = part seat.view.seen seat.view.first

-- the seat belongs to the turn, and holds nothing
abbrev pub IsIdle : TableId → SeatState → Type 0
IsIdle turn seat = (seat.turn ≡ turn) × (seat.view.holds ≡ false)

-- the seat after a take that won a memory
abbrev pub took : SeatState → MemoryState → SeatState
took seat memory = record seat { view = holding seat.view memory }

-- the seat after it gave a memory
abbrev pub gave : SeatState → MemoryState → SeatState
gave seat memory = record seat { view = resting seat.view memory }

-- the slots that a seat has out: the memory's, which is empty then, where it holds
abbrev pub slots_out : Bool → List (ℕ × Option MemoryState)
slots_out holds = if holds then (0, None) ∷ [] else []

-- a new seat of a turn: it holds nothing, and knows its tenants' parts of the memory
abbrev pub IsNewSeat : TableId → ℕ → ℕ → MemoryState → SeatState → Type 0
IsNewSeat turn first end memory seat = (seat.turn ≡ turn) × (seat.view ≡ new_view first end memory)

-- when a new turn is refused: the first refusal, in this order, whose condition holds
abbrev pub RefusesTurn : MemoryState → ℕ → Fault → Type 0
RefusesTurn memory tenants BadShape = tenants ≢ length memory.tenants
RefusesTurn memory tenants OutOfMemory = tenants ≡ length memory.tenants
RefusesTurn memory tenants _ = ⊥
