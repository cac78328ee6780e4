-- A held memory, and whose it is.
use Rattle.std.specs.Prelude.{◌≡◌}
use Rattle.std.specs.Borrow.{Lends, MutBor, Fml}
use Rattle.page_table.specs.State.{MemoryState}
use Rattle.turn.specs.declared.held.Held.{Held}
use Rattle.turn.specs.contracts.held.Held.{the_row}
use Rattle.page_table.specs.contracts.memory.Memory.{the_row as memory_row}
use Rattle.turn.specs.Seats.{SeatState, took}
use Rattle.turn.specs.Views.{HasMaps, RemembersParts}

-- the memory that is held
abbrev pub memory_of : Held → MemoryState
memory_of held = held.memory.value

-- it is this seat that holds the memory
abbrev pub IsBy : Held → SeatState → Type 0
IsBy held seat = (held.by.value.table_id ≡ seat.turn) × (held.by.value.id ≡ seat.id)

-- the seat took what is held, with the parts that it knows
abbrev pub IsTaken : SeatState → SeatState → Held → Type 0
IsTaken old new held =
    (new ≡ took old (memory_of held)) × IsBy held old × RemembersParts old.view (memory_of held) × HasMaps old.view (memory_of held)

-- the holder with another memory in place of its own
abbrev pub with_memory : Held → MemoryState → Held
with_memory held memory = record held { memory = record held.memory { value = memory } }

-- the holder ends with the last memory after the reference
abbrev pub LendsMemory : MutBor Held → MutBor MemoryState → Fml
LendsMemory held lent = Lends the_row memory_row held lent (with_memory held.now)
