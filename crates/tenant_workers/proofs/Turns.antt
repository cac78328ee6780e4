-- Turns that a seat made, one after the other.
use Rattle.std.proofs.Common.{[], ◌∷◌, ◌++◌, append_assoc, append-nil, ap, sym, ◌∙◌}
use Rattle.page_table.specs.State.{MemoryState}
use Rattle.turn.specs.Seats.{SeatState}
use Rattle.tenant_workers.specs.Calls.{HasChanged, HasGoneOn}

-- none
pub gone_nowhere : (seat : SeatState) → HasGoneOn seat seat
gone_nowhere seat = record { more = []; made = sym (append-nil seat.view.turns) }

-- one
pub gone_once : (changed : MemoryState → MemoryState → Type 0) (old new : SeatState) → HasChanged changed old new → HasGoneOn old new
gone_once changed old new turn = record { more = (turn.taken, new.view.seen) ∷ []; made = turn.made }

-- some, and then some more
pub gone_further : (first middle last : SeatState) → HasGoneOn first middle → HasGoneOn middle last → HasGoneOn first last
gone_further first middle last early late = record {
  more = early.more ++ late.more;
  made = late.made ∙ ap (λ turns. turns ++ late.more) early.made ∙ append_assoc first.view.turns early.more late.more;
}
