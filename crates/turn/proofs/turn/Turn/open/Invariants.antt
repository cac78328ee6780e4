use Rattle.std.proofs.Common.{◌≡◌, ℕ, ◌+◌, [], length, IfSome, slice_get}
use Rattle.turn.specs.Views.{new_view}
use Rattle.turn.specs.Seats.{IsNewSeat}
use Rattle.turn.proofs.turn.Turn.open.Given as goal

abbrev pub invariant-loop-tenant : goal.invariant-loop-tenant
invariant-loop-tenant l =
    (l.rest.table_id ≡ l.turn-inside.table.shared.table_id)
    × (l.rest.me ≡ (new_view l.tenant l.tenants l.fn.memory, []))
    × (length l.seats.items ≡ l.tenant)
    × ((t : ℕ) → IfSome (slice_get l.seats.items t) (IsNewSeat l.turn-inside.table.shared.table_id t (t + 1) l.fn.memory))
