use Rattle.std.proofs.Common.{rules, ◌≡◌, ℕ, ◌+◌, List, [], ◌∷◌, ◌++◌, length, IfSome, slice_get, sym, subst}
use Rattle.turn.specs.Seats.{SeatState, IsNewSeat}
use Rattle.turn.proofs.SeatLists.{each_push}
use Rattle.turn.proofs.turn.Turn.open.Goals as goal

pub loop-tenant-preserved : goal.loop-tenant-preserved
loop-tenant-preserved c =
    let seats = c.loop-tenant.seats.items in
    let pushed : c.push.new.self.items ≡ seats ++ c.cut_tenant.result ∷ [] = search rules in
    let P : ℕ → SeatState → Type 0 = λ t. IsNewSeat c.turn.inside.table.shared.table_id t (t + 1) c.args.memory in
    let here : P (length seats) c.cut_tenant.result = search rules in (
      search rules,
      search rules,
      search rules,
      subst (λ (items : List SeatState). (t : ℕ) → IfSome (slice_get items t) (P t)) (sym pushed) (each_push P seats c.cut_tenant.result c.loop-tenant.invariant.3 here),
    )
