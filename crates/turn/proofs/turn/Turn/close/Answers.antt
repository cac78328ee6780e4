use Rattle.std.proofs.Common.{rules, ap, subst}
use Rattle.turn.specs.Views.{SeatView, RemembersParts}
use Rattle.turn.specs.Seats.{SeatState}
use Rattle.turn.proofs.Keeps.{closes}
use Rattle.turn.proofs.turn.Turn.close.Goals as goal

pub returns : goal.returns
returns c =
    let known = closes _ c.seat.inside.token.me.0 _ _ c.into_inner.result c.close_with-closed.ensures.values.2 (search rules) (search rules) in
    subst (λ (view : SeatView). RemembersParts view c.into_inner.result) (ap (λ (seat : SeatState). seat.view) c.seat.view_is) known
