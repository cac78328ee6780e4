use Rattle.std.proofs.Common.{◌≡◌}
use Rattle.turn.proofs.turn.Turn.take_soon.Given as goal

abbrev pub invariant-loop-pauses : goal.invariant-loop-pauses
invariant-loop-pauses g l = l.seat ≡ l.fn.seat
