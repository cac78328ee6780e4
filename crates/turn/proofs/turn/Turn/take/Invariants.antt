use Rattle.std.proofs.Common.{◌≡◌}
use Rattle.turn.proofs.turn.Turn.take.Given as goal

abbrev pub invariant-loop : goal.invariant-loop
invariant-loop g l = l.seat ≡ l.fn.seat
