use Rattle.turn.specs.Seats.{IsIdle}
use Rattle.golden_turns.proofs.turns.add_thousand.Given as goal

abbrev pub invariant-loop-turn : goal.invariant-loop-turn
invariant-loop-turn g l = IsIdle l.turn l.seat
