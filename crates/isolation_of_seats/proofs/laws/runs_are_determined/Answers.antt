use Rattle.isolation_of_seats.proofs.Determined.{runs_are_determined}
use Rattle.isolation_of_seats.proofs.laws.runs_are_determined.Goals as goal

pub returns : goal.returns
returns c = runs_are_determined
