use Rattle.library_calls.proofs.Many.{many_runs_are_isolated}
use Rattle.library_calls.proofs.laws.many_runs_are_isolated.Goals as goal

pub returns : goal.returns
returns c = many_runs_are_isolated
