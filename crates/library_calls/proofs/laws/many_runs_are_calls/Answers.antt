use Rattle.library_calls.proofs.Several.{many_runs_are_calls}
use Rattle.library_calls.proofs.laws.many_runs_are_calls.Goals as goal

pub returns : goal.returns
returns c = many_runs_are_calls
