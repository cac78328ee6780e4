use Rattle.library_calls.proofs.Isolated.{calls_are_isolated}
use Rattle.library_calls.proofs.laws.calls_are_isolated.Goals as goal

pub returns : goal.returns
returns c = calls_are_isolated
