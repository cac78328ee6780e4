use Rattle.library_calls.proofs.Several.{events_are_calls}
use Rattle.library_calls.proofs.laws.events_are_calls.Goals as goal

pub returns : goal.returns
returns c = events_are_calls
