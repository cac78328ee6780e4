use Rattle.verifier.proofs.Written.{writes_fall, writes_here}
use Rattle.verifier.proofs.laws.writes_fall.Goals as goal

pub returns : goal.returns
returns c = record { falls = writes_fall; here = writes_here }
