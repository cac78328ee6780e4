use Rattle.verifier.proofs.Described.{refusal_leaves_none}
use Rattle.verifier.proofs.Raised.{raised_stays_lawful}
use Rattle.verifier.proofs.Readings.{refusal_leaves_no_reading}
use Rattle.verifier.proofs.laws.refusal_leaves_none.Goals as goal

pub returns : goal.returns
returns c = record { lawful = refusal_leaves_none; raised = raised_stays_lawful; reading = refusal_leaves_no_reading }
