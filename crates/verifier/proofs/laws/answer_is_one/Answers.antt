use Rattle.verifier.proofs.Uniqueness.{one_refusal, one_table, refusal_excludes}
use Rattle.verifier.proofs.laws.answer_is_one.Goals as goal

pub returns : goal.returns
returns c = record { refusal = one_refusal; table = one_table; exclusive = refusal_excludes }
