use Rattle.verifier_kinds.proofs.RowLaws.{ones_shifted}
use Rattle.verifier_kinds.proofs.rows.ones_from.Goals as goal

pub returns-in_default : goal.returns-in_default
returns-in_default c = ones_shifted c.args.n
