use Rattle.verifier_kinds.proofs.Refinement.{kept_is_normal}
use Rattle.verifier_kinds.proofs.branches.refined.Goals as goal

pub returns-clause-normal : goal.returns-clause-normal
returns-clause-normal c = rw c.kept_by.ensures (kept_is_normal c.if-taken.comparison c.args.a c.args.b c.requires.left c.requires.right)
