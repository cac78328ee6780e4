use Rattle.verifier_kinds.proofs.Operands.{all_is_normal}
use Rattle.verifier_kinds.proofs.rows.taken.Goals as goal

pub returns-else-range-greatest-clause-normal : goal.returns-else-range-greatest-clause-normal
returns-else-range-greatest-clause-normal c = rw (c.normalized.ensures, c.all.ensures) (all_is_normal c.args.width c.args.range.align)
