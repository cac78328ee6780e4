use Rattle.page_table.proofs.Base.{nat_tests, arith, part}
use Rattle.page_table.proofs.memory.Memory.record.Goals as goal

pub returns-clause-all : goal.returns-clause-all
unfolding part
returns-clause-all c = grind (arith, nat_tests)
