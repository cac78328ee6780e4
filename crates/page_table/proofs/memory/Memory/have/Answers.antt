use Rattle.page_table.proofs.Base.{arith, nat_tests, view_of}
use Rattle.page_table.proofs.Entries.{free_is}
use Rattle.page_table.proofs.memory.Memory.have.Goals as goal

pub overflow_sub-result : goal.overflow_sub-result
overflow_sub-result c = grind (arith, nat_tests, free_is)

pub returns : goal.returns
unfolding view_of
returns c = grind (arith, nat_tests)
