use Rattle.page_table.proofs.Base.{arith, nat_tests}
use Rattle.page_table.proofs.Entries.{free_is}
use Rattle.page_table.proofs.memory.Memory.free.Goals as goal

pub returns : goal.returns
returns c = grind (arith, nat_tests, free_is)
