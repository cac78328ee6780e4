use Rattle.page_table.proofs.Base.{arith, length-replicate, nat_tests}
use Rattle.page_table.proofs.Counting.{counted-none}
use Rattle.page_table.proofs.page_list.PageList.new.Goals as goal

pub invariant_of-result : goal.invariant_of-result
invariant_of-result c = grind (arith, nat_tests, counted-none c.args.page_indices, length-replicate)
