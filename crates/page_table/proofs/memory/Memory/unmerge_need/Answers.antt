use Rattle.page_table.proofs.Base.{nat_tests, arith, view_of}
use Rattle.page_table.proofs.Creating.{length-states}
use Rattle.page_table.proofs.Unmerging.{all_cost}
use Rattle.page_table.proofs.memory.Memory.unmerge_need.Goals as goal

pub returns : goal.returns
unfolding view_of
returns c = grind (arith, nat_tests, all_cost, length-states)
