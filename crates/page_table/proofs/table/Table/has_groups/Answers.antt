use Rattle.page_table.proofs.Base.{nat_tests, arith}
use Rattle.page_table.proofs.Trees.{tree-length}
use Rattle.page_table.proofs.table.Table.has_groups.Goals as goal

pub returns : goal.returns
returns c = grind (arith, nat_tests, tree-length)
