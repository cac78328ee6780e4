use Rattle.page_table.proofs.Base.{nat_tests, arith}
use Rattle.page_table.proofs.Entries.{cost-is}
use Rattle.page_table.proofs.table.Table.costs_are_reported.Goals as goal

pub returns : goal.returns
returns c pass i = grind (arith, nat_tests, cost-is)
