use Rattle.page_table.proofs.Base.{arith, nat_tests}
use Rattle.page_table.proofs.Entries.{cost-counted}
use Rattle.page_table.proofs.table.Table.break_cost.Goals as goal

pub returns : goal.returns
returns c = grind (arith, nat_tests, cost-counted _ c.self.inside.counts c.args.page_index c.page-entry.result c.self.invariant.0)
