use Rattle.page_table.proofs.Base.{arith, nat_tests, cost_from}
use Rattle.page_table.proofs.Unmerging.{cost_from-more}
use Rattle.page_table.proofs.table.Table.break_costs.Goals as goal

pub loop-number-init : goal.loop-number-init
unfolding cost_from
loop-number-init c = grind arith

pub loop-number-preserved : goal.loop-number-preserved
loop-number-preserved c = grind (arith, nat_tests, cost_from-more)
