use Rattle.page_table.proofs.Base.{nat_tests, arith}
use Rattle.page_table.proofs.Reading.{is_page_at}
use Rattle.page_table.proofs.Merging.{cost_reported}
use Rattle.page_table.proofs.memory.Memory.break_cost.Goals as goal

pub break_cost-requires : goal.break_cost-requires
break_cost-requires c = grind (arith, nat_tests, is_page_at)

pub returns : goal.returns
returns c = grind (arith, nat_tests, cost_reported)
