use Rattle.page_table.proofs.Base.{arith, nat_tests}
use Rattle.page_table.proofs.Unmerging.{need-answer, some_pass}
use Rattle.page_table.proofs.table.Table.unmerge_need.Goals as goal

pub overflow_sub-result : goal.overflow_sub-result
overflow_sub-result c = grind (arith, nat_tests, need-answer c.args.self.now c.facts.ensures.1.fits some_pass)

pub returns : goal.returns
returns c pass = grind (arith, nat_tests, need-answer)
