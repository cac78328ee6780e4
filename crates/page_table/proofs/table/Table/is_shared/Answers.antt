use Rattle.page_table.proofs.Base.{nat_tests, arith}
use Rattle.page_table.proofs.Entries.{state-at}
use Rattle.page_table.proofs.table.Table.is_shared.Goals as goal

pub returns : goal.returns
returns c pass = grind (arith, nat_tests, state-at c.args.self.now pass c.args.page_index)
