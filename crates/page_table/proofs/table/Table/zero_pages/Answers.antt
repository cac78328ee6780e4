use Rattle.page_table.proofs.Base.{arith, nat_tests}
use Rattle.page_table.proofs.Moving.{pages_on-le}
use Rattle.page_table.proofs.table.Table.zero_pages.Goals as goal

pub returns-clause-few : goal.returns-clause-few
returns-clause-few c = grind (arith, nat_tests, pages_on-le 0 c.self.inside.entries)
