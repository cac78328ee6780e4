use Rattle.page_table.proofs.Base.{arith, nat_tests}
use Rattle.page_table.proofs.Unmerging.{no_page, some_pass}
use Rattle.page_table.proofs.Entries.{page_of_entry}
use Rattle.page_table.proofs.table.Table.take_out_at.Goals as goal

pub take_out-requires : goal.take_out-requires
take_out-requires c = grind (arith, nat_tests, page_of_entry c.args.self.now c.args.page_index, c.costs_are_reported.ensures some_pass c.args.page_index, c.requires.room some_pass)

pub returns-else-is_some-clause-sharing : goal.returns-else-is_some-clause-sharing
returns-else-is_some-clause-sharing c pass = grind (arith, nat_tests, no_page)

pub returns-else-is_some-clause-used : goal.returns-else-is_some-clause-used
returns-else-is_some-clause-used c pass = grind (arith, nat_tests, no_page c.args.self.now c.args.page_index c.entry.result pass)
