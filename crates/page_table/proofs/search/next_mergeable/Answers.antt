use Rattle.page_table.proofs.Base.{◌+◌, ◌*◌, arith, nat_tests, states_of, next-none}
use Rattle.page_table.proofs.Creating.{length-contents, length-states}
use Rattle.page_table.proofs.Partners.{next-over}
use Rattle.page_table.proofs.search.next_mergeable.Goals as goal

pub loop-index-preserved : goal.loop-index-preserved
loop-index-preserved c = grind (arith, nat_tests, next-over (states_of c.args.table.now.entries) c.loop-index.at ((c.loop-index.index + 1) * 256))

pub returns : goal.returns
returns c = grind (arith, nat_tests, length-contents, length-states, next-none)
