use Rattle.page_table.proofs.Base.{arith, nat_tests}
use Rattle.page_table.proofs.Creating.{filled_more, with_part-none, length-contents, length-states, filled_at}
use Rattle.page_table.proofs.tenant_maps.add_pages.Goals as goal

pub loop-number-init : goal.loop-number-init
loop-number-init c = grind (arith, nat_tests, with_part-none)

pub overflow_add-first : goal.overflow_add-first
overflow_add-first c = omega (arith, c.requires.there, c.requires.few, c.loop-number-test.true)

pub add-requires-clause-empty : goal.add-requires-clause-empty
add-requires-clause-empty c = grind (arith, nat_tests, length-contents, filled_at)

pub loop-number-preserved : goal.loop-number-preserved
loop-number-preserved c = grind (arith, nat_tests, length-contents, length-states, filled_more)
