use Rattle.page_table.proofs.Base.{arith, nat_tests, filter-append, take_at, take_at}
use Rattle.std.proofs.Common.{length-set}
use Rattle.page_table.proofs.order.GroupOrder.push.Goals as goal
use Rattle.page_table.proofs.Ending.{numbered-pushed, full}
use Rattle.page_table.proofs.order.GroupOrder.push.Goals.{Else-prove}

pub invariant_of-self : goal.invariant_of-self
invariant_of-self c = grind (arith, nat_tests, length-set, take_at, numbered-pushed)

pub returns : goal.returns
returns c = grind (arith, nat_tests, length-set, take_at, filter-append, full)
