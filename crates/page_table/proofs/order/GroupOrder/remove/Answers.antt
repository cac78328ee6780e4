use Rattle.page_table.proofs.Base.{arith, nat_tests, get_or_default, get_or_default}
use Rattle.page_table.proofs.Ending.{groups-emptied, slot-of-group, slot-of-group, slot-of-group}
use Rattle.page_table.proofs.order.GroupOrder.remove.Goals as goal

pub index-slot-requires : goal.index-slot-requires
index-slot-requires c = grind (arith, nat_tests, slot-of-group)

pub index_mut-requires : goal.index_mut-requires
index_mut-requires c = grind (arith, slot-of-group, get_or_default)

pub returns : goal.returns
returns c = grind (arith, slot-of-group, get_or_default, groups-emptied)
