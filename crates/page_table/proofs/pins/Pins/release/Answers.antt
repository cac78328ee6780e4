use Rattle.page_table.proofs.Base.{arith, get_or_default, nat_tests}
use Rattle.page_table.proofs.Unpinning.{pins-none}
use Rattle.page_table.proofs.pins.Pins.release.Goals as goal

pub returns-else-index-gt0 : goal.returns-else-index-gt0
returns-else-index-gt0 c = grind (arith, nat_tests, get_or_default, pins-none)
