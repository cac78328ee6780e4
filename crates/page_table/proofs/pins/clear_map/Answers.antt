use Rattle.page_table.proofs.Base.{arith, length-take-le, length-replicate, nat_tests, put_mid-with_part}
use Rattle.page_table.proofs.pins.clear_map.Goals as goal

pub returns : goal.returns
returns c = grind (arith, nat_tests, length-take-le, put_mid-with_part, length-replicate)
