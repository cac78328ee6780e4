use Rattle.page_table.proofs.Base.{arith, nat_tests}
use Rattle.page_table.proofs.Creating.{tenant_inside}
use Rattle.page_table.proofs.Recording.{free_number_reported}
use Rattle.page_table.proofs.memory.Memory.free_number.Goals as goal

pub shapes_from-requires : goal.shapes_from-requires
shapes_from-requires c = grind (arith, nat_tests, tenant_inside)

pub returns-in_err-number-clause-first : goal.returns-in_err-number-clause-first
returns-in_err-number-clause-first c = grind (arith, nat_tests, free_number_reported)

pub returns-clause-first : goal.returns-clause-first
returns-clause-first c = grind (arith, nat_tests, free_number_reported)
