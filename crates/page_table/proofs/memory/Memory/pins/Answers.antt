use Rattle.page_table.proofs.Base.{nat_tests, arith, view_of}
use Rattle.page_table.proofs.Reading.{is_page_at}
use Rattle.page_table.proofs.memory.Memory.pins.Goals as goal

pub is_shared-requires : goal.is_shared-requires
is_shared-requires c = grind (arith, nat_tests, is_page_at)

pub returns-then-is_asked : goal.returns-then-is_asked
unfolding view_of
returns-then-is_asked c = grind (arith, nat_tests, c.is_shared.ensures c.self.inside.pass)
