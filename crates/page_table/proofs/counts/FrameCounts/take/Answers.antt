use Rattle.page_table.proofs.Base.{arith, nat_tests}
use Rattle.page_table.proofs.Counting.{popped}
use Rattle.page_table.proofs.counts.FrameCounts.take.Goals as goal

pub index_mut-requires : goal.index_mut-requires
index_mut-requires c = grind (arith, nat_tests, popped c.self.inside.counts.items c.self.inside.unused.items c.pop.new.self.items c.in-Some.frame c.self.invariant.0 c.in-Some.ensures.items)
