use Rattle.stable_tree.proofs.Counting.{none-yet}
use Rattle.stable_tree.proofs.tree.StableTree.new.Goals as goal

pub invariant_of-result : goal.invariant_of-result
invariant_of-result c = (c.new.ensures.whole, rw c.new.ensures.chains none-yet)
