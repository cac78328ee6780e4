use Rattle.std.proofs.Common.{◌≤◌, ◌-◌, length}
use Rattle.unstable_tree.specs.WaitingList.{AreElsewhere}
use Rattle.unstable_tree.proofs.tree.waits.Given as goal

-- no page before the index is the one
abbrev pub invariant-loop-at : goal.invariant-loop-at
invariant-loop-at l = (l.at ≤ length l.waiters) × AreElsewhere l.page_index l.waiters 0 l.at

abbrev pub decreases-loop-at : goal.decreases-loop-at
decreases-loop-at l = length l.waiters - l.at
