use Rattle.std.proofs.Common.{◌≤◌, ◌-◌, length}
use Rattle.unstable_tree.specs.WaitingList.{AreOthers}
use Rattle.unstable_tree.proofs.tree.without.Given as goal

-- no page before the index has the fingerprint
abbrev pub invariant-loop-at : goal.invariant-loop-at
invariant-loop-at l = (l.at ≤ length l.waiters) × AreOthers l.fingerprint l.waiters 0 l.at

abbrev pub decreases-loop-at : goal.decreases-loop-at
decreases-loop-at l = length l.waiters - l.at
