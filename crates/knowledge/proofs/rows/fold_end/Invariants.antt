use Rattle.std.proofs.Common.{◌<◌, ◌≤◌, length}
use Rattle.knowledge.proofs.rows.fold_end.Given as goal

abbrev pub invariant-loop-slot : goal.invariant-loop-slot
invariant-loop-slot l = (l.first ≤ l.last) × (l.last < length l.slots)
