use Rattle.std.proofs.Common.{◌≤◌, length}
use Rattle.knowledge.specs.Rows.{AreRows}
use Rattle.knowledge.proofs.rows.rows_of.Given as goal

abbrev pub invariant-loop-slot : goal.invariant-loop-slot
invariant-loop-slot l = AreRows l.rows.items 0 l.next × (l.slot ≤ l.next) × (l.next ≤ length l.slots)
