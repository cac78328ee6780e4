use Rattle.std.proofs.Common.{◌≡◌, length}
use Rattle.inlining.proofs.whole.unchanged.Given as goal

abbrev pub invariant-loop-slot : goal.invariant-loop-slot
invariant-loop-slot l = length l.origins.items ≡ l.slot
