use Rattle.std.proofs.Common.{ℕ, ◌<◌}
use Rattle.inlining.specs.Whole.{CallsNoFunction}
use Rattle.inlining.proofs.whole.is_whole.Given as goal

abbrev pub invariant-loop-slot : goal.invariant-loop-slot
invariant-loop-slot l = (k : ℕ) → k < l.slot → CallsNoFunction l.text k
