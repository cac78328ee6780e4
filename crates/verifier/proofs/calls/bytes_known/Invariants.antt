use Rattle.std.proofs.Common.{◌≡◌}
use Rattle.verifier.specs.Flow.{bytes_known}
use Rattle.verifier.proofs.calls.bytes_known.Given as goal

abbrev pub invariant-loop-i : goal.invariant-loop-i
invariant-loop-i l = l.known ≡ bytes_known l.d l.at l.i
