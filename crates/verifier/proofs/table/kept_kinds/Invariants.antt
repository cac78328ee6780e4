use Rattle.verifier.specs.Pass.{HasPassed}
use Rattle.verifier.proofs.table.kept_kinds.Given as goal

abbrev pub invariant-loop-slot : goal.invariant-loop-slot
invariant-loop-slot l = HasPassed l.candidate l.pass l.slot
