use Rattle.reference_machine.proofs.Copies.{AreCopied}
use Rattle.reference_machine.proofs.number.copy_if_set.Given as goal

abbrev pub invariant-loop-at : goal.invariant-loop-at
invariant-loop-at l = AreCopied l.bytes l.values l.at
