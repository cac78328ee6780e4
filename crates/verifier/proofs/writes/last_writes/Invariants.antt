use Rattle.verifier.specs.Table.{tight_table}
use Rattle.verifier.specs.Writes.{AreLastWrites}
use Rattle.verifier.proofs.writes.last_writes.Given as goal

abbrev pub invariant-loop-slot : goal.invariant-loop-slot
invariant-loop-slot l = AreLastWrites (record { subject = l.candidate; table = tight_table l.candidate }) l.slot l.lasts
