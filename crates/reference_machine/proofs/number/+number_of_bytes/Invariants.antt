use Rattle.std.proofs.Common.{length}
use Rattle.reference_machine.proofs.number.+number_of_bytes.Given as goal

abbrev pub decreases-number_of_bytes : goal.decreases-number_of_bytes
decreases-number_of_bytes l = length l.bytes.now
