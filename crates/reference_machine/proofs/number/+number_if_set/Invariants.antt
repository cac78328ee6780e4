use Rattle.std.proofs.Common.{length}
use Rattle.reference_machine.proofs.number.+number_if_set.Given as goal

abbrev pub decreases-number_if_set : goal.decreases-number_if_set
decreases-number_if_set l = length l.bytes.now
