use Rattle.std.proofs.Common.{refl}
use Rattle.reference_machine.proofs.machine.Machine.start.Goals as goal

pub returns : goal.returns
returns c = rw c.new.ensures refl
