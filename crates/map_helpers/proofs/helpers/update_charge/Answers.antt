use Rattle.std.proofs.Common.{subst, sym}
use Rattle.map_helpers.specs.Updates.{IsEnough}
use Rattle.map_helpers.proofs.Updates.{charge-enough}
use Rattle.map_helpers.proofs.helpers.update_charge.Goals as goal

pub returns-clause-enough : goal.returns-clause-enough
returns-clause-enough c = subst (IsEnough c.args.shape) (sym c.update_charge.ensures) (charge-enough c.args.shape c.requires)
