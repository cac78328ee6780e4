use Rattle.std.proofs.Common.{arith}
use Rattle.verifier.proofs.table.kept_kinds.Goals as goal

pub returns-clause-clean : goal.returns-clause-clean
returns-clause-clean c s rule h b = c.loop-slot.invariant.clean s rule (omega (arith, c.slots-slot-end.ensures.number, h)) b
