use Rattle.interp.specs.Machine.{MachineState}
use Rattle.interp.specs.StandsFor.{StandsFor}
use Rattle.golden_compared.proofs.runs.ended.Given as goal

abbrev pub invariant-steps : goal.invariant-steps
invariant-steps l = (s : MachineState) × StandsFor l.program l.run s
