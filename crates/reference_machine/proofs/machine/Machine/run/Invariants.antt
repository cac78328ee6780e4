use Rattle.interp.specs.Machine.{Next}
use Rattle.interp.specs.Runs.{Reaches}
use Rattle.reference_machine.proofs.machine.Machine.run.Given as goal

abbrev pub invariant-loop-steps : goal.invariant-loop-steps
invariant-loop-steps l = Reaches l.text l.fn.self l.steps (Next l.self)
