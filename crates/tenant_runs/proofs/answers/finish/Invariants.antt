use Rattle.std.proofs.Common.{◌-◌}
use Rattle.bpf_decode.specs.Text.{instructions_of}
use Rattle.tenant_runs.proofs.Finishing.{IsFinishing}
use Rattle.tenant_runs.proofs.answers.finish.Given as goal

abbrev pub decreases-loop-ret : goal.decreases-loop-ret
decreases-loop-ret l = instructions_of l.program.subject.text - l.run.steps

abbrev pub invariant-loop-ret : goal.invariant-loop-ret
invariant-loop-ret l = IsFinishing l.program l.tenant l.fn.memory l.fn.run l.memory l.run
