use Rattle.std.proofs.Common.{arith}
use Rattle.tenant_runs.proofs.Finishing.{steps_below}
use Rattle.tenant_workers.proofs.Driven.{further_on}
use Rattle.tenant_workers.proofs.steps.go_on.Goals as goal

pub returns-then-is_open-clause-further : goal.returns-then-is_open-clause-further
returns-then-is_open-clause-further g c =
    let (s, stands) = c.requires.running in
    let below = steps_below c.args.program.now c.args.run.now s c.facts.ensures stands in
    let some = c.instructions.ensures in
    further_on c.args.program.now c.args.run.now c.advance.new.self c.advance.result c.instructions.result c.requires.running c.advance.ensures.follows c.advance.ensures.all (omega (arith, some, below))
