use Rattle.tenant_workers.proofs.Driven.{is_fresh}
use Rattle.tenant_workers.proofs.shared.Shared.run_program.Goals as goal

pub run-requires-clause-fresh : goal.run-requires-clause-fresh
run-requires-clause-fresh g c = record {
  begun = is_fresh c.args.program.now c.args.context.now c.in-Ok.run'.context c.in-Ok.run' c.in-Ok.ensures.begun c.in-Ok.ensures.context;
  steps = c.in-Ok.ensures.steps;
}
