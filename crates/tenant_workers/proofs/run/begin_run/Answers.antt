use Rattle.std.proofs.lemmas.Result.{on_ok_weaker}
use Rattle.tenant_workers.proofs.run.begin_run.Goals as goal

pub returns-clause-shapes : goal.returns-clause-shapes
returns-clause-shapes c = on_ok_weaker c.host_begin.result (λ enough. c.has_shapes.ensures.0 c.if-not-has_shapes.false) c.host_begin.ensures.enough
