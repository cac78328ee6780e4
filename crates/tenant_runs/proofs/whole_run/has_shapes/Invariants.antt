use Rattle.page_table.specs.State.{part}
use Rattle.verifier.specs.Named.{named_shapes}
use Rattle.tenant_runs.proofs.Shapes.{HaveFirst}
use Rattle.tenant_runs.proofs.whole_run.has_shapes.Given as goal

abbrev pub invariant-loop-map : goal.invariant-loop-map
invariant-loop-map l = HaveFirst (named_shapes l.program.subject) (part l.memory l.tenant).maps l.map
