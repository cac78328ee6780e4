use Rattle.page_table.specs.State.{part}
use Rattle.host_calls.proofs.ShapesRead.{AreRead}
use Rattle.host_calls.proofs.shapes.host_shapes.Given as goal

abbrev pub invariant-loop-map : goal.invariant-loop-map
invariant-loop-map l = AreRead l.shapes (part l.memory l.tenant).maps l.map
