use Rattle.verifier.specs.Verified.{AreShapes}
use Rattle.golden_compared.proofs.shapes.shapes_of.Given as goal

abbrev pub invariant-loop-text : goal.invariant-loop-text
invariant-loop-text l = AreShapes l.shapes.items
