use Rattle.std.proofs.Common.{take}
use Rattle.engines.specs.Check.{AreShapeWords}
use Rattle.engines.proofs.check.request.shapes_of.Given as goal

-- the shapes so far are those of the words so far
abbrev pub invariant-loop-word : goal.invariant-loop-word
invariant-loop-word l = AreShapeWords (take l.word-index l.words) l.shapes.items
