use Rattle.object_file.specs.Programs.{AreTextsOf}
use Rattle.object_file.proofs.program.texts_of.Given as goal

abbrev pub invariant-loop-number : goal.invariant-loop-number
invariant-loop-number l = AreTextsOf l.tables.object.bytes.now l.texts.items
