use Rattle.std.proofs.Common.{ℕ, List}
use Rattle.object_file.specs.Programs.{IsTextOf}
use Rattle.object_file.proofs.text.relocate_by.Given as goal

abbrev pub invariant-loop-number : goal.invariant-loop-number
invariant-loop-number l = (file : List ℕ) → IsTextOf file l.initial.text → IsTextOf file l.text
