use Rattle.std.proofs.Common.{ℕ, List}
use Rattle.object_file.specs.Programs.{IsTextOf}
use Rattle.object_file.proofs.text.add_calls.Given as goal

abbrev pub invariant-loop-slot : goal.invariant-loop-slot
invariant-loop-slot l = (file : List ℕ) → IsTextOf file l.initial.text → IsTextOf file l.text
