use Rattle.std.proofs.Common.{ℕ, ◌<◌, get_or}
use Rattle.std.proofs.Common.{None}
use Rattle.verifier_kinds.specs.Kinds.{IsBelow}
use Rattle.verifier_kinds.proofs.description.are_registers_below.Given as goal

abbrev pub invariant-loop-i : goal.invariant-loop-i
invariant-loop-i l = (n : ℕ) → n < l.i → IsBelow (get_or l.a n None) (get_or l.b n None)
