use Rattle.std.proofs.Common.{◌≡◌}
use Rattle.verifier.specs.Named.{names_before}
use Rattle.verifier.proofs.candidate.Candidate.names.Given as goal

abbrev pub invariant-loop-slot : goal.invariant-loop-slot
invariant-loop-slot l = l.named ≡ names_before l.self.text l.map l.slot
