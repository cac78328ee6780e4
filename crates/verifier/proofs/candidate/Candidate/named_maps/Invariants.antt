use Rattle.verifier.specs.Named.{AreNamed}
use Rattle.verifier.proofs.candidate.Candidate.named_maps.Given as goal

abbrev pub invariant-loop-slot : goal.invariant-loop-slot
invariant-loop-slot l = AreNamed l.self.text l.slot l.named
