use Rattle.knowledge.specs.Knowledge.{HasFlowed}
use Rattle.knowledge.proofs.knowledge.Knowledge.of.Given as goal

abbrev pub invariant-loop-slot : goal.invariant-loop-slot
invariant-loop-slot l = HasFlowed l.candidate l.slots.items l.slot
