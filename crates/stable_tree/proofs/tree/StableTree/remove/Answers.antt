use Rattle.std.proofs.Common.{arith}
use Rattle.stable_tree.proofs.Order.{take-removed, take-sorted, take-kept, take-moved}
use Rattle.stable_tree.proofs.tree.StableTree.remove.Goals as goal

pub moved-self-inside-requires-clause-chains : goal.moved-self-inside-requires-clause-chains
moved-self-inside-requires-clause-chains c = (take-moved c.self.invariant.1 c.take-before.ensures.taken (omega (arith, c.if-before-gt1.true))).one

pub moved-self-inside-requires-clause-groups : goal.moved-self-inside-requires-clause-groups
moved-self-inside-requires-clause-groups c = (take-moved c.self.invariant.1 c.take-before.ensures.taken (omega (arith, c.if-before-gt1.true))).other

pub invariant_of-self : goal.invariant_of-self
invariant_of-self c = (c.take-before.ensures.whole, rw c.moved-self-inside.ensures (take-moved c.self.invariant.1 c.take-before.ensures.taken (omega (arith, c.if-before-gt1.true))).answered)

pub invariant_of-self-else-before-gt1 : goal.invariant_of-self-else-before-gt1
invariant_of-self-else-before-gt1 c = (c.take-before.ensures.whole, take-kept c.self.invariant.1 c.take-before.ensures.taken (omega (arith, c.if-before-gt1.false)))

pub returns-then-before-gt1-clause-removed : goal.returns-then-before-gt1-clause-removed
returns-then-before-gt1-clause-removed c = rw (← c.self.view_is) (take-removed (rw (← c.self.view_is) at c.requires.sorted) c.take-before.ensures.taken)

pub returns-then-before-gt1-clause-sorted : goal.returns-then-before-gt1-clause-sorted
returns-then-before-gt1-clause-sorted c = take-sorted (rw (← c.self.view_is) at c.requires.sorted) c.take-before.ensures.taken

pub returns-else-before-gt1-clause-removed : goal.returns-else-before-gt1-clause-removed
returns-else-before-gt1-clause-removed c = rw (← c.self.view_is) (take-removed (rw (← c.self.view_is) at c.requires.sorted) c.take-before.ensures.taken)

pub returns-else-before-gt1-clause-sorted : goal.returns-else-before-gt1-clause-sorted
returns-else-before-gt1-clause-sorted c = take-sorted (rw (← c.self.view_is) at c.requires.sorted) c.take-before.ensures.taken
