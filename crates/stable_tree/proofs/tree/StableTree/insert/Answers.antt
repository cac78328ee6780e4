use Rattle.std.proofs.Common.{arith}
use Rattle.stable_tree.proofs.Numbering.{chains-low}
use Rattle.stable_tree.proofs.Order.{put-inserted, put-sorted, put-kept, put-moved}
use Rattle.stable_tree.proofs.tree.StableTree.insert.Goals as goal

pub moved-self-inside-requires-clause-chains : goal.moved-self-inside-requires-clause-chains
moved-self-inside-requires-clause-chains c = (put-moved c.self.invariant.1 c.put-before.ensures.put (omega (arith, c.if-before-gt0.true))).one

pub moved-self-inside-requires-clause-groups : goal.moved-self-inside-requires-clause-groups
moved-self-inside-requires-clause-groups c = (put-moved c.self.invariant.1 c.put-before.ensures.put (omega (arith, c.if-before-gt0.true))).other

pub moved-self-inside-requires-clause-few_chains : goal.moved-self-inside-requires-clause-few_chains
moved-self-inside-requires-clause-few_chains c = let low = chains-low c.put-before.ensures.whole in let few = (put-moved c.self.invariant.1 c.put-before.ensures.put (omega (arith, c.if-before-gt0.true))).few in omega (arith, few, low)

pub moved-self-inside-requires-clause-few_groups : goal.moved-self-inside-requires-clause-few_groups
moved-self-inside-requires-clause-few_groups c = let low = chains-low c.put-before.ensures.whole in let fit = (put-moved c.self.invariant.1 c.put-before.ensures.put (omega (arith, c.if-before-gt0.true))).fit in omega (arith, fit, low)

pub invariant_of-self : goal.invariant_of-self
invariant_of-self c = (c.put-before.ensures.whole, rw c.moved-self-inside.ensures (put-moved c.self.invariant.1 c.put-before.ensures.put (omega (arith, c.if-before-gt0.true))).answered)

pub invariant_of-self-else-before-gt0 : goal.invariant_of-self-else-before-gt0
invariant_of-self-else-before-gt0 c = (c.put-before.ensures.whole, put-kept (rw (← c.self.view_is) at c.requires.sorted) c.self.invariant.1 c.put-before.ensures.put (omega (arith, c.if-before-gt0.false)))

pub returns-then-before-gt0-clause-inserted : goal.returns-then-before-gt0-clause-inserted
returns-then-before-gt0-clause-inserted c = rw (← c.self.view_is) (put-inserted (rw (← c.self.view_is) at c.requires.sorted) c.put-before.ensures.put)

pub returns-then-before-gt0-clause-sorted : goal.returns-then-before-gt0-clause-sorted
returns-then-before-gt0-clause-sorted c = put-sorted (rw (← c.self.view_is) at c.requires.sorted) c.requires.frame (rw (← c.self.view_is) at c.requires.new) c.put-before.ensures.put

pub returns-else-before-gt0-clause-inserted : goal.returns-else-before-gt0-clause-inserted
returns-else-before-gt0-clause-inserted c = rw (← c.self.view_is) (put-inserted (rw (← c.self.view_is) at c.requires.sorted) c.put-before.ensures.put)

pub returns-else-before-gt0-clause-sorted : goal.returns-else-before-gt0-clause-sorted
returns-else-before-gt0-clause-sorted c = put-sorted (rw (← c.self.view_is) at c.requires.sorted) c.requires.frame (rw (← c.self.view_is) at c.requires.new) c.put-before.ensures.put
