use Rattle.std.proofs.Common.{arith}
use Rattle.stable_tree.specs.Slots.{tree_in}
use Rattle.stable_tree.proofs.Contents.{whole-searched, whole-few}
use Rattle.stable_tree.proofs.Entering.{answer-of}
use Rattle.stable_tree.proofs.store.find.Goals as goal

pub find-requires-clause-tree : goal.find-requires-clause-tree
find-requires-clause-tree c =
    (tree_in c.args.store.now, rw (c.deref.ensures.value, c.deref-2.ensures.value) (whole-searched c.args.arena.now.pages c.args.store.now c.args.store.now.free.items c.requires.whole c.requires.sorted))

pub returns-clause-found : goal.returns-clause-found
returns-clause-found c =
    answer-of c.args.arena.now.pages c.args.store.now c.args.store.now.free.items c.requires.whole c.requires.sorted c.args.frame c.find.result
    (rw c.deref-2.ensures.value at (c.find.ensures.slot (tree_in c.args.store.now)
    (rw (c.deref.ensures.value, c.deref-2.ensures.value) (whole-searched c.args.arena.now.pages c.args.store.now c.args.store.now.free.items c.requires.whole c.requires.sorted))))

pub returns-clause-few : goal.returns-clause-few
returns-clause-few c =
    let few = whole-few c.args.store.now c.args.store.now.free.items c.requires.whole in
    let answered = rw c.deref.ensures.value at c.find.ensures.few in
    omega (arith, few, answered)
