use Rattle.std.proofs.Common.{◌+◌, ◌*◌, ◌≤◌, length, arith}
use Rattle.stable_tree.specs.Digits.{digits}
use Rattle.stable_tree.specs.Slots.{tree_in, chains_in}
use Rattle.stable_tree.proofs.Contents.{whole-few}
use Rattle.stable_tree.proofs.Entering.{renoded_store, whole-taking}
use Rattle.stable_tree.proofs.Taking.{take-stays, out-nowhere, out-stays, out-tree_without}
use Rattle.stable_tree.proofs.store.take.Goals as goal
use Rattle.stable_tree.proofs.store.take.Goals.{After-take_out}

-- the tree is as low as its groups are few
few : (c : After-take_out) → c.take_out.new.arena.steps ≤ c.args.arena.now.steps + 2 * digits (length (chains_in c.args.store.now))
few c =
    let few = whole-few c.args.store.now c.args.store.now.free.items c.requires.whole in
    let answered = rw c.deref_mut.ensures.value at c.take_out.ensures.few in
    omega (arith, few, answered)

pub take_out-requires-clause-tree : goal.take_out-requires-clause-tree
take_out-requires-clause-tree c =
    (tree_in c.args.store.now, rw (c.deref_mut.ensures.value, c.deref.ensures.value) (whole-taking c.args.store.now c.args.store.now.free.items c.requires.whole c.args.arena.now.pages c.requires.sorted))

pub shorten-requires-clause-whole : goal.shorten-requires-clause-whole
shorten-requires-clause-whole c = (out-stays c.requires.whole c.requires.sorted (rw (c.deref_mut.ensures.value, c.deref.ensures.value, c.deref-2.ensures.value) at c.in-Stays.ensures.out)).whole

pub shorten-requires-clause-head : goal.shorten-requires-clause-head
shorten-requires-clause-head c = (out-stays c.requires.whole c.requires.sorted (rw (c.deref_mut.ensures.value, c.deref.ensures.value, c.deref-2.ensures.value) at c.in-Stays.ensures.out)).head

pub shorten-requires-clause-shared : goal.shorten-requires-clause-shared
shorten-requires-clause-shared c = (out-stays c.requires.whole c.requires.sorted (rw (c.deref_mut.ensures.value, c.deref.ensures.value, c.deref-2.ensures.value) at c.in-Stays.ensures.out)).shared

pub give_back-requires : goal.give_back-requires
give_back-requires c = (out-tree_without c.requires.whole c.requires.sorted (rw (c.deref_mut.ensures.value, c.deref.ensures.value, c.deref-2.ensures.value) at c.in-Out.ensures.out)).0

pub returns-in-Nowhere-clause-whole : goal.returns-in-Nowhere-clause-whole
returns-in-Nowhere-clause-whole c = (out-nowhere c.requires.whole c.requires.sorted (rw (c.deref_mut.ensures.value, c.deref.ensures.value) at c.in-Nowhere.ensures.out)).0

pub returns-in-Nowhere-clause-taken : goal.returns-in-Nowhere-clause-taken
returns-in-Nowhere-clause-taken c = (out-nowhere c.requires.whole c.requires.sorted (rw (c.deref_mut.ensures.value, c.deref.ensures.value) at c.in-Nowhere.ensures.out)).1

pub returns-in-Nowhere-clause-few : goal.returns-in-Nowhere-clause-few
returns-in-Nowhere-clause-few c = few (goal.at.returns-in-Nowhere-clause-few c).After-take_out

pub returns-in-Stays-clause-taken : goal.returns-in-Stays-clause-taken
returns-in-Stays-clause-taken c =
    let old = c.args.store.now in
    let is = out-stays c.requires.whole c.requires.sorted (rw (c.deref_mut.ensures.value, c.deref.ensures.value, c.deref-2.ensures.value) at c.in-Stays.ensures.out) in
    take-stays c.args.arena.now.pages c.args.frame old (renoded_store old c.take_out.new.nodes old.root) c.shorten.new.store c.in-Stays.at c.shorten.result c.requires.whole c.requires.sorted is.same is.found_is c.shorten.ensures.chains

pub returns-in-Stays-clause-few : goal.returns-in-Stays-clause-few
returns-in-Stays-clause-few c = few (goal.at.returns-in-Stays-clause-few c).After-take_out

pub returns-in-Out-clause-taken : goal.returns-in-Out-clause-taken
returns-in-Out-clause-taken c = (out-tree_without c.requires.whole c.requires.sorted (rw (c.deref_mut.ensures.value, c.deref.ensures.value, c.deref-2.ensures.value) at c.in-Out.ensures.out)).1 (chains_in c.give_back.new.store) c.give_back.ensures.chains

pub returns-in-Out-clause-few : goal.returns-in-Out-clause-few
returns-in-Out-clause-few c = few (goal.at.returns-in-Out-clause-few c).After-take_out
