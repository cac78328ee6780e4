use Rattle.std.proofs.Common.{◌+◌, ◌*◌, ◌≤◌, ◌∷◌, length, sym, ap, subst, arith}
use Rattle.stable_tree.specs.Digits.{digits}
use Rattle.stable_tree.specs.Groups.{IsSorted}
use Rattle.stable_tree.specs.Slots.{tree_in, chains_in}
use Rattle.stable_tree.proofs.Contents.{whole-few}
use Rattle.stable_tree.proofs.Entering.{renoded_store, whole-growing}
use Rattle.stable_tree.proofs.Putting.{put-there, put-new, put-lengthened}
use Rattle.stable_tree.proofs.store.put.Goals as goal
use Rattle.stable_tree.proofs.store.put.Goals.{After-enter}

-- the tree is as low as its groups are few
few : (c : After-enter) → c.enter.new.arena.steps ≤ c.args.arena.now.steps + 2 * digits (length (chains_in c.args.store.now))
few c =
    let few = whole-few c.slot-slot.new.store (c.slot-slot.result ∷ c.slot-slot.new.store.free.items) c.slot-slot.ensures.whole in
    let same = ap (λ chains. digits (length chains)) c.slot-slot.ensures.chains in
    let answered = rw c.deref_mut.ensures.value at c.enter.ensures.few in
    omega (arith, few, same, answered)

pub enter-requires-clause-tree : goal.enter-requires-clause-tree
enter-requires-clause-tree c =
    let mid = c.slot-slot.new.store in
    let sorted = subst (IsSorted c.args.arena.now.pages) (sym c.slot-slot.ensures.chains) c.requires.sorted in
    (tree_in mid, rw (c.deref_mut.ensures.value, c.deref.ensures.value) (whole-growing mid c.slot-slot.result mid.free.items c.slot-slot.ensures.whole c.args.arena.now.pages sorted))

pub lengthen-requires-clause-whole : goal.lengthen-requires-clause-whole
lengthen-requires-clause-whole c =
    let sorted = subst (IsSorted c.args.arena.now.pages) (sym c.slot-slot.ensures.chains) c.requires.sorted in
    let is = put-there c.slot-slot.ensures.whole sorted c.slot-slot.ensures.framed (rw (c.deref_mut.ensures.value, c.deref.ensures.value) at c.in-There.ensures.entry) in
    is.whole

pub lengthen-requires-clause-head : goal.lengthen-requires-clause-head
lengthen-requires-clause-head c =
    let sorted = subst (IsSorted c.args.arena.now.pages) (sym c.slot-slot.ensures.chains) c.requires.sorted in
    let is = put-there c.slot-slot.ensures.whole sorted c.slot-slot.ensures.framed (rw (c.deref_mut.ensures.value, c.deref.ensures.value) at c.in-There.ensures.entry) in
    is.head

pub returns-in-There-clause-put : goal.returns-in-There-clause-put
returns-in-There-clause-put c =
    let mid = c.slot-slot.new.store in
    let sorted = subst (IsSorted c.args.arena.now.pages) (sym c.slot-slot.ensures.chains) c.requires.sorted in
    let is = put-there c.slot-slot.ensures.whole sorted c.slot-slot.ensures.framed (rw (c.deref_mut.ensures.value, c.deref.ensures.value) at c.in-There.ensures.entry) in
    rw (← c.slot-slot.ensures.chains)
    (put-lengthened c.args.arena.now.pages c.args.frame mid (renoded_store mid c.enter.new.nodes mid.root) c.lengthen.new.store c.slot-slot.result c.in-There.at c.lengthen.result c.slot-slot.ensures.whole sorted c.slot-slot.ensures.framed is.same is.found_is c.lengthen.ensures.chains)

pub returns-in-There-clause-few : goal.returns-in-There-clause-few
returns-in-There-clause-few c = few (goal.at.returns-in-There-clause-few c).After-enter

pub returns-in-Root-clause-whole : goal.returns-in-Root-clause-whole
returns-in-Root-clause-whole c =
    let sorted = subst (IsSorted c.args.arena.now.pages) (sym c.slot-slot.ensures.chains) c.requires.sorted in
    let is = put-new c.slot-slot.ensures.whole sorted c.slot-slot.ensures.framed c.slot-slot.ensures.alone (rw (c.deref_mut.ensures.value, c.deref.ensures.value) at c.in-Root.ensures.entry) in
    is.0

pub returns-in-Root-clause-put : goal.returns-in-Root-clause-put
returns-in-Root-clause-put c =
    let sorted = subst (IsSorted c.args.arena.now.pages) (sym c.slot-slot.ensures.chains) c.requires.sorted in
    let is = put-new c.slot-slot.ensures.whole sorted c.slot-slot.ensures.framed c.slot-slot.ensures.alone (rw (c.deref_mut.ensures.value, c.deref.ensures.value) at c.in-Root.ensures.entry) in
    rw (← c.slot-slot.ensures.chains) is.1

pub returns-in-Root-clause-few : goal.returns-in-Root-clause-few
returns-in-Root-clause-few c = few (goal.at.returns-in-Root-clause-few c).After-enter
