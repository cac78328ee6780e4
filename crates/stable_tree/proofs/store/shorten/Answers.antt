use Rattle.std.proofs.Common.{◌≡◌, ◌∙◌, ◌-◌, ℕ, slice_index_or, refl, ap, arith}
use Rattle.stable_tree.specs.Slots.{hanging}
use Rattle.stable_tree.specs.Edits.{missing, shorter}
use Rattle.stable_tree.proofs.Heads.{head-facts}
use Rattle.stable_tree.proofs.Taking.{groups-read, shortening}
use Rattle.stable_tree.proofs.store.shorten.Goals as goal

pub index-groups-requires : goal.index-groups-requires
index-groups-requires c =
    let facts = head-facts c.args.store.now c.args.store.now.free.items c.args.at c.requires.whole c.requires.head in
    omega (arith, facts.inside, facts.sized)

pub slot_of-requires-clause-framed : goal.slot_of-requires-clause-framed
slot_of-requires-clause-framed c =
    let facts = head-facts c.args.store.now c.args.store.now.free.items c.args.at c.requires.whole c.requires.head in
    let groups = groups-read c.requires.whole c.requires.head c.index-groups.ensures in
    rw (c.deref.ensures.value, c.deref-2.ensures.value, facts.framed, groups) facts.within

pub returns-in_default-clause-chains : goal.returns-in_default-clause-chains
returns-in_default-clause-chains c =
    let groups = groups-read c.requires.whole c.requires.head c.index-groups.ensures in
    missing (rw (c.deref.ensures.value, c.deref-2.ensures.value, groups) at c.in_default.ensures) refl refl

pub take_last-requires-clause-more : goal.take_last-requires-clause-more
take_last-requires-clause-more c = (shortening c.requires.whole c.requires.head c.requires.shared c.index-groups.ensures (rw (c.deref.ensures.value, c.deref-2.ensures.value) at c.in-Some.ensures)).more

pub take_last-requires-clause-last : goal.take_last-requires-clause-last
take_last-requires-clause-last c =
    let is = shortening c.requires.whole c.requires.head c.requires.shared c.index-groups.ensures (rw (c.deref.ensures.value, c.deref-2.ensures.value) at c.in-Some.ensures) in
    let e : slice_index_or c.args.store.now.sizes.items c.args.at 0 - 1 - c.in-Some.standing.following ≡ slice_index_or c.args.store.now.sizes.items c.args.at 0 - 1 = let none = c.if-standing-eq0.true in omega (arith, none) in
    is.put_in ∙ ap (λ (n : ℕ). slice_index_or (hanging c.args.store.now.nexts.items c.args.store.now.sizes.items c.args.at) n 0) e

pub take_inner-requires-clause-following : goal.take_inner-requires-clause-following
take_inner-requires-clause-following c =
    let is = shortening c.requires.whole c.requires.head c.requires.shared c.index-groups.ensures (rw (c.deref.ensures.value, c.deref-2.ensures.value) at c.in-Some.ensures) in
    (let some = c.if-standing-eq0.false in omega (arith, some), is.inside)

pub take_inner-requires-clause-slot : goal.take_inner-requires-clause-slot
take_inner-requires-clause-slot c = (shortening c.requires.whole c.requires.head c.requires.shared c.index-groups.ensures (rw (c.deref.ensures.value, c.deref-2.ensures.value) at c.in-Some.ensures)).put_in

pub returns-then-standing-eq0-clause-chains : goal.returns-then-standing-eq0-clause-chains
returns-then-standing-eq0-clause-chains c =
    let is = shortening c.requires.whole c.requires.head c.requires.shared c.index-groups.ensures (rw (c.deref.ensures.value, c.deref-2.ensures.value) at c.in-Some.ensures) in
    let e : slice_index_or c.args.store.now.sizes.items c.args.at 0 - 1 - c.in-Some.standing.following ≡ slice_index_or c.args.store.now.sizes.items c.args.at 0 - 1 = let none = c.if-standing-eq0.true in omega (arith, none) in
    let more = is.more in
    shorter (slice_index_or c.args.store.now.sizes.items c.args.at 0 - 1) (omega (arith, more)) (rw e at is.framed) more c.take_last.ensures.chains is.groups_are

pub returns-else-standing-eq0-clause-chains : goal.returns-else-standing-eq0-clause-chains
returns-else-standing-eq0-clause-chains c =
    let is = shortening c.requires.whole c.requires.head c.requires.shared c.index-groups.ensures (rw (c.deref.ensures.value, c.deref-2.ensures.value) at c.in-Some.ensures) in
    let more = is.more in
    shorter (slice_index_or c.args.store.now.sizes.items c.args.at 0 - 1 - c.in-Some.standing.following) (omega (arith, more)) is.framed more c.take_inner.ensures.chains is.groups_are
