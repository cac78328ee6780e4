use Rattle.std.proofs.Common.{◌≡◌, refl, sym, ◌∙◌, arith}
use Rattle.std.proofs.lemmas.List.{get_or_read}
use Rattle.stable_tree.specs.Slots.{walk, frames_at, chain_at}
use Rattle.stable_tree.proofs.Heads.{head-facts}
use Rattle.stable_tree.proofs.spot.Spot.at.Goals as goal

pub index-groups-requires : goal.index-groups-requires
index-groups-requires c =
    let facts = head-facts c.args.store.now c.args.store.now.free.items c.args.slot c.requires.whole c.requires.head in
    omega (arith, facts.inside, facts.sized)

pub invariant_of-result : goal.invariant_of-result
invariant_of-result c =
    let facts = head-facts c.args.store.now c.args.store.now.free.items c.args.slot c.requires.whole c.requires.head in
    let groups = get_or_read c.args.store.now.sizes.items c.args.slot c.index-groups.result.now (omega (arith, facts.inside, facts.sized)) c.index-groups.ensures 0 in
    (rw (c.deref.ensures.value, c.deref-2.ensures.value, groups, facts.framed) facts.within, rw (c.deref.ensures.value, c.deref-2.ensures.value) (facts.linked ∙ sym facts.framed))

pub returns : goal.returns
returns c =
    let facts = head-facts c.args.store.now c.args.store.now.free.items c.args.slot c.requires.whole c.requires.head in
    let groups = get_or_read c.args.store.now.sizes.items c.args.slot c.index-groups.result.now (omega (arith, facts.inside, facts.sized)) c.index-groups.ensures 0 in
    let e : frames_at c.deref.result.now (walk c.index-groups.result.now c.deref-2.result.now c.args.slot) ≡ chain_at c.args.store.now.frames.items c.args.store.now.nexts.items c.args.store.now.sizes.items c.args.slot = rw (c.deref.ensures.value, c.deref-2.ensures.value, groups) refl in
    e
