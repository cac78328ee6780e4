use Rattle.std.proofs.Common.{◌≡◌, ◌∷◌, slice_index_or, arith}
use Rattle.std.proofs.lemmas.List.{get_or_read}
use Rattle.stable_tree.proofs.Heads.{head-facts, longer-whole, longer-chains}
use Rattle.stable_tree.proofs.store.lengthen.Goals as goal

pub index-groups-requires : goal.index-groups-requires
index-groups-requires c =
    let facts = head-facts c.args.store.now (c.args.slot ∷ c.args.store.now.free.items) c.args.at c.requires.whole c.requires.head in
    omega (arith, facts.inside, facts.sized)

-- how many groups there are
read : (c : goal.After-deref) → c.index-groups.result.now ≡ slice_index_or c.args.store.now.sizes.items c.args.at 0
read c =
    let facts = head-facts c.args.store.now (c.args.slot ∷ c.args.store.now.free.items) c.args.at c.requires.whole c.requires.head in
    get_or_read c.args.store.now.sizes.items c.args.at c.index-groups.result.now (omega (arith, facts.inside, facts.sized)) c.index-groups.ensures 0

pub last_of-last-requires-clause-some : goal.last_of-last-requires-clause-some
last_of-last-requires-clause-some c =
    let facts = head-facts c.args.store.now (c.args.slot ∷ c.args.store.now.free.items) c.args.at c.requires.whole c.requires.head in
    omega (arith, facts.some, read c)

pub last_of-last-requires-clause-within : goal.last_of-last-requires-clause-within
last_of-last-requires-clause-within c =
    let facts = head-facts c.args.store.now (c.args.slot ∷ c.args.store.now.free.items) c.args.at c.requires.whole c.requires.head in
    rw (c.deref.ensures.value, facts.linked, read c) facts.within

pub index_mut-requires : goal.index_mut-requires
index_mut-requires c =
    let facts = head-facts c.args.store.now (c.args.slot ∷ c.args.store.now.free.items) c.args.at c.requires.whole c.requires.head in
    let groups = get_or_read c.args.store.now.sizes.items c.args.at c.index-groups.result.now (omega (arith, facts.inside, facts.sized)) c.index-groups.ensures 0 in
    let e = rw (c.deref.ensures.value, groups) at c.last_of-last.ensures in
    omega (arith, e, facts.last, facts.linked)

pub overflow_add-groups : goal.overflow_add-groups
overflow_add-groups c =
    let facts = head-facts c.args.store.now (c.args.slot ∷ c.args.store.now.free.items) c.args.at c.requires.whole c.requires.head in
    let groups = get_or_read c.args.store.now.sizes.items c.args.at c.index-groups.result.now (omega (arith, facts.inside, facts.sized)) c.index-groups.ensures 0 in
    omega (arith, groups, facts.few, facts.low)

pub index_mut-requires-2 : goal.index_mut-requires-2
index_mut-requires-2 c =
    let facts = head-facts c.args.store.now (c.args.slot ∷ c.args.store.now.free.items) c.args.at c.requires.whole c.requires.head in
    omega (arith, facts.inside, facts.sized)

pub returns-clause-whole : goal.returns-clause-whole
returns-clause-whole c =
    let facts = head-facts c.args.store.now (c.args.slot ∷ c.args.store.now.free.items) c.args.at c.requires.whole c.requires.head in
    let groups = get_or_read c.args.store.now.sizes.items c.args.at c.index-groups.result.now (omega (arith, facts.inside, facts.sized)) c.index-groups.ensures 0 in
    let e = rw (c.deref.ensures.value, groups) at c.last_of-last.ensures in
    rw (e, groups) (longer-whole c.args.store.now c.args.at c.args.slot c.requires.whole c.requires.head)

pub returns-clause-chains : goal.returns-clause-chains
returns-clause-chains c =
    let facts = head-facts c.args.store.now (c.args.slot ∷ c.args.store.now.free.items) c.args.at c.requires.whole c.requires.head in
    let groups = get_or_read c.args.store.now.sizes.items c.args.at c.index-groups.result.now (omega (arith, facts.inside, facts.sized)) c.index-groups.ensures 0 in
    let e = rw (c.deref.ensures.value, groups) at c.last_of-last.ensures in
    rw (e, groups) (longer-chains c.args.store.now c.args.at c.args.slot c.requires.whole)
