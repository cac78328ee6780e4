use Rattle.std.proofs.Common.{◌∙◌, arith}
use Rattle.std.proofs.lemmas.List.{get_or_read}
use Rattle.stable_tree.proofs.Shortening.{pulling, pulled-read}
use Rattle.stable_tree.proofs.store.take_inner.Goals as goal

pub index-next-requires : goal.index-next-requires
index-next-requires c = let inside = (pulling c.requires.whole c.requires.head c.requires.following c.requires.slot).linked in omega (arith, inside)

pub index-requires : goal.index-requires
index-requires c =
    let is = pulling c.requires.whole c.requires.head c.requires.following c.requires.slot in
    let next = get_or_read c.args.store.now.nexts.items c.args.standing.slot c.index-next.result.now is.linked c.index-next.ensures 0 in
    omega (arith, next, is.next_framed)

pub index_mut-requires : goal.index_mut-requires
index_mut-requires c = let inside = (pulling c.requires.whole c.requires.head c.requires.following c.requires.slot).framed in omega (arith, inside)

pub index-requires-2 : goal.index-requires-2
index-requires-2 c =
    let is = pulling c.requires.whole c.requires.head c.requires.following c.requires.slot in
    let next = get_or_read c.args.store.now.nexts.items c.args.standing.slot c.index-next.result.now is.linked c.index-next.ensures 0 in
    omega (arith, next, is.next_linked)

pub index_mut-requires-2 : goal.index_mut-requires-2
index_mut-requires-2 c = let inside = (pulling c.requires.whole c.requires.head c.requires.following c.requires.slot).linked in omega (arith, inside)

pub give_back-requires : goal.give_back-requires
give_back-requires c =
    let is = pulling c.requires.whole c.requires.head c.requires.following c.requires.slot in
    let read = pulled-read is c.index-next.ensures c.index.ensures c.index-2.ensures c.index_mut-3.ensures.value in
    rw (read.frame_is, read.link_is, read.groups_are, read.next_is) is.whole

pub returns-clause-chains : goal.returns-clause-chains
returns-clause-chains c =
    let is = pulling c.requires.whole c.requires.head c.requires.following c.requires.slot in
    let read = pulled-read is c.index-next.ensures c.index.ensures c.index-2.ensures c.index_mut-3.ensures.value in
    λ earlier later cut. (rw (read.frame_is, read.link_is, read.groups_are, read.next_is) at c.give_back.ensures.chains) ∙ is.chains earlier later cut
