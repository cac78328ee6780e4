use Rattle.std.proofs.Common.{◌∙◌, arith}
use Rattle.std.proofs.lemmas.List.{get_or_read}
use Rattle.stable_tree.proofs.Heads.{head-facts}
use Rattle.stable_tree.proofs.Shortening.{cut-whole, cut-chains}
use Rattle.stable_tree.proofs.store.take_last.Goals as goal

pub give_back-requires : goal.give_back-requires
give_back-requires c =
    let facts = head-facts c.args.store.now c.args.store.now.free.items c.args.at c.requires.whole c.requires.head in
    let groups = get_or_read c.args.store.now.sizes.items c.args.at c.index_mut.result.now (omega (arith, facts.inside, facts.sized)) c.index_mut.ensures.value 0 in
    rw groups (cut-whole c.args.store.now c.args.at c.args.slot c.requires.whole c.requires.head c.requires.more c.requires.last)

pub returns-clause-chains : goal.returns-clause-chains
returns-clause-chains c =
    let facts = head-facts c.args.store.now c.args.store.now.free.items c.args.at c.requires.whole c.requires.head in
    let groups = get_or_read c.args.store.now.sizes.items c.args.at c.index_mut.result.now (omega (arith, facts.inside, facts.sized)) c.index_mut.ensures.value 0 in
    λ earlier later is. (rw groups at c.give_back.ensures.chains) ∙ cut-chains c.args.store.now c.args.at c.args.slot c.requires.whole c.requires.head c.requires.more c.requires.last earlier later is
