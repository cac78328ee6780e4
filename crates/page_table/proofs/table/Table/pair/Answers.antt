use Rattle.page_table.proofs.Base.{arith, get_or-set_other, filter-append}
use Rattle.page_table.proofs.Moving.{pairing-from, contents-pair, used-pair, sound-pair, sharing-pair}
use Rattle.page_table.proofs.Trees.{tree-absent, tree-room}
use Rattle.page_table.proofs.Entries.{own_seen, own_alone}
use Rattle.page_table.proofs.table.Table.pair.Goals as goal

pub insert-requires-clause-new : goal.insert-requires-clause-new
insert-requires-clause-new c =
    let first = own_seen _ c.args.self.now c.self.view_is c.args.first c.page-one.result c.page-one.ensures c.requires.own_first in
    tree-absent c.self.inside.arena c.self.inside.groups.listed c.self.inside.tree c.self.invariant.2 c.page-one.result.frame (own_alone _ c.args.first c.page-one.result c.self.invariant.0.fits first).no_group

pub insert-requires-clause-room : goal.insert-requires-clause-room
insert-requires-clause-room c = tree-room _ c.self.inside.counts c.self.inside.tree c.self.invariant.0 c.self.invariant.2

pub invariant_of-self : goal.invariant_of-self
invariant_of-self c =
    let pairing = pairing-from _ c.args.self.now c.args.first c.args.second c.page-one.result c.page-other.result c.merged.result c.merged-2.result
    c.self.view_is c.self.invariant.0.fits c.requires.apart c.page-one.ensures c.page-other.ensures c.requires.own_first c.requires.own_second c.requires.same (grind arith) (grind arith) in
    grind (arith, sound-pair _ c.args.first c.args.second c.page-one.result c.page-other.result c.merged.result c.merged-2.result pairing c.self.inside.counts c.share.new.self c.release.new.self, filter-append)

pub returns : goal.returns
returns c =
    let pairing = pairing-from _ c.args.self.now c.args.first c.args.second c.page-one.result c.page-other.result c.merged.result c.merged-2.result
    c.self.view_is c.self.invariant.0.fits c.requires.apart c.page-one.ensures c.page-other.ensures c.requires.own_first c.requires.own_second c.requires.same (grind arith) (grind arith) in
    grind (arith, contents-pair _ c.args.first c.args.second c.page-one.result c.page-other.result c.merged.result c.merged-2.result pairing, sharing-pair _ c.args.first c.args.second c.page-one.result c.page-other.result c.merged.result c.merged-2.result pairing, used-pair _ c.args.first c.args.second c.page-one.result c.page-other.result c.merged.result c.merged-2.result pairing, get_or-set_other)
