use Rattle.page_table.proofs.Base.{get_or-set_other, arith, nat_tests}
use Rattle.page_table.proofs.Moving.{few, contents-moved, used-moved, sound-moved, move-joined, groups-joined, states-joined}
use Rattle.page_table.proofs.table.Table.join.Goals as goal

pub share-requires-clause-few : goal.share-requires-clause-few
share-requires-clause-few c =
    let move = move-joined _ c.args.self.now c.args.page_index c.page-entry.result c.merged.result c.args.frame c.self.view_is c.self.invariant.0.fits c.page-entry.ensures c.requires.own c.requires.group c.requires.same (grind arith) in
    rw c.merged.ensures.frame at (few _ c.args.page_index c.page-entry.result c.merged.result move c.self.inside.counts c.self.invariant.0.counted)

pub invariant_of-self : goal.invariant_of-self
invariant_of-self c =
    let move = move-joined _ c.args.self.now c.args.page_index c.page-entry.result c.merged.result c.args.frame c.self.view_is c.self.invariant.0.fits c.page-entry.ensures c.requires.own c.requires.group c.requires.same (grind arith) in
    grind (arith, sound-moved _ c.args.page_index c.page-entry.result c.merged.result move c.self.inside.counts c.share.new.self c.release.new.self)

pub returns : goal.returns
returns c =
    let move = move-joined _ c.args.self.now c.args.page_index c.page-entry.result c.merged.result c.args.frame c.self.view_is c.self.invariant.0.fits c.page-entry.ensures c.requires.own c.requires.group c.requires.same (grind arith) in
    grind (arith, nat_tests, contents-moved _ c.args.page_index c.page-entry.result c.merged.result move, states-joined _ c.args.page_index c.page-entry.result c.merged.result c.args.frame move, groups-joined _ c.args.page_index c.page-entry.result c.merged.result c.args.frame move, used-moved _ c.args.page_index c.page-entry.result c.merged.result move, get_or-set_other)
