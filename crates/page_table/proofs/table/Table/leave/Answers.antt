use Rattle.page_table.proofs.Base.{arith, common_steps, nat_tests, page_at}
use Rattle.std.proofs.Common.{length-set}
use Rattle.page_table.proofs.Ending.{unused-frame, contents-left, sharing-left, used-left, sound-left}
use Rattle.page_table.proofs.Entries.{kept-shared}
use Rattle.page_table.proofs.Trees.{tree-set}
use Rattle.page_table.proofs.table.Table.leave.Goals as goal

pub invariant_of-self : goal.invariant_of-self
invariant_of-self c =
    let unused = unused-frame _ c.self.inside.counts c.take-frame.result c.self.invariant.0 c.take-frame.ensures.unused in
    grind (arith, sound-left _ c.args.page_index c.args.entry c.broken.result c.self.invariant.0.fits (rw (c.broken.ensures.frame) unused) (rw (← c.self.view_is) at c.requires.there) c.requires.shared (rw (← c.self.view_is) at c.requires.company) c.broken.ensures.state c.broken.ensures.own c.self.inside.counts c.take-frame.new.self c.release.new.self c.broken.ensures.protected c.self.invariant.0.counted, unused, tree-set c.self.inside.arena c.self.inside.groups.listed c.self.inside.tree c.broken.result.frame (page_at c.self.inside.arena c.args.entry.frame), length-set)

pub returns : goal.returns
returns c =
    let unused = unused-frame _ c.self.inside.counts c.take-frame.result c.self.invariant.0 c.take-frame.ensures.unused in
    grind (arith, nat_tests, contents-left _ c.args.page_index c.args.entry c.broken.result c.self.invariant.0.fits, unused, sharing-left _ c.args.page_index c.args.entry c.broken.result c.self.invariant.0.fits, common_steps, kept-shared, used-left _ c.args.page_index c.args.entry c.broken.result c.self.invariant.0.fits)
