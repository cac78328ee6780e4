use Rattle.page_table.proofs.Base.{nat_tests, arith, common_steps, get_or-set_other, zero_page}
use Rattle.std.proofs.Common.{length-set}
use Rattle.page_table.proofs.Ending.{unused-frame, sound-added, states-added, groups-added, used-added, contents-filled, added_entry}
use Rattle.page_table.proofs.Trees.{tree-set}
use Rattle.page_table.proofs.Entries.{no_entry_of_content}
use Rattle.page_table.proofs.table.Table.add.Goals as goal

pub invariant_of-self : goal.invariant_of-self
invariant_of-self c =
    let unused = unused-frame _ c.self.inside.counts c.take-frame.result c.self.invariant.0 c.take-frame.ensures.unused in
    grind (arith, nat_tests, sound-added _ c.args.page_index c.take-frame.result c.args.mergeable c.self.invariant.0.fits unused, no_entry_of_content, tree-set c.self.inside.arena c.self.inside.groups.listed c.self.inside.tree c.take-frame.result zero_page, length-set)

pub returns : goal.returns
returns c =
    let unused = unused-frame _ c.self.inside.counts c.take-frame.result c.self.invariant.0 c.take-frame.ensures.unused in
    grind (arith, nat_tests, common_steps, contents-filled _ c.args.page_index (added_entry c.take-frame.result c.args.mergeable) zero_page c.self.invariant.0.fits unused, no_entry_of_content, states-added _ c.args.page_index c.take-frame.result c.args.mergeable c.self.invariant.0.fits unused, groups-added _ c.args.page_index c.take-frame.result c.args.mergeable c.self.invariant.0.fits unused, used-added _ c.args.page_index c.take-frame.result c.args.mergeable c.self.invariant.0.fits unused, get_or-set_other)
