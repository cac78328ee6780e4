use Rattle.page_table.proofs.Base.{arith, length-replicate, zero_page}
use Rattle.page_table.proofs.Entries.{sound-new}
use Rattle.page_table.proofs.table.Table.new.Goals as goal

pub invariant_of-result : goal.invariant_of-result
invariant_of-result c =
    grind (arith, length-replicate c.args.frames zero_page, sound-new c.args.frames c.args.page_indices c.in_ok-counts.counts c.requires.frames.0 c.requires.frames.1 c.requires.page_indices c.in_ok-counts.ensures.counts c.in_ok-counts.ensures.unused)
