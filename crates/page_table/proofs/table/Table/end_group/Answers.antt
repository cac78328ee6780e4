use Rattle.page_table.proofs.Base.{arith, common_steps, nat_tests, map-set_same}
use Rattle.page_table.proofs.Ending.{one_group, contents-ended, sharing-ended, used-ended, sound-ended}
use Rattle.page_table.proofs.Entries.{kept-shared}
use Rattle.page_table.proofs.Trees.{filter-filter}
use Rattle.page_table.proofs.table.Table.end_group.Goals as goal

pub invariant_of-self : goal.invariant_of-self
invariant_of-self c = grind (arith, nat_tests, sound-ended _ c.args.page_index c.args.entry c.broken.result c.self.invariant.0.fits, filter-filter)

pub remove-requires : goal.remove-requires
remove-requires c = grind (arith, nat_tests, one_group _ c.args.page_index c.args.entry c.broken.result c.self.invariant.0.fits)

pub returns : goal.returns
returns c =
    grind (arith, nat_tests, contents-ended _ c.args.page_index c.args.entry c.broken.result c.self.invariant.0.fits, sharing-ended _ c.args.page_index c.args.entry c.broken.result c.self.invariant.0.fits, used-ended _ c.args.page_index c.args.entry c.broken.result c.self.invariant.0.fits, common_steps, kept-shared, map-set_same)
