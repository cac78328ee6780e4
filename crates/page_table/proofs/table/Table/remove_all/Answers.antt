use Rattle.page_table.proofs.Base.{[], arith, nat_tests, gone_from, contents_of}
use Rattle.page_table.proofs.Creating.{filled_more, with_part-none, length-contents, filled_at}
use Rattle.page_table.proofs.Vacating.{gone-more}
use Rattle.page_table.proofs.table.Table.remove_all.Goals as goal

pub loop-number-init : goal.loop-number-init
unfolding gone_from
loop-number-init c = grind (arith, nat_tests, with_part-none)

pub remove-requires : goal.remove-requires
remove-requires c = grind (arith, nat_tests, length-contents, filled_at)

pub loop-number-preserved : goal.loop-number-preserved
loop-number-preserved c =
    record {
      contents = grind (arith, length-contents, filled_more (contents_of c.args.self.now) c.args.first c.loop-number.number []);
      sharing = grind (arith, gone-more c.args.self.now c.loop-number.self c.remove.new.self);
      used = grind arith;
      arena = grind arith;
      kept = grind (arith, c.remove.ensures.kept, c.loop-number.invariant.kept);
    }
