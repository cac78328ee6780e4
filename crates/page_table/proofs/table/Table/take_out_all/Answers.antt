use Rattle.page_table.proofs.Base.{length, arith, nat_tests, pages_broken, cost_from, sharing_of, used_by}
use Rattle.page_table.proofs.Creating.{length-contents}
use Rattle.page_table.proofs.Unmerging.{broken_next, cost_next, next_fits, all_cost, nothing_shared}
use Rattle.page_table.proofs.table.Table.take_out_all.Goals as goal

pub loop-page_index-init : goal.loop-page_index-init
unfolding pages_broken cost_from
loop-page_index-init c = grind arith

pub take_out_at-requires : goal.take_out_at-requires
take_out_at-requires c = record {
  there = grind (arith, length-contents, c.loop-page_index.invariant.contents);
  room = λ pass. grind (arith, next_fits c.args.self.now c.facts.ensures.1.fits pass (sharing_of c.loop-page_index.self pass) c.loop-page_index.page_index (used_by c.args.self.now) (used_by c.loop-page_index.self) (length c.args.self.now.arena), c.loop-page_index.invariant.sharing pass, c.loop-page_index.invariant.used pass, c.loop-page_index.invariant.arena, c.requires pass);
}

pub loop-page_index-preserved : goal.loop-page_index-preserved
loop-page_index-preserved c = grind (arith, nat_tests, broken_next, cost_next)

pub returns-clause-none : goal.returns-clause-none
returns-clause-none c pass = nothing_shared c.args.self.now c.facts.ensures.1.fits pass

pub returns-clause-used : goal.returns-clause-used
returns-clause-used c pass = grind (arith, nat_tests, all_cost)
