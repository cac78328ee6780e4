use Rattle.page_table.proofs.Base.{[], arith, nat_tests, page_at, groups_at}
use Rattle.page_table.proofs.Trees.{found-open}
use Rattle.page_table.proofs.table.Table.open_group.Goals as goal

pub returns-in_err-spot : goal.returns-in_err-spot
returns-in_err-spot c =
    grind (arith, nat_tests, found-open _ c.self.inside.counts c.self.inside.tree c.self.invariant.0 c.self.invariant.2 (page_at c.self.inside.arena c.args.frame) c.args.limit [], c.new.ensures)

pub returns : goal.returns
returns c =
    grind (arith, nat_tests, found-open _ c.self.inside.counts c.self.inside.tree c.self.invariant.0 c.self.invariant.2 (page_at c.self.inside.arena c.args.frame) c.args.limit (groups_at c.self.inside.tree c.in_ok-spot.spot), c.new.ensures)
