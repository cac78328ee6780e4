use Rattle.page_table.proofs.Base.{arith, nat_tests, get_or-set_other, get_or-set_same, get_or_past, set_past, paired, view_of}
use Rattle.page_table.proofs.Merging.{moves, map_small, number_small}
use Rattle.page_table.proofs.Waiters.{pass-left-both, entries-long}
use Rattle.page_table.proofs.Partners.{sees}
use Rattle.page_table.proofs.memory.Memory.pair.Goals as goal

pub pair-requires : goal.pair-requires
pair-requires c =
    grind (arith, nat_tests, sees c.self.inside.table c.self.inside.shapes.items c.self.inside.tenants.items c.self.inside.pass c.self.inside.reserved c.self.invariant.0 c.args.self.now c.self.view_is c.args.first c.index_of_page-first.result c.index_of_page-first.ensures, sees c.self.inside.table c.self.inside.shapes.items c.self.inside.tenants.items c.self.inside.pass c.self.inside.reserved c.self.invariant.0 c.args.self.now c.self.view_is c.args.second c.index_of_page-second.result c.index_of_page-second.ensures, map_small, number_small)

pub invariant_of-self : goal.invariant_of-self
unfolding paired
invariant_of-self c =
    grind (arith, sees c.self.inside.table c.self.inside.shapes.items c.self.inside.tenants.items c.self.inside.pass c.self.inside.reserved c.self.invariant.0 c.args.self.now c.self.view_is c.args.first c.index_of_page-first.result c.index_of_page-first.ensures, sees c.self.inside.table c.self.inside.shapes.items c.self.inside.tenants.items c.self.inside.pass c.self.inside.reserved c.self.invariant.0 c.args.self.now c.self.view_is c.args.second c.index_of_page-second.result c.index_of_page-second.ensures, pass-left-both c.self.inside.table c.pair.new.self c.self.inside.pass c.index_of_page-first.result c.index_of_page-second.result c.self.invariant.1, entries-long c.self.inside.table c.pair.new.self c.pair.ensures.contents, nat_tests, get_or-set_same, get_or-set_other, set_past, get_or_past)

pub returns : goal.returns
unfolding view_of
returns c =
    grind (arith, nat_tests, moves c.self.inside.table c.pair.new.self c.self.inside.shapes.items c.self.inside.tenants.items c.self.inside.pass (record c.self.inside.pass { waiting = c.forget-2.new.self }) c.pair.ensures.contents c.pair.ensures.arena c.args.self.now c.self.view_is 0 1 c.self.inside.reserved c.self.invariant.0, c.pair.ensures.sharing c.self.inside.pass)
