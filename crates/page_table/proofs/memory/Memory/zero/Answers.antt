use Rattle.page_table.proofs.Base.{arith, nat_tests, zeroed, view_of}
use Rattle.page_table.proofs.Merging.{moves}
use Rattle.page_table.proofs.Waiters.{pass-left, entries-long}
use Rattle.page_table.proofs.Partners.{sees, stay-set}
use Rattle.page_table.proofs.memory.Memory.zero.Goals as goal

pub zero-requires : goal.zero-requires
zero-requires c =
    grind (arith, sees c.self.inside.table c.self.inside.shapes.items c.self.inside.tenants.items c.self.inside.pass c.self.inside.reserved c.self.invariant.0 c.args.self.now c.self.view_is c.args.page c.index_of_page-page_index.result c.index_of_page-page_index.ensures)

pub invariant_of-self : goal.invariant_of-self
unfolding zeroed
invariant_of-self c =
    grind (arith, sees c.self.inside.table c.self.inside.shapes.items c.self.inside.tenants.items c.self.inside.pass c.self.inside.reserved c.self.invariant.0 c.args.self.now c.self.view_is c.args.page c.index_of_page-page_index.result c.index_of_page-page_index.ensures, pass-left c.self.inside.table c.zero.new.self c.self.inside.pass c.index_of_page-page_index.result c.self.invariant.1, entries-long c.self.inside.table c.zero.new.self c.zero.ensures.contents, stay-set)

pub returns : goal.returns
unfolding view_of
returns c =
    grind (arith, nat_tests, moves c.self.inside.table c.zero.new.self c.self.inside.shapes.items c.self.inside.tenants.items c.self.inside.pass (record c.self.inside.pass { waiting = c.forget.new.self }) c.zero.ensures.contents c.zero.ensures.arena c.args.self.now c.self.view_is 0 1 c.self.inside.reserved c.self.invariant.0, c.zero.ensures.sharing c.self.inside.pass)
