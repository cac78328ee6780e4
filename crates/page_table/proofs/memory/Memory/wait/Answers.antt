use Rattle.page_table.proofs.Waiters.{waiters-few, pass-others, waiters-more, entries-long}
use Rattle.page_table.proofs.Base.{length, ap, arith, nat_tests, map-append, waits, sharing_of, view_of}
use Rattle.page_table.proofs.Merging.{moves}
use Rattle.page_table.proofs.Partners.{may-entry, sees, ahead-answer, stay-marked}
use Rattle.page_table.proofs.memory.Memory.wait.Goals as goal

pub page-frame-requires : goal.page-frame-requires
page-frame-requires c =
    grind (arith, sees c.self.inside.table c.self.inside.shapes.items c.self.inside.tenants.items c.self.inside.pass c.self.inside.reserved c.self.invariant.0 c.args.self.now c.self.view_is c.args.page c.index_of_page-page_index.result c.index_of_page-page_index.ensures)

pub mark-requires : goal.mark-requires
mark-requires c =
    grind (arith, sees c.self.inside.table c.self.inside.shapes.items c.self.inside.tenants.items c.self.inside.pass c.self.inside.reserved c.self.invariant.0 c.args.self.now c.self.view_is c.args.page c.index_of_page-page_index.result c.index_of_page-page_index.ensures)

pub insert-requires : goal.insert-requires
insert-requires c =
    grind (arith, waiters-few)

pub invariant_of-self : goal.invariant_of-self
unfolding view_of
invariant_of-self c =
    grind (arith, nat_tests, sees c.self.inside.table c.self.inside.shapes.items c.self.inside.tenants.items c.self.inside.pass c.self.inside.reserved c.self.invariant.0 c.args.self.now c.self.view_is c.args.page c.index_of_page-page_index.result c.index_of_page-page_index.ensures, pass-others, waiters-more, entries-long c.self.inside.table c.mark.new.self c.mark.ensures.contents, may-entry c.self.inside.table c.self.inside.shapes.items c.self.inside.tenants.items c.self.inside.pass c.args.page c.page-frame.result, ahead-answer c.self.inside.table c.mark.new.self c.self.inside.pass, stay-marked (sharing_of c.self.inside.table c.self.inside.pass) c.index_of_page-page_index.result)

pub returns : goal.returns
unfolding view_of waits
returns c =
    grind (arith, nat_tests, moves c.self.inside.table c.mark.new.self c.self.inside.shapes.items c.self.inside.tenants.items c.self.inside.pass (record c.self.inside.pass { waiting = c.insert.new.self }) c.mark.ensures.contents (ap length c.mark.ensures.arena) c.args.self.now c.self.view_is 0 0 c.self.inside.reserved c.self.invariant.0, map-append)
