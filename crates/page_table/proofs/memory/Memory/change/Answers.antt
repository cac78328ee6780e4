use Rattle.page_table.proofs.Base.{length, ap, arith, nat_tests, changed, sharing_of, view_of}
use Rattle.page_table.proofs.Merging.{moves}
use Rattle.page_table.proofs.Waiters.{pass-marked, entries-long}
use Rattle.page_table.proofs.Partners.{sees, ahead-answer, stay-marked}
use Rattle.page_table.proofs.memory.Memory.change.Goals as goal

pub mark-requires : goal.mark-requires
mark-requires c =
    grind (arith, sees c.self.inside.table c.self.inside.shapes.items c.self.inside.tenants.items c.self.inside.pass c.self.inside.reserved c.self.invariant.0 c.args.self.now c.self.view_is c.args.page c.index_of_page.result c.index_of_page.ensures)

pub invariant_of-self : goal.invariant_of-self
invariant_of-self c =
    grind (arith, sees c.self.inside.table c.self.inside.shapes.items c.self.inside.tenants.items c.self.inside.pass c.self.inside.reserved c.self.invariant.0 c.args.self.now c.self.view_is c.args.page c.index_of_page.result c.index_of_page.ensures, pass-marked c.self.inside.table c.mark.new.self c.self.inside.pass c.index_of_page.result c.args.fingerprint c.self.invariant.1, entries-long c.self.inside.table c.mark.new.self c.mark.ensures.contents, ahead-answer c.self.inside.table c.mark.new.self c.self.inside.pass, stay-marked (sharing_of c.self.inside.table c.self.inside.pass) c.index_of_page.result)

pub returns : goal.returns
unfolding view_of changed
returns c =
    grind (arith, nat_tests, moves c.self.inside.table c.mark.new.self c.self.inside.shapes.items c.self.inside.tenants.items c.self.inside.pass c.self.inside.pass c.mark.ensures.contents (ap length c.mark.ensures.arena) c.args.self.now c.self.view_is 0 0 c.self.inside.reserved c.self.invariant.0, c.mark.ensures.sharing c.self.inside.pass)
