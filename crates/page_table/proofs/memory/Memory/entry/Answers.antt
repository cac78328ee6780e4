use Rattle.page_table.proofs.Base.{arith}
use Rattle.page_table.proofs.Partners.{sees, sees_entry}
use Rattle.page_table.proofs.Entries.{page_inside, page_there}
use Rattle.page_table.proofs.memory.Memory.entry.Goals as goal

pub entry-requires : goal.entry-requires
entry-requires c =
    grind (arith, sees c.self.inside.table c.self.inside.shapes.items c.self.inside.tenants.items c.self.inside.pass c.self.inside.reserved c.self.invariant.0 c.args.self.now c.self.view_is c.args.page c.index_of_page.result c.index_of_page.ensures, page_inside c.self.inside.table c.index_of_page.result)

pub unreachable-requires : goal.unreachable-requires
unreachable-requires c =
    grind (arith, sees c.self.inside.table c.self.inside.shapes.items c.self.inside.tenants.items c.self.inside.pass c.self.inside.reserved c.self.invariant.0 c.args.self.now c.self.view_is c.args.page c.index_of_page.result c.index_of_page.ensures, page_there c.self.inside.table c.index_of_page.result)

pub returns : goal.returns
returns c =
    grind (arith, sees_entry c.self.inside.table c.self.inside.shapes.items c.self.inside.tenants.items c.self.inside.pass c.self.inside.reserved c.self.invariant.0 c.args.self.now c.self.view_is c.args.page c.in-Some.entry c.requires)
