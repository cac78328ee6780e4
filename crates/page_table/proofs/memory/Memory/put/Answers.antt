use Rattle.page_table.proofs.Base.{arith, nat_tests, length-with_part}
use Rattle.page_table.proofs.Writing.{memory_written, writes}
use Rattle.page_table.proofs.Partners.{sees}
use Rattle.page_table.proofs.memory.Memory.put.Goals as goal

pub put-requires : goal.put-requires
put-requires c =
    grind (arith, sees c.self.inside.table c.self.inside.shapes.items c.self.inside.tenants.items c.self.inside.pass c.self.inside.reserved c.self.invariant.0 c.args.self.now c.self.view_is c.args.page c.index_of_page.result c.index_of_page.ensures)

pub invariant_of-self : goal.invariant_of-self
invariant_of-self c =
    grind (arith, nat_tests, memory_written c.self.inside.table c.put.new.self c.self.inside.shapes.items c.self.inside.tenants.items c.self.inside.pass c.self.inside.reserved c.args.page c.args.at c.args.bytes.now c.self.invariant.0)

pub returns : goal.returns
returns c =
    grind (arith, nat_tests, writes c.self.inside.table c.put.new.self c.self.inside.shapes.items c.self.inside.tenants.items c.self.inside.pass c.self.inside.reserved c.args.page c.args.at c.args.bytes.now c.self.invariant.0, length-with_part)
