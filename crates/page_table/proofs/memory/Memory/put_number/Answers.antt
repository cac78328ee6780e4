use Rattle.page_table.proofs.Base.{arith, nat_tests, length-with_part}
use Rattle.host_types.specs.Bytes.{bytes_of}
use Rattle.host_types.proofs.LittleEndian.{length-bytes_of}
use Rattle.page_table.proofs.Writing.{memory_written, writes}
use Rattle.page_table.proofs.Partners.{sees}
use Rattle.page_table.proofs.memory.Memory.put_number.Goals as goal

pub put_number-requires : goal.put_number-requires
put_number-requires c =
    grind (arith, nat_tests, c.requires.size, sees c.self.inside.table c.self.inside.shapes.items c.self.inside.tenants.items c.self.inside.pass c.self.inside.reserved c.self.invariant.0 c.args.self.now c.self.view_is c.args.page c.index_of_page.result c.index_of_page.ensures)

pub invariant_of-self : goal.invariant_of-self
invariant_of-self c =
    let long = length-bytes_of c.args.size c.args.value in
    grind (arith, nat_tests, long, memory_written c.self.inside.table c.put_number.new.self c.self.inside.shapes.items c.self.inside.tenants.items c.self.inside.pass c.self.inside.reserved c.args.page c.args.at (bytes_of c.args.size c.args.value) c.self.invariant.0)

pub returns : goal.returns
returns c =
    let long = length-bytes_of c.args.size c.args.value in
    grind (arith, nat_tests, long, writes c.self.inside.table c.put_number.new.self c.self.inside.shapes.items c.self.inside.tenants.items c.self.inside.pass c.self.inside.reserved c.args.page c.args.at (bytes_of c.args.size c.args.value) c.self.invariant.0, length-with_part)
