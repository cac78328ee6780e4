use Rattle.page_table.proofs.Base.{arith, states_of}
use Rattle.page_table.proofs.Facts.{reads_as}
use Rattle.page_table.proofs.Partners.{ahead-found}
use Rattle.page_table.proofs.memory.Memory.facts.Goals as goal

pub returns : goal.returns
returns c =
    grind (arith, reads_as c.self.inside.table c.self.inside.shapes.items c.self.inside.tenants.items c.self.inside.pass c.self.inside.reserved c.self.invariant.0 c.facts.ensures.0 c.facts.ensures.1 c.facts.ensures.2 (ahead-found (states_of c.self.inside.table.entries) c.self.inside.pass.cursor c.self.invariant.2) c.self.invariant.1.pins)
