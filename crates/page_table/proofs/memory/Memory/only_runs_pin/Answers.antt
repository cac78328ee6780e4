use Rattle.page_table.proofs.Pinning.{none-pinned_of}
use Rattle.page_table.proofs.memory.Memory.only_runs_pin.Goals as goal

pub returns : goal.returns
returns c = rw (← c.self.view_is) (λ t eight. none-pinned_of c.self.inside.table c.self.inside.shapes.items c.self.inside.tenants.items c.self.inside.pass c.self.inside.reserved c.self.invariant.0 c.self.invariant.1.pins c.self.invariant.3 t eight)
