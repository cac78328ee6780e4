use Rattle.page_table.proofs.Base.{part-range}
use Rattle.page_table.proofs.tenant_maps.shapes_from.Goals as goal

pub returns-clause-shapes : goal.returns-clause-shapes
returns-clause-shapes c = part-range c.args.shapes.now c.args.first 8
