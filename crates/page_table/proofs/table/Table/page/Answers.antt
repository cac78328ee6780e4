use Rattle.page_table.proofs.Base.{◌∙◌, sym}
use Rattle.page_table.proofs.Entries.{page_inside, page_there}
use Rattle.page_table.proofs.table.Table.page.Goals as goal

pub get-requires : goal.get-requires
get-requires c = page_inside _ c.args.page_index (rw (← c.self.view_is) at c.requires)

pub unreachable-requires : goal.unreachable-requires
unreachable-requires c = page_there _ c.args.page_index (rw (← c.self.view_is) at c.requires) (sym c.get.ensures ∙ c.in_default.is)
