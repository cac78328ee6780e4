use Rattle.page_table.proofs.Base.{◌∙◌, ap, arith, get_or_past, length-map, is_pinned, view_of}
use Rattle.page_table.proofs.Creating.{length-contents}
use Rattle.page_table.proofs.Reading.{is_page_at}
use Rattle.page_table.proofs.memory.Memory.is_pinned.Goals as goal

pub is_pinned-requires : goal.is_pinned-requires
is_pinned-requires c =
    grind (arith, is_page_at c.self.inside.table c.self.inside.shapes.items c.self.inside.tenants.items c.self.inside.pass c.self.inside.reserved c.args.page c.self.invariant.0, length-map, length-contents, get_or_past)

pub returns : goal.returns
unfolding view_of
returns c = rw (← c.self.view_is) (c.is_pinned.ensures ∙ ap (is_pinned c.self.inside.pass.pins) c.index_of_page.ensures)
