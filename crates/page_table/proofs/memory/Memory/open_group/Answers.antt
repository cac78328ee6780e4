use Rattle.page_table.proofs.Base.{◌≡◌, find, nat_tests, arith, page_index_of, contents_now, is_open_frame, view_of}
use Rattle.page_table.proofs.Scanning.{bytes_here, open-frame, has-open}
use Rattle.page_table.proofs.memory.Memory.open_group.Goals as goal

pub open_group-requires : goal.open_group-requires
unfolding view_of
open_group-requires c = rw (← c.self.view_is) at c.entry-frame.ensures.there

found : (c : goal.After-open_group) → c.open_group.result ≡ find (is_open_frame c.self.inside.table (contents_now (view_of c.self.inside.table c.self.inside.shapes.items c.self.inside.tenants.items c.self.inside.pass) (page_index_of c.args.page)) c.self.inside.pass.options.max_page_sharing) c.self.inside.table.groups
unfolding view_of
found c = grind (arith, nat_tests, bytes_here)

pub returns : goal.returns
returns c = grind (arith, nat_tests, found, open-frame, has-open)
