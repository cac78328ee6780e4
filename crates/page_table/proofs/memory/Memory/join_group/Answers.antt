use Rattle.page_table.proofs.Base.{◌≡◌, find, Some, arith, nat_tests, page_index_of, contents_now, Grouped, with_status, is_open_frame, states_of, view_of, joined}
use Rattle.page_table.proofs.Reading.{content_is}
use Rattle.page_table.proofs.Merging.{moves}
use Rattle.page_table.proofs.Scanning.{bytes_here, open-frame, find-in, open-bytes, joins}
use Rattle.page_table.proofs.Waiters.{pass-others, entries-long}
use Rattle.page_table.proofs.memory.Memory.join_group.Goals as goal
use Rattle.page_table.proofs.Partners.{sees, stay-set}
use Rattle.page_table.proofs.memory.Memory.join_group.Goals.{After-index_of_page}

-- the group is the first one that is open
found : (c : After-index_of_page) → find (is_open_frame c.self.inside.table (contents_now (view_of c.self.inside.table c.self.inside.shapes.items c.self.inside.tenants.items c.self.inside.pass) (page_index_of c.args.page)) c.self.inside.pass.options.max_page_sharing) c.self.inside.table.groups ≡ Some c.args.group
found c = grind (arith, nat_tests, open-frame)

pub join-requires : goal.join-requires
join-requires c =
    let open_there = find-in (is_open_frame c.self.inside.table (contents_now (view_of c.self.inside.table c.self.inside.shapes.items c.self.inside.tenants.items c.self.inside.pass) (page_index_of c.args.page)) c.self.inside.pass.options.max_page_sharing) c.self.inside.table.groups c.args.group (found c) in
    grind (arith, nat_tests, sees c.self.inside.table c.self.inside.shapes.items c.self.inside.tenants.items c.self.inside.pass c.self.inside.reserved c.self.invariant.0 c.args.self.now c.self.view_is c.args.page c.index_of_page.result c.index_of_page.ensures, open_there, content_is c.self.inside.table c.self.inside.shapes.items c.self.inside.tenants.items c.self.inside.pass c.self.inside.reserved c.args.page c.self.invariant.0, bytes_here c.self.inside.table c.self.inside.shapes.items c.self.inside.tenants.items c.self.inside.pass c.self.inside.reserved c.self.invariant.0 c.args.page, open-bytes)

pub invariant_of-self : goal.invariant_of-self
invariant_of-self c =
    grind (arith, sees c.self.inside.table c.self.inside.shapes.items c.self.inside.tenants.items c.self.inside.pass c.self.inside.reserved c.self.invariant.0 c.args.self.now c.self.view_is c.args.page c.index_of_page.result c.index_of_page.ensures, pass-others c.self.inside.table c.join.new.self c.self.inside.pass c.index_of_page.result c.self.invariant.1, entries-long c.self.inside.table c.join.new.self c.join.ensures.contents, stay-set (states_of c.self.inside.table.entries) c.index_of_page.result (with_status Grouped))

pub returns : goal.returns
unfolding view_of joined
returns c =
    grind (arith, moves c.self.inside.table c.join.new.self c.self.inside.shapes.items c.self.inside.tenants.items c.self.inside.pass c.self.inside.pass c.join.ensures.contents c.join.ensures.arena c.args.self.now c.self.view_is 0 1 c.self.inside.reserved c.self.invariant.0, found, joins)
