use Rattle.page_table.proofs.Base.{◌+◌, ◌*◌, ◌<◌, ◌≤◌, length, ℕ, arith, List, Option, nat_tests, Pass, Page, Shape, page_index_of, Tenant, IsPageOf, bytes_of_map, part, TableState, view_of, IsMemory}
use Rattle.std.proofs.Common.{length-take}
use Rattle.page_table.proofs.Creating.{length-contents}
use Rattle.page_table.proofs.Reading.{page_located}
use Rattle.page_table.proofs.memory.Memory.break_costs.Goals as goal

-- pages of one map are among the indices
run_inside : (table : TableState) (shapes : List (Option Shape)) (tenants : List Tenant) (pass : Pass) (reserved : ℕ) (page : Page) (count : ℕ)
    → IsMemory table shapes tenants reserved → IsPageOf (view_of table shapes tenants pass) page
    → (page.number + count) * 4096 < length (bytes_of_map (view_of table shapes tenants pass) page) + 4096
    → page_index_of page + count ≤ length table.entries
unfolding view_of part
run_inside table shapes tenants pass reserved page count h1 h2 h3 =
    grind (arith, nat_tests, page_located table shapes tenants pass reserved page, length-contents table, length-take)

pub break_costs-requires : goal.break_costs-requires
break_costs-requires c =
    grind (arith, run_inside c.self.inside.table c.self.inside.shapes.items c.self.inside.tenants.items c.self.inside.pass c.self.inside.reserved c.args.first c.args.count c.self.invariant.0)

pub returns : goal.returns
unfolding view_of
returns c = grind (arith, nat_tests)
