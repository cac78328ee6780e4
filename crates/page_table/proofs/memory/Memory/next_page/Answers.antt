use Rattle.page_table.proofs.Base.{◌≡◌, ◌∙◌, drop, Some, sym, arith, length-map, nat_tests, first_mergeable, look_from, IsPageAt, states_of, view_of}
use Rattle.page_table.proofs.Partners.{entry-may, IsNext, next-is}
use Rattle.page_table.proofs.Scanning.{page_there}
use Rattle.page_table.proofs.memory.Memory.next_page.Goals as goal
use Rattle.page_table.proofs.Entries.{page_of_entry}
use Rattle.page_table.proofs.memory.Memory.next_page.Goals.{In-Some}

answer : (c : In-Some) → first_mergeable (look_from c.self.inside.pass.cursor) (drop (look_from c.self.inside.pass.cursor) (states_of c.self.inside.table.entries)) ≡ Some c.in-Some.page_index
answer c = rw (← c.look_from.ensures) (sym c.next_mergeable.ensures ∙ c.in-Some.is)

next : (c : In-Some) → IsNext (states_of c.self.inside.table.entries) (look_from c.self.inside.pass.cursor) c.in-Some.page_index
next c = next-is (states_of c.self.inside.table.entries) (look_from c.self.inside.pass.cursor) c.in-Some.page_index (answer c)

pub page_at-requires : goal.page_at-requires
page_at-requires c = grind (arith, nat_tests, length-map, next)

there : (c : In-Some) → IsPageAt c.self.inside.table c.in-Some.page_index
there c = grind (arith, nat_tests, entry-may c.self.inside.table c.self.inside.pass c.in-Some.page_index, next c, page_of_entry c.self.inside.table c.in-Some.page_index)

pub returns-in-Some : goal.returns-in-Some
unfolding view_of
returns-in-Some c = grind (arith, nat_tests, answer, there, page_there c.self.inside.table c.self.inside.shapes.items c.self.inside.tenants.items c.self.inside.pass c.self.inside.reserved c.self.invariant.0 c.page_at.result c.page_at.ensures.map c.page_at.ensures.number, next)

pub returns-in-None-clause-page_index : goal.returns-in-None-clause-page_index
unfolding view_of
returns-in-None-clause-page_index c = rw (← c.self.view_is, ← c.look_from.ensures) (sym c.in-None.is ∙ c.next_mergeable.ensures)
