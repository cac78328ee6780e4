use Rattle.page_table.proofs.Base.{◌≡◌, ◌∙◌, ◌+◌, ◌<◌, false, drop, is_some, Some, sym, ap, arith, length-map, nat_tests, page_index_of, first_mergeable, look_from, states_of, view_of, AreWaiters, is_listed}
use Rattle.page_table.proofs.Creating.{length-contents}
use Rattle.page_table.proofs.Partners.{advanced, moved-on, moved-ended, pass-on, pass-ended, waits-not, next-is, ahead-next}
use Rattle.page_table.proofs.memory.Memory.advance.Goals as goal
use Rattle.page_table.proofs.memory.Memory.advance.Goals.{After-is_some}

next : (c : After-is_some) → first_mergeable (look_from c.self.inside.pass.cursor) (drop (look_from c.self.inside.pass.cursor) (states_of c.self.inside.table.entries)) ≡ Some (page_index_of c.args.page)
unfolding view_of
next c = rw (← c.self.view_is) at c.requires.next

gone : (c : After-is_some) → AreWaiters c.self.inside.table.entries (Some (page_index_of c.args.page)) c.self.inside.pass.waiting.listed × (is_listed (page_index_of c.args.page) c.self.inside.pass.waiting.listed ≡ false)
unfolding view_of
gone c =
    grind (arith, nat_tests, advanced c.self.inside.table.entries (states_of c.self.inside.table.entries) c.self.inside.pass.cursor c.self.inside.pass.waiting.listed (page_index_of c.args.page) c.self.invariant.1.waiters, c.requires)

small : (c : After-is_some) → page_index_of c.args.page < 32768
small c = grind (arith, nat_tests, next-is (states_of c.self.inside.table.entries) (look_from c.self.inside.pass.cursor) (page_index_of c.args.page), next, length-map, length-contents)

more : (c : After-is_some) → is_some (first_mergeable (page_index_of c.args.page + 1) (drop (page_index_of c.args.page + 1) (states_of c.self.inside.table.entries))) ≡ c.is_some.result
more c = rw (← c.index_of_page-page_index.ensures) (ap is_some (sym c.next_mergeable.ensures) ∙ sym c.is_some.ensures)

pub invariant_of-self : goal.invariant_of-self
invariant_of-self c =
    let d = (goal.at.invariant_of-self c).After-is_some in
    (c.self.invariant.0, rw c.index_of_page-page_index.ensures (pass-on c.self.inside.table c.self.inside.pass (page_index_of c.args.page) c.self.invariant.1 (gone d).0 (small d)), rw c.index_of_page-page_index.ensures (ahead-next (states_of c.self.inside.table.entries) (page_index_of c.args.page) (more d ∙ c.if-is_some.true)), c.self.invariant.3)

pub invariant_of-self-else-is_some : goal.invariant_of-self-else-is_some
invariant_of-self-else-is_some c = (c.self.invariant.0, rw c.end.ensures (pass-ended c.self.inside.table c.self.inside.pass _ c.self.invariant.1), rw c.end.ensures tt, rw c.end.ensures c.self.invariant.3)

pub returns-then-is_some : goal.returns-then-is_some
unfolding view_of
returns-then-is_some c = grind (arith, nat_tests, moved-on c.self.inside.table c.self.inside.shapes.items c.self.inside.tenants.items c.self.inside.pass, more, waits-not c.self.inside.table c.self.inside.shapes.items c.self.inside.tenants.items c.self.inside.pass c.args.page, gone)

pub returns-else-is_some : goal.returns-else-is_some
unfolding view_of
returns-else-is_some c = grind (arith, nat_tests, moved-ended c.self.inside.table c.self.inside.shapes.items c.self.inside.tenants.items c.self.inside.pass, more, waits-not c.self.inside.table c.self.inside.shapes.items c.self.inside.tenants.items c.self.inside.pass c.args.page, gone)
