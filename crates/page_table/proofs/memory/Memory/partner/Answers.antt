use Rattle.page_table.proofs.Base.{bytes_eq-Decides, ◌≡◌, ◌<◌, List, ℕ, find, option_map, arith, nat_tests, Page, page_index_of, Waiter, is_match, IsPageOf, contents_now, partner_index, view_of, page_at}
use Rattle.page_table.proofs.Entries.{inside, page_of_entry}
use Rattle.page_table.proofs.Scanning.{bytes_here, frame_reported, page_there}
use Rattle.page_table.proofs.Partners.{IsFound, found-waiter, partners-answer, waiters-frames, not-waiting, may-answer}
use Rattle.page_table.proofs.Waiters.{waiter_own, waiting-free}
use Rattle.page_table.proofs.memory.Memory.partner.Goals as goal
use Rattle.page_table.proofs.memory.Memory.partner.Goals.{After-find, In-Some}

pub find-requires-clause-frame : goal.find-requires-clause-frame
unfolding view_of
find-requires-clause-frame c = rw (c.arena.ensures) (rw (← c.self.view_is) at c.entry-frame.ensures.there)

pub find-requires-clause-listed : goal.find-requires-clause-listed
find-requires-clause-listed c = grind (arith, nat_tests, waiters-frames)

abbrev bytes : After-find → List ℕ
bytes c = contents_now (view_of c.self.inside.table c.self.inside.shapes.items c.self.inside.tenants.items c.self.inside.pass) (page_index_of c.args.page)

answer : (c : After-find) → c.find.result ≡ find (is_match c.self.inside.table.arena c.args.fingerprint (bytes c)) c.self.inside.pass.waiting.listed
unfolding view_of
answer c = grind (arith, nat_tests, bytes_here)

found : (c : In-Some) → IsFound c.self.inside.table.entries c.self.inside.pass.cursor (is_match c.self.inside.table.arena c.args.fingerprint (bytes c.before)) c.self.inside.pass.waiting.listed c.in-Some.waiter
found c =
    grind (arith, found-waiter c.self.inside.table.entries c.self.inside.pass.cursor (is_match c.self.inside.table.arena c.args.fingerprint (bytes c.before)) c.self.inside.pass.waiting.listed c.in-Some.waiter c.self.invariant.1.waiters, answer c.before)

pub page_at-requires : goal.page_at-requires
page_at-requires c = grind (arith, (found (goal.at.page_at-requires c).In-Some).waiter, inside, (c.facts.ensures.1).fits.few)

partners : (c : After-find) → partner_index (view_of c.self.inside.table c.self.inside.shapes.items c.self.inside.tenants.items c.self.inside.pass) (page_index_of c.args.page) c.args.fingerprint ≡ option_map (λ (w : Waiter). w.page_index) c.find.result
unfolding view_of
partners c =
    grind (arith, nat_tests, partners-answer c.self.inside.table c.self.inside.shapes.items c.self.inside.tenants.items c.self.inside.pass c.self.inside.reserved c.self.invariant.0 (c.facts.ensures.1).fits c.args.fingerprint (bytes c) c.self.inside.pass.cursor c.self.inside.pass.waiting.listed c.self.invariant.1.waiters, answer c)

page_is_there : (c : In-Some) → (page : Page) → page_index_of page ≡ c.in-Some.waiter.page_index → page.map < 8 → page.number < 256 → IsPageOf (view_of c.self.inside.table c.self.inside.shapes.items c.self.inside.tenants.items c.self.inside.pass) page
page_is_there c page page_index small few =
    grind (arith, nat_tests, found c, page_there c.self.inside.table c.self.inside.shapes.items c.self.inside.tenants.items c.self.inside.pass c.self.inside.reserved c.self.invariant.0 page small few, page_of_entry, c.facts.ensures.1)

pub returns-in-Some : goal.returns-in-Some
returns-in-Some c =
    let d = (goal.at.returns-in-Some c).In-Some in
    let there = page_is_there d c.page_at.result c.page_at.ensures.page_index c.page_at.ensures.map c.page_at.ensures.number in
    grind (arith, nat_tests, partners d.before, found d, there, may-answer c.self.inside.table c.self.inside.shapes.items c.self.inside.tenants.items c.self.inside.pass c.page_at.result, waiter_own, waiting-free, not-waiting, bytes_here c.self.inside.table c.self.inside.shapes.items c.self.inside.tenants.items c.self.inside.pass c.self.inside.reserved c.self.invariant.0 c.page_at.result there, bytes_here c.self.inside.table c.self.inside.shapes.items c.self.inside.tenants.items c.self.inside.pass c.self.inside.reserved c.self.invariant.0 c.args.page, frame_reported c.self.inside.table c.self.inside.shapes.items c.self.inside.tenants.items c.self.inside.pass c.self.inside.reserved c.self.invariant.0 c.in-Some.waiter.page_index, (bytes_eq-Decides (page_at c.self.inside.table.arena c.in-Some.waiter.frame) (bytes d.before)).0)

pub returns-in-None-clause-found : goal.returns-in-None-clause-found
returns-in-None-clause-found c = grind (arith, nat_tests, partners)
