use Rattle.page_table.proofs.Base.{◌≡◌, ◌&&◌, slice_index_or, Some, arith, nat_lt, nat_tests, TableState, entry_at, break_frames}
use Rattle.page_table.proofs.Entries.{one_when, cost-counted}
use Rattle.page_table.proofs.Ending.{sharing-unbroken}
use Rattle.page_table.proofs.table.Table.take_out.Goals as goal
use Rattle.page_table.proofs.table.Table.take_out.Goals.{After-page-entry}

abbrev table : After-page-entry → TableState
table c = record { arena = c.self.inside.arena; entries = c.self.inside.entries; groups = c.self.inside.groups.listed }

here : (c : After-page-entry) → entry_at (table c).entries c.args.page_index ≡ Some c.page-entry.result
here c = rw (← c.self.view_is) at c.page-entry.ensures

-- what the break takes, reported by the count of the page's frame
answer : (c : After-page-entry) → break_frames c.args.self.now c.args.page_index ≡ one_when (c.page-entry.result.protected && nat_lt 1 (slice_index_or c.self.inside.counts.counts c.page-entry.result.frame 0))
answer c = rw (← c.self.view_is) (cost-counted (table c) c.self.inside.counts c.args.page_index c.page-entry.result c.self.invariant.0 (here c))

pub returns-then-not-entry-clause-sharing : goal.returns-then-not-entry-clause-sharing
returns-then-not-entry-clause-sharing c pass = grind (arith, nat_tests, sharing-unbroken, here)

pub returns-then-not-entry-clause-used : goal.returns-then-not-entry-clause-used
returns-then-not-entry-clause-used c = grind (arith, answer, c.if-not-entry.true)

pub leave-requires-clause-room : goal.leave-requires-clause-room
leave-requires-clause-room c = grind (arith, nat_tests, answer)

pub returns-then-count-gt1-clause-used : goal.returns-then-count-gt1-clause-used
returns-then-count-gt1-clause-used c = grind (arith, nat_tests, answer)

pub returns-else-count-gt1-clause-used : goal.returns-else-count-gt1-clause-used
returns-else-count-gt1-clause-used c = grind (arith, nat_tests, answer)

pub returns-then-count-gt1-clause-frames : goal.returns-then-count-gt1-clause-frames
returns-then-count-gt1-clause-frames c none = grind (arith, nat_tests, answer)
