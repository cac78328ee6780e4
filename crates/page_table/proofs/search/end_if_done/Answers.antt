use Rattle.page_table.proofs.Base.{◌+◌, ℕ, drop, Option, nat_tests, arith, first_mergeable, moved_on, TableState, states_of}
use Rattle.page_table.proofs.Partners.{pass-ended, ahead-next}
use Rattle.page_table.proofs.search.end_if_done.Goals as goal
use Rattle.page_table.proofs.search.end_if_done.Goals.{After-is_some}

-- the page that is found after an index
abbrev next : TableState → ℕ → Option ℕ
next table c = first_mergeable (c + 1) (drop (c + 1) (states_of table.entries))

pub returns-then-is_some-clause-ended : goal.returns-then-is_some-clause-ended
unfolding moved_on
returns-then-is_some-clause-ended c = grind (arith, nat_tests)

pub returns-then-is_some-clause-ahead : goal.returns-then-is_some-clause-ahead
returns-then-is_some-clause-ahead c = grind (arith, nat_tests, ahead-next)

pub returns-clause-ended : goal.returns-clause-ended
unfolding moved_on
returns-clause-ended c = grind (arith, nat_tests)

pub returns-clause-kept : goal.returns-clause-kept
returns-clause-kept c is = rw c.end.ensures (pass-ended c.args.table.now c.args.pass.now _ is)
