use Rattle.page_table.proofs.Base.{◌≡◌, ◌≤◌, take, pages_on}
use Rattle.page_table.proofs.table.count_on.Given as goal

abbrev pub invariant-loop-entry : goal.invariant-loop-entry
invariant-loop-entry l = record {
  count : l.count ≡ pages_on l.frame (take l.entry-index l.entries);
  few : l.count ≤ l.entry-index;
}
