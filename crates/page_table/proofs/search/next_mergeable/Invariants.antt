use Rattle.page_table.proofs.Base.{◌≡◌, ◌+◌, ◌*◌, ◌≤◌, drop, first_mergeable, states_of}
use Rattle.page_table.proofs.search.next_mergeable.Given as goal

-- no page before the index may be merged, and the index is in the map or at its end
abbrev pub invariant-loop-index : goal.invariant-loop-index
invariant-loop-index l = record {
  first : l.index * 256 ≤ l.at;
  last : l.at ≤ l.index * 256 + 256;
  same : first_mergeable l.from (drop l.from (states_of l.table.entries)) ≡ first_mergeable l.at (drop l.at (states_of l.table.entries));
}
