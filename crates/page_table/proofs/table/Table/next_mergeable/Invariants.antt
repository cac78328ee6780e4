use Rattle.page_table.proofs.Base.{◌≡◌, ℕ, ◌<◌, ◌≤◌, false, slice_index_or, None, is_mergeable, states_of}
use Rattle.page_table.proofs.table.Table.next_mergeable.Given as goal

-- no page before the index may be merged
abbrev pub invariant-loop-page_index : goal.invariant-loop-page_index
invariant-loop-page_index l =
    (i : ℕ) → l.from ≤ i → i < l.page_index → is_mergeable (slice_index_or (states_of l.self.entries) i None) ≡ false
