use Rattle.page_table.proofs.Base.{◌≡◌, ℕ, ◌+◌, length, replicate, Some, with_part, new_page, zero_page, Entry, contents_of, states_of, groups_of, used_by, entry_at}
use Rattle.page_table.proofs.tenant_maps.add_pages.Given as goal

abbrev pub invariant-loop-number : goal.invariant-loop-number
invariant-loop-number l = record {
  contents : contents_of l.table ≡ with_part (contents_of l.fn.table) l.first (replicate l.number zero_page);
  states : states_of l.table.entries ≡ with_part (states_of l.fn.table.entries) l.first (replicate l.number (Some (new_page l.mergeable)));
  groups : groups_of l.table ≡ groups_of l.fn.table;
  used : used_by l.table ≡ used_by l.fn.table + l.number;
  arena : length l.table.arena ≡ length l.fn.table.arena;
  entries : length l.table.entries ≡ length l.fn.table.entries;
  kept : (i : ℕ) (entry : Entry) → entry_at l.fn.table.entries i ≡ Some entry → entry_at l.table.entries i ≡ Some entry;
}
