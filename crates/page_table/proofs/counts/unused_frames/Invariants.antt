use Rattle.page_table.proofs.Base.{◌≡◌, ◌≤◌, ◌+◌, ℕ, length, vec_capacity, times}
use Rattle.page_table.proofs.Entries.{one_when}
use Rattle.page_table.proofs.Counting.{is_between}
use Rattle.page_table.proofs.counts.unused_frames.Given as goal

abbrev pub invariant-loop-frame : goal.invariant-loop-frame
invariant-loop-frame l = record {
  listed : (f : ℕ) → times f l.unused.items ≡ one_when (is_between l.frame f);
  count : length l.unused.items + 1 ≡ l.frame;
  room : l.frames ≤ vec_capacity l.unused;
}
