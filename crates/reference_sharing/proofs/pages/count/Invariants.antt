use Rattle.std.proofs.Common.{◌≡◌, ◌≤◌, take, sum_by}
use Rattle.reference_sharing.specs.View.{page_states, one_of}
use Rattle.reference_sharing.proofs.pages.count.Given as goal

abbrev pub invariant-loop-page : goal.invariant-loop-page
invariant-loop-page l = record {
  count : l.count ≡ sum_by (one_of l.sort) (take l.page-index (page_states l.pages));
  small : l.count ≤ l.page-index;
}
