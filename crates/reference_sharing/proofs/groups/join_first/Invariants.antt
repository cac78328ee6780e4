use Rattle.std.proofs.Common.{◌≡◌, false, take}
use Rattle.std.specs.List.{list_any}
use Rattle.reference_sharing.specs.View.{indices_in, plain_contents, is_open_below}
use Rattle.reference_sharing.proofs.groups.join_first.Given as goal

-- no group before the index is open
abbrev pub invariant-loop-group : goal.invariant-loop-group
invariant-loop-group l = record {
  same : l.groups ≡ l.initial.groups;
  before : list_any (is_open_below l.limit (plain_contents l.contents) (plain_contents l.contents l.page_index)) (take l.group-index (indices_in l.groups)) ≡ false;
}
