use Rattle.std.proofs.Common.{◌≡◌, ◌≤◌, ◌*◌, sum_by, take, length}
use Rattle.reference_sharing.specs.View.{indices_in}
use Rattle.reference_sharing.proofs.groups.members.Given as goal

abbrev pub invariant-loop-group : goal.invariant-loop-group
invariant-loop-group l = record {
  sum : l.members ≡ sum_by (λ group. length group) (take l.group-index (indices_in l.groups));
  small : l.members ≤ l.group-index * 18446744073709551616;
}
