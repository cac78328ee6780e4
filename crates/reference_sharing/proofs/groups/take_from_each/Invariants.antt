use Rattle.std.proofs.Common.{◌≡◌, ◌++◌, map, take, drop}
use Rattle.host_types.specs.Sharing.{without}
use Rattle.reference_sharing.specs.View.{indices_in}
use Rattle.reference_sharing.proofs.groups.take_from_each.Given as goal

abbrev pub invariant-loop-group : goal.invariant-loop-group
invariant-loop-group l = indices_in l.groups ≡ map (without l.page_index) (take l.group-index (indices_in l.initial.groups)) ++ drop l.group-index (indices_in l.initial.groups)
