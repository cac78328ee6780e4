use Rattle.std.proofs.Common.{◌≡◌, ◌≤◌, ◌+◌, [], take, drop}
use Rattle.host_types.specs.Counters.{seconds_following}
use Rattle.reference_sharing.specs.View.{plain_contents, bytes_of_each}
use Rattle.reference_sharing.proofs.groups.count_seconds.Given as goal

abbrev pub invariant-loop-index : goal.invariant-loop-index
invariant-loop-index l = record {
  counted : l.count + seconds_following (take l.index (bytes_of_each (plain_contents l.contents) l.groups)) (drop l.index (bytes_of_each (plain_contents l.contents) l.groups)) ≡ seconds_following [] (bytes_of_each (plain_contents l.contents) l.groups);
  few : l.count ≤ l.index;
}
