use Rattle.std.proofs.Common.{nat_lt}
use Rattle.host_types.specs.Counters.{times_among}
use Rattle.reference_sharing.specs.View.{plain_contents, bytes_of_each}
use Rattle.reference_sharing.proofs.Counts.{AreCounted}
use Rattle.reference_sharing.proofs.groups.count_repeated.Given as goal

abbrev pub invariant-loop-group : goal.invariant-loop-group
invariant-loop-group l = AreCounted (λ bytes. nat_lt 1 (times_among bytes (bytes_of_each (plain_contents l.contents) l.groups))) (plain_contents l.contents) l.groups l.group-index l.count
