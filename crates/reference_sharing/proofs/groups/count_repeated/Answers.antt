use Rattle.std.proofs.Common.{◌≡◌, nat_lt, refl, arith}
use Rattle.host_types.specs.Counters.{times_among, repeated_among}
use Rattle.host_types.specs.Visits.{group_bytes}
use Rattle.reference_sharing.specs.View.{plain_contents, bytes_of_each}
use Rattle.reference_sharing.proofs.Counts.{counted_group, counted_each}
use Rattle.reference_sharing.proofs.groups.count_repeated.Goals as goal

pub loop-group-init : goal.loop-group-init
loop-group-init c = record { counted = refl; few = omega arith }

pub loop-group-preserved : goal.loop-group-preserved
loop-group-preserved c =
    let paired_or_waiting : c.is_repeated.result ≡ nat_lt 1 (times_among (group_bytes (plain_contents c.args.contents.now) c.group-item.result.items) (bytes_of_each (plain_contents c.args.contents.now) c.args.groups.now)) = rw (← c.deref.ensures.value) c.is_repeated.ensures in
    counted_group (λ bytes. nat_lt 1 (times_among bytes (bytes_of_each (plain_contents c.args.contents.now) c.args.groups.now))) (plain_contents c.args.contents.now) c.args.groups.now c.loop-group.group-index c.loop-group.count c.from-count.result c.group-item.result c.is_repeated.result
    c.loop-group-test.true (rw (← c.group-item.is) refl) c.loop-group.invariant paired_or_waiting c.from-count.ensures

pub returns : goal.returns
unfolding repeated_among
returns c = counted_each (λ bytes. nat_lt 1 (times_among bytes (bytes_of_each (plain_contents c.args.contents.now) c.args.groups.now))) (plain_contents c.args.contents.now) c.args.groups.now c.loop-group.group-index c.loop-group.count (omega (arith, c.loop-group-test.false)) c.loop-group.invariant
