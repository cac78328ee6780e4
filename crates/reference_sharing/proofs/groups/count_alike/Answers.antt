use Rattle.std.proofs.Common.{◌≡◌, bytes_eq, refl, arith}
use Rattle.host_types.specs.Counters.{times_among}
use Rattle.host_types.specs.Visits.{group_bytes}
use Rattle.reference_sharing.specs.View.{plain_contents}
use Rattle.reference_sharing.proofs.Counts.{counted_group, counted_each}
use Rattle.reference_sharing.proofs.groups.count_alike.Goals as goal

pub loop-group-init : goal.loop-group-init
loop-group-init c = record { counted = refl; few = omega arith }

pub loop-group-preserved : goal.loop-group-preserved
loop-group-preserved c =
    let paired_or_waiting : c.has_bytes.result ≡ bytes_eq (group_bytes (plain_contents c.args.contents.now) c.group-item.result.items) c.args.bytes.now = rw (← c.deref.ensures.value) c.has_bytes.ensures in
    counted_group (λ other. bytes_eq other c.args.bytes.now) (plain_contents c.args.contents.now) c.args.groups.now c.loop-group.group-index c.loop-group.count c.from-count.result c.group-item.result c.has_bytes.result
    c.loop-group-test.true (rw (← c.group-item.is) refl) c.loop-group.invariant paired_or_waiting c.from-count.ensures

pub returns : goal.returns
unfolding times_among
returns c = counted_each (λ other. bytes_eq other c.args.bytes.now) (plain_contents c.args.contents.now) c.args.groups.now c.loop-group.group-index c.loop-group.count (omega (arith, c.loop-group-test.false)) c.loop-group.invariant
