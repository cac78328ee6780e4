use Rattle.std.proofs.Common.{◌∙◌, ◌==◌, ℕ, [], if◌then◌else◌, ap, arith}
use Rattle.host_types.specs.Counters.{seconds_following}
use Rattle.reference_sharing.specs.View.{plain_contents, bytes_of_each}
use Rattle.reference_sharing.proofs.Counts.{one_of, small_of, length-each, counted_second, counted_all}
use Rattle.reference_sharing.proofs.groups.count_seconds.Goals as goal

pub loop-index-preserved : goal.loop-index-preserved
loop-index-preserved c =
    let long = length-each (plain_contents c.args.contents.now) c.args.groups.now in
    let one = one_of (c.count_before.result == 1) c.from-count.result c.from-count.ensures in
    let small = small_of (c.count_before.result == 1) c.from-count.result c.from-count.ensures in
    record {
      counted = counted_second (bytes_of_each (plain_contents c.args.contents.now) c.args.groups.now) c.loop-index.index c.loop-index.count c.from-count.result (seconds_following [] (bytes_of_each (plain_contents c.args.contents.now) c.args.groups.now))
          (omega (arith, long, c.loop-index-test.true)) c.loop-index.invariant.counted (one ∙ ap (λ (n : ℕ). if n == 1 then 1 else 0) c.count_before.ensures);
      few = omega (arith, small, c.loop-index.invariant.few);
    }

pub returns : goal.returns
returns c =
    let long = length-each (plain_contents c.args.contents.now) c.args.groups.now in
    counted_all (bytes_of_each (plain_contents c.args.contents.now) c.args.groups.now) c.loop-index.index c.loop-index.count (seconds_following [] (bytes_of_each (plain_contents c.args.contents.now) c.args.groups.now)) (omega (arith, long, c.loop-index-test.false)) c.loop-index.invariant.counted
