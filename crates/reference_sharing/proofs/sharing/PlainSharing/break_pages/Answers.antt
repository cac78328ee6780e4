use Rattle.std.proofs.Common.{◌≡◌, ◌+◌, suc, arith}
use Rattle.host_types.specs.Sharing.{cost_from}
use Rattle.host_types.specs.Pins.{broken_for_run_from}
use Rattle.host_types.proofs.Pins.{cost-by}
use Rattle.reference_sharing.proofs.sharing.PlainSharing.break_pages.Goals as goal

pub overflow_add-page_index : goal.overflow_add-page_index
overflow_add-page_index c = omega (arith, c.requires, c.loop-number-test.true)

pub overflow_add-cost : goal.overflow_add-cost
overflow_add-cost c = omega (arith, c.loop-number.invariant.small, c.break_cost-cost.ensures.small, c.loop-number-test.true, c.ranges.count)

pub loop-number-preserved : goal.loop-number-preserved
unfolding broken_for_run_from cost_from
loop-number-preserved c =
    let next : c.args.first + (c.loop-number.number + 1) ≡ c.args.first + c.loop-number.number + 1 = omega arith in
    record {
      small = omega (arith, c.loop-number.invariant.small, c.break_cost-cost.ensures.small);
      broken = λ rest e. rw (c.break_by.ensures, next) (c.loop-number.invariant.broken (suc rest) (omega (arith, e)));
      cost = λ rest e.
          let known = c.loop-number.invariant.cost (suc rest) (omega (arith, e)) in
          let same = cost-by c.args.running c.loop-number.self (c.args.first + c.loop-number.number) (c.args.first + c.loop-number.number + 1) rest in
          rw (c.break_by.ensures, next, c.break_cost-cost.ensures.cost) (omega (arith, known, same));
    }

pub returns-clause-broken : goal.returns-clause-broken
unfolding broken_for_run_from
returns-clause-broken c = c.loop-number.invariant.broken 0 (omega (arith, c.loop-number-test.false, c.loop-number.auto.number-end))

pub returns-clause-cost : goal.returns-clause-cost
unfolding cost_from
returns-clause-cost c =
    let known = c.loop-number.invariant.cost 0 (omega (arith, c.loop-number-test.false, c.loop-number.auto.number-end)) in
    omega (arith, known)
