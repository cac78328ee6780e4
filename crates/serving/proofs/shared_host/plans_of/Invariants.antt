use Rattle.std.proofs.Common.{◌≡◌, ◌+◌, All, length}
use Rattle.std.specs.Vec.Iter.{into_iter_items}
use Rattle.tenant_workers.specs.Plans.{IsFor}
use Rattle.serving.specs.AtFirst.{IsAtFirst}
use Rattle.serving.specs.Opened.{IsNewPlan}
use Rattle.serving.proofs.shared_host.plans_of.Given as goal

-- the seats that are left are as at first, and each plan so far is new and lent the same memory
abbrev pub invariant-loop-seat : goal.invariant-loop-seat
invariant-loop-seat l = record {
  first : All (IsAtFirst l.shared) (into_iter_items l.seat-iterator);
  own : All (IsFor l.shared) l.plans.items;
  new : All IsNewPlan l.plans.items;
  count : length l.plans.items + length (into_iter_items l.seat-iterator) ≡ length l.fn.seats.items;
}
