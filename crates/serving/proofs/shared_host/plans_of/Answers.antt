use Rattle.std.proofs.Common.{◌∙◌, ◌∷◌, ap, arith, length, refl, rules, sym}
use Rattle.std.specs.Vec.Iter.{into_iter_items}
use Rattle.std.proofs.lemmas.List.Elements.{All-head, All-push, All-rest, All-same}
use Rattle.std.proofs.lemmas.List.{length_push}
use Rattle.tenant_workers.specs.Plans.{IsFor}
use Rattle.serving.specs.AtFirst.{IsAtFirst}
use Rattle.serving.proofs.Opened.{pushed-new}
use Rattle.serving.proofs.shared_host.plans_of.Goals as goal

pub invariant_of-push : goal.invariant_of-push
invariant_of-push c =
    let left = into_iter_items c.next.new.self in
    let all = All-same (IsAtFirst c.args.shared.now) (c.in-Some.seat ∷ left) (into_iter_items c.loop-seat.seat-iterator) (sym c.in-Some.ensures.steps.0) c.loop-seat.invariant.first in
    let one = All-head (IsAtFirst c.args.shared.now) c.in-Some.seat left all in
    record { idle = one.idle; resting = rw one.first (record { running = refl; reserve = refl }) }

pub loop-seat-preserved : goal.loop-seat-preserved
loop-seat-preserved c =
    let left = into_iter_items c.next.new.self in
    let before = into_iter_items c.loop-seat.seat-iterator in
    let all = All-same (IsAtFirst c.args.shared.now) (c.in-Some.seat ∷ left) before (sym c.in-Some.ensures.steps.0) c.loop-seat.invariant.first in
    let one = All-head (IsAtFirst c.args.shared.now) c.in-Some.seat left all in
    let pushed = ap length c.in_ok-push.ensures.items ∙ length_push c.loop-seat.plans.items _ in
    record {
      first = All-rest (IsAtFirst c.args.shared.now) c.in-Some.seat left before c.in-Some.ensures.steps.0 c.loop-seat.invariant.first;
      own = rw (c.in_ok-push.ensures.items) (All-push (IsFor c.args.shared.now) c.loop-seat.plans.items _ c.loop-seat.invariant.own record { own = refl });
      new = pushed-new _ _ _ c.in_ok-push.ensures.items c.loop-seat.invariant.new one.first (search rules) (search rules);
      count = omega (arith, c.loop-seat.invariant.count, ap length c.in-Some.ensures.steps.0, pushed);
    }
