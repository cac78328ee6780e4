use Rattle.std.proofs.Common.{◌≡◌, ◌+◌, [], ◌∷◌, ◌++◌, take, refl, ap, ◌∙◌, sym, subst, arith}
use Rattle.std.proofs.lemmas.List.{take_more, take_all}
use Rattle.host_core.specs.Happens.{AllHappen}
use Rattle.host_core.proofs.Hosting.{AllHappen-push}
use Rattle.host_core.proofs.host.Host.apply_all.Goals as goal

pub loop-event-init : goal.loop-event-init
loop-event-init c = record {
  room = c.in_ok-replies.ensures.exact;
  given = c.in_ok-replies.ensures.len;
  happen = λ x stands. (x, stands, subst (λ replies. AllHappen x [] replies x) (sym c.in_ok-replies.ensures.items) refl);
}

pub push_reserved-requires : goal.push_reserved-requires
push_reserved-requires c = omega (arith, c.loop-event.invariant.room, c.loop-event.invariant.given)

pub loop-event-preserved : goal.loop-event-preserved
loop-event-preserved c =
    let events = c.args.events.now in
    let before = take c.loop-event.event-index events in
    let one_more : take (c.loop-event.event-index + 1) events ≡ before ++ c.event-item.result ∷ [] =
    take_more events c.loop-event.event-index c.event-item.result c.loop-event-test.true ∙ ap (λ event. before ++ event ∷ []) (sym c.event-item.is) in
    record {
      room = c.push_reserved.ensures.capacity ∙ c.loop-event.invariant.room;
      given = omega (arith, c.push_reserved.ensures.len, c.loop-event.invariant.given);
      happen = λ x stands.
          let first = c.loop-event.invariant.happen x stands in
          let after = c.apply-reply.ensures first.0 first.1 in
          let happens = AllHappen-push x first.0 after.0 before c.loop-event.replies.items c.event-item.result c.apply-reply.result first.2 after.2 after.3 after.4 in (
            after.0,
            after.1,
            subst (λ some. AllHappen x some c.push_reserved.new.self.items after.0) (sym one_more)
                (subst (λ replies. AllHappen x (before ++ c.event-item.result ∷ []) replies after.0) (sym c.push_reserved.ensures.items) happens),
          );
    }

pub returns : goal.returns
returns c = record {
  happen = λ x stands.
      let all = c.loop-event.invariant.happen x stands in
      (all.0, all.1, subst (λ some. AllHappen x some c.loop-event.replies.items all.0) (take_all c.loop-event.event-index c.args.events.now c.loop-event-test.false) all.2);
  refused = tt;
}
