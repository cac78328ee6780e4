use Rattle.std.proofs.Common.{◌∙◌, arith}
use Rattle.turn.specs.Seats.{own_part}
use Rattle.tenant_workers.proofs.Driven.{drives_private, drives_on, drives_below, is_under_way, asked_now, ended_now, same_on}
use Rattle.tenant_workers.proofs.Turns.{gone_further}
use Rattle.tenant_workers.proofs.steps.drive.Goals as goal

pub go_on-requires : goal.go_on-requires
go_on-requires g c =
    let (idle, same, gone, driven) = c.loop-ret.invariant in
    let (s, under_way) = is_under_way c.args.program.now c.args.run.now (own_part c.args.seat.now) c.loop-ret.run (own_part c.loop-ret.seat) driven in
    record { running = (s, under_way.stands) }

pub loop-ret-smaller-in-Private : goal.loop-ret-smaller-in-Private
loop-ret-smaller-in-Private g c =
    let (idle, same, gone, driven) = c.loop-ret.invariant in
    let below = drives_below c.args.program.now c.args.run.now (own_part c.args.seat.now) c.loop-ret.run (own_part c.loop-ret.seat) driven in
    omega (arith, below, c.go_on.ensures.further)

pub loop-ret-preserved-in-Private : goal.loop-ret-preserved-in-Private
loop-ret-preserved-in-Private g c =
    let (idle, same, gone, driven) = c.loop-ret.invariant in
    (idle, same, gone, drives_private c.args.program.now c.args.run.now (own_part c.args.seat.now) c.loop-ret.run c.go_on.new.run (own_part c.loop-ret.seat) driven c.in-Private.ensures.follows)

pub returns-in-Ended-clause-ended : goal.returns-in-Ended-clause-ended
returns-in-Ended-clause-ended g c s under_way =
    let (idle, same, gone, driven) = c.loop-ret.invariant in
    let followed = driven.followed s under_way in
    let (n, follows, more) = c.in-Ended.ensures.follows followed.state followed.under_way.stands in
    let (m, reaches, count) = ended_now c.args.program.now c.args.run.now c.loop-ret.run c.go_on.new.run s c.in-Ended.ret n (own_part c.loop-ret.seat) followed follows more in
    (m, reaches, c.steps.ensures ∙ count)

pub returns-in-Ended-clause-few : goal.returns-in-Ended-clause-few
returns-in-Ended-clause-few g c =
    let (idle, same, gone, driven) = c.loop-ret.invariant in
    let (s, under_way) = is_under_way c.args.program.now c.args.run.now (own_part c.args.seat.now) c.loop-ret.run (own_part c.loop-ret.seat) driven in
    let (n, (before, t, counted, reaches, maps, makes, few), more) = c.in-Ended.ensures.follows s under_way.stands in
    rw c.steps.ensures few

pub fulfil-requires : goal.fulfil-requires
fulfil-requires g c =
    let (idle, same, gone, driven) = c.loop-ret.invariant in
    let (s, under_way) = is_under_way c.args.program.now c.args.run.now (own_part c.args.seat.now) c.loop-ret.run (own_part c.loop-ret.seat) driven in
    let (n, follows, more) = c.go_on.ensures.follows s under_way.stands in
    let asked = asked_now c.args.program.now c.loop-ret.run c.go_on.new.run s c.go_on.result (own_part c.loop-ret.seat) n under_way c.in_default.not-Private c.in_default.not-Ended follows in
    record { idle = idle; asks = (asked.state, asked.asking) }

pub loop-ret-smaller : goal.loop-ret-smaller
loop-ret-smaller g c =
    let (idle, same, gone, driven) = c.loop-ret.invariant in
    let below = drives_below c.args.program.now c.args.run.now (own_part c.args.seat.now) c.loop-ret.run (own_part c.loop-ret.seat) driven in
    omega (arith, below, c.go_on.ensures.further, c.fulfil.ensures.steps)

pub loop-ret-preserved : goal.loop-ret-preserved
loop-ret-preserved g c =
    let (idle, same, gone, driven) = c.loop-ret.invariant in
    let driven_on = drives_on c.args.program.now c.args.run.now (own_part c.args.seat.now) c.loop-ret.run c.go_on.new.run c.fulfil.new.run c.go_on.result (own_part c.loop-ret.seat) (own_part c.fulfil.new.seat) driven
    c.in_default.not-Private c.in_default.not-Ended c.go_on.ensures.follows c.fulfil.ensures.steps c.fulfil.ensures.goes_on in
    (c.fulfil.ensures.idle, same_on c.args.seat.now c.loop-ret.seat c.fulfil.new.seat same c.fulfil.ensures.same, gone_further c.args.seat.now c.loop-ret.seat c.fulfil.new.seat gone c.fulfil.ensures.turns, driven_on)
