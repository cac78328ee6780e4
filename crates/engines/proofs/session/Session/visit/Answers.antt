use Rattle.std.proofs.Common.{◌≡◌, arith, subst}
use Rattle.engines.specs.Replay.{AreVisits}
use Rattle.engines.specs.Sessions.{HasPerformed}
use Rattle.engines.proofs.Noting.{performs-no_visit, performs-visit}
use Rattle.engines.proofs.session.Session.visit.Goals as goal

pub loop-visit-init : goal.loop-visit-init
loop-visit-init g c =
    performs-no_visit c.args.self.now (g.W.Write.contents c.args.writer.now) (g.W.Write.contents c.flush.new.self) c.flush.ensures.bytes

pub loop-visit-preserved : goal.loop-visit-preserved
loop-visit-preserved g c =
    let was = g.W.Write.contents c.args.writer.now in
    let half = g.W.Write.contents c.loop-visit.writer in
    let is = g.W.Write.contents c.apply.new.writer in
    performs-visit c.loop-visit._visit c.in_ok-apply.field-0 c.args.self.now c.loop-visit.self c.apply.new.self was half is
    c.loop-visit.invariant c.in_ok-apply.ensures.performs

pub returns-clause-performs : goal.returns-clause-performs
returns-clause-performs g c =
    let was = g.W.Write.contents c.args.writer.now in
    let is = g.W.Write.contents c.loop-visit.writer in
    let all : c.loop-visit._visit ≡ c.args.count = omega (arith, c.loop-visit-test.false, c.loop-visit.auto._visit-end) in
    subst (λ n. HasPerformed (AreVisits n) c.args.self.now c.loop-visit.self was is) all c.loop-visit.invariant
