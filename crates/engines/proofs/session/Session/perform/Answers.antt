use Rattle.std.proofs.Common.{subst, OnOk}
use Rattle.std.proofs.lemmas.Result.{on_ok_weaker}
use Rattle.host_file.specs.declared.command.Command.TheVariants as command
use Rattle.engines.specs.Replay.{AreOf, AreVisits}
use Rattle.engines.specs.Sessions.{AreStepsMade, IsOneEvent, HasPerformed}
use Rattle.engines.proofs.Noting.{made-up_to, performs-as}
use Rattle.engines.proofs.session.Session.perform.Goals as goal

pub returns-in_ok-apply-in-Apply-clause-performs : goal.returns-in_ok-apply-in-Apply-clause-performs
returns-in_ok-apply-in-Apply-clause-performs g c =
    let was = g.W.Write.contents c.args.writer.now in
    let is = g.W.Write.contents c.apply.new.writer in
    let event = c.in-Apply.event in
    let reply = c.in_ok-apply-in-Apply.field-0 in
    rw c.in-Apply.is (performs-as (IsOneEvent event reply) (AreOf c.args.self.now.pages_to_scan (command.Apply event))
    c.args.self.now c.apply.new.self was is (λ events replies alone. (reply, alone.0, alone.1)) c.in_ok-apply-in-Apply.ensures.performs)

pub returns-in-Step-clause-performs : goal.returns-in-Step-clause-performs
returns-in-Step-clause-performs g c =
    let was = g.W.Write.contents c.args.writer.now in
    let is = g.W.Write.contents c.make_steps.new.writer in
    let pages = c.args.self.now.pages_to_scan in
    let t = c.in-Step.tenant in
    let limit = c.from.result in
    rw c.in-Step.is (subst (λ n. OnOk c.make_steps.result (HasPerformed (AreOf pages (command.Step t n)) c.args.self.now c.make_steps.new.self was is)) c.from.ensures
    (on_ok_weaker c.make_steps.result
    (performs-as (AreStepsMade t limit) (AreOf pages (command.Step t limit)) c.args.self.now c.make_steps.new.self was is (made-up_to t limit))
    c.make_steps.ensures.performs))

pub returns-in-Finish-clause-performs : goal.returns-in-Finish-clause-performs
returns-in-Finish-clause-performs g c = rw c.in-Finish.is c.finish.ensures.performs

pub returns-in-Run-clause-performs : goal.returns-in-Run-clause-performs
returns-in-Run-clause-performs g c = rw c.in-Run.is c.run.ensures.performs

pub returns-in-Visit-clause-performs : goal.returns-in-Visit-clause-performs
returns-in-Visit-clause-performs g c =
    let was = g.W.Write.contents c.args.writer.now in
    let is = g.W.Write.contents c.visit.new.writer in
    rw c.in-Visit.is (subst (λ n. OnOk c.visit.result (HasPerformed (AreVisits n) c.args.self.now c.visit.new.self was is)) c.unwrap_or-count.ensures
    c.visit.ensures.performs)
