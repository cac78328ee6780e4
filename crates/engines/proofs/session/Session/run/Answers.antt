use Rattle.std.proofs.Common.{true≢false, sym, ◌∙◌, subst}
use Rattle.std.proofs.lemmas.Result.{on_ok_weaker}
use Rattle.engines.specs.Beginnings.{begin_event}
use Rattle.engines.specs.Sessions.{IsOneEvent, HasPerformed}
use Rattle.engines.proofs.Noting.{performs-run, performs-no_run}
use Rattle.engines.proofs.session.Session.run.Goals as goal

pub returns-then-not-is_begun-clause-performs : goal.returns-then-not-is_begun-clause-performs
returns-then-not-is_begun-clause-performs g c =
    let was = g.W.Write.contents c.args.writer.now in
    let is = g.W.Write.contents c.begin.new.writer in
    let beginning = c.args.beginning.now in
    performs-no_run c.args.self.now.pages_to_scan beginning.tenant beginning.program beginning.context.now c.in_ok-reply.reply c.args.self.now c.begin.new.self was is
    (λ begun. true≢false (sym (c.is_begun.ensures.1 begun) ∙ c.if-not-is_begun.true)) c.in_ok-reply.ensures.performs

pub returns-clause-performs : goal.returns-clause-performs
returns-clause-performs g c =
    let was = g.W.Write.contents c.args.writer.now in
    let half = g.W.Write.contents c.begin.new.writer in
    let is = g.W.Write.contents c.finish.new.writer in
    let beginning = c.args.beginning.now in
    let begun = subst (λ reply. HasPerformed (IsOneEvent (begin_event beginning) reply) c.args.self.now c.begin.new.self was half) (c.is_begun.ensures.0 c.if-not-is_begun.false) c.in_ok-reply.ensures.performs in
    on_ok_weaker c.finish.result
    (performs-run c.args.self.now.pages_to_scan beginning.tenant beginning.program beginning.context.now c.args.self.now c.begin.new.self c.finish.new.self was half is begun)
    c.finish.ensures.performs
