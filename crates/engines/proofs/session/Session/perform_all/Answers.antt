use Rattle.std.proofs.Common.{◌≡◌, ◌+◌, [], ◌∷◌, ◌++◌, take, ap, ◌∙◌, sym, subst}
use Rattle.std.proofs.lemmas.List.{take_more, take_all}
use Rattle.engines.specs.Replay.{AreOfAll}
use Rattle.engines.specs.Sessions.{HasPerformed}
use Rattle.engines.proofs.Noting.{performs-none, performs-push}
use Rattle.engines.proofs.session.Session.perform_all.Goals as goal

pub loop-number-init : goal.loop-number-init
loop-number-init g c = performs-none c.args.self.now.pages_to_scan c.args.self.now (g.W.Write.contents c.args.writer.now)

pub loop-number-preserved : goal.loop-number-preserved
loop-number-preserved g c =
    let commands = c.args.commands.now in
    let command = c.index-commands-number.result in
    let before = take c.loop-number.number commands in
    let was = g.W.Write.contents c.args.writer.now in
    let half = g.W.Write.contents c.loop-number.writer in
    let is = g.W.Write.contents c.perform.new.writer in
    let one_more : take (c.loop-number.number + 1) commands ≡ before ++ command ∷ [] =
    take_more commands c.loop-number.number command c.loop-number-test.true ∙ ap (λ x. before ++ x ∷ []) (sym c.index-commands-number.is) in
    subst (λ some. HasPerformed (AreOfAll c.args.self.now.pages_to_scan some) c.args.self.now c.perform.new.self was is) (sym one_more)
    (performs-push before command c.args.self.now c.loop-number.self c.perform.new.self was half is c.loop-number.invariant c.in_ok-perform.ensures.performs)

pub returns : goal.returns
returns g c =
    let was = g.W.Write.contents c.args.writer.now in
    let is = g.W.Write.contents c.loop-number.writer in
    record {
      performs = subst (λ some. HasPerformed (AreOfAll c.args.self.now.pages_to_scan some) c.args.self.now c.loop-number.self was is)
          (take_all c.loop-number.number c.args.commands.now c.loop-number-test.false) c.loop-number.invariant;
      bad = tt;
    }
