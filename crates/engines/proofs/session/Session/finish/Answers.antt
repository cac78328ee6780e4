use Rattle.std.proofs.Common.{arith}
use Rattle.std.proofs.lemmas.Result.{on_ok_weaker}
use Rattle.engines.specs.Replay.{AreStepsToEnd}
use Rattle.engines.specs.Sessions.{AreStepsMade}
use Rattle.engines.proofs.Noting.{made-to_end, performs-as}
use Rattle.engines.proofs.session.Session.finish.Goals as goal

pub returns-clause-performs : goal.returns-clause-performs
returns-clause-performs g c =
    let t = c.args.tenant in
    let was = g.W.Write.contents c.args.writer.now in
    let is = g.W.Write.contents c.make_steps.new.writer in
    on_ok_weaker c.make_steps.result
    (performs-as (AreStepsMade t 18446744073709551615) (AreStepsToEnd t) c.args.self.now c.make_steps.new.self was is
    (made-to_end t 18446744073709551615 (omega arith)))
    c.make_steps.ensures.performs
