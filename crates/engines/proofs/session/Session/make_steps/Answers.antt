use Rattle.engines.proofs.Noting.{performs-steps, performs-stepped}
use Rattle.engines.proofs.session.Session.make_steps.Goals as goal

pub returns-in_default-clause-performs : goal.returns-in_default-clause-performs
returns-in_default-clause-performs g c =
    let taken = g.W.Write.contents c.args.writer.now in
    performs-stepped c.make_steps.new.self c.args.tenant c.args.limit c.args.self.now taken c.in_default.ensures.steps c.in_default.ensures.ends

pub returns-clause-performs : goal.returns-clause-performs
returns-clause-performs g c =
    let was = g.W.Write.contents c.args.writer.now in
    let is = g.W.Write.contents c.print.new.writer in
    performs-steps c.make_steps.new.self c.args.tenant c.args.limit c.in-Some.reply c.args.self.now c.print.new.self was is c.in-Some.ensures.steps c.in_ok-print.ensures.printed
