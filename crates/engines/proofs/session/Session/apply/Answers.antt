use Rattle.engines.proofs.Noting.{performs-printed}
use Rattle.engines.proofs.session.Session.apply.Goals as goal

pub returns-clause-performs : goal.returns-clause-performs
returns-clause-performs g c =
    let was = g.W.Write.contents c.args.writer.now in
    let is = g.W.Write.contents c.print.new.writer in
    performs-printed c.apply-reply.new.self c.args.event.now c.apply-reply.result c.args.self.now c.print.new.self was is
    c.apply-reply.ensures c.in_ok-print.ensures.printed
