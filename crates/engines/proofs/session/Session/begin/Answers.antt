use Rattle.engines.proofs.Noting.{performs-begin}
use Rattle.engines.proofs.session.Session.begin.Goals as goal

pub returns-clause-performs : goal.returns-clause-performs
returns-clause-performs g c =
    let was = g.W.Write.contents c.args.writer.now in
    let is = g.W.Write.contents c.print.new.writer in
    let beginning = c.args.beginning.now in
    performs-begin c.begin-reply.new.self beginning.tenant beginning.program c.as_slice-context.result.now beginning.context.now c.begin-reply.result
    c.args.self.now c.print.new.self was is c.as_slice-context.ensures c.begin-reply.ensures c.in_ok-print.ensures.printed
