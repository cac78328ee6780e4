use Rattle.engines.specs.Replay.{AreVisits}
use Rattle.engines.specs.Sessions.{HasPerformed}
use Rattle.engines.proofs.session.Session.visit.Given as goal

-- the visits so far were made
abbrev pub invariant-loop-visit : goal.invariant-loop-visit
invariant-loop-visit g l =
    HasPerformed (AreVisits l._visit) l.fn.self l.self (g.W.Write.contents l.fn.writer) (g.W.Write.contents l.writer)
