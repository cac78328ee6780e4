use Rattle.std.proofs.Common.{take}
use Rattle.engines.specs.Replay.{AreOfAll}
use Rattle.engines.specs.Sessions.{HasPerformed}
use Rattle.engines.proofs.session.Session.perform_all.Given as goal

-- the commands so far were performed
abbrev pub invariant-loop-number : goal.invariant-loop-number
invariant-loop-number g l =
    HasPerformed (AreOfAll l.fn.self.pages_to_scan (take l.number l.commands)) l.fn.self l.self (g.W.Write.contents l.fn.writer) (g.W.Write.contents l.writer)
