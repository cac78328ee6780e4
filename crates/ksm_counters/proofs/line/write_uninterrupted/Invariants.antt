use Rattle.std.specs.Io.KnownBytes.{Keeps}
use Rattle.ksm_counters.proofs.line.write_uninterrupted.Given as goal

-- a write that was interrupted took nothing
abbrev pub invariant-loop-again : goal.invariant-loop-again
invariant-loop-again g l = Keeps (g.W.Write.contents l.fn.writer) (g.W.Write.contents l.writer)
