use Rattle.std.proofs.Common.{◌≤◌, drop}
use Rattle.std.specs.Slice.Iter.{iter_rest}
use Rattle.serving.specs.RunLines.{beginnings_for, run_tellings}
use Rattle.serving.proofs.Tellings.{IsPrintedUpTo}
use Rattle.serving.proofs.results.print_tenant.Given as goal

-- the lines so far were reported, and those of the runs that are left are to follow
abbrev pub invariant-loop-number : goal.invariant-loop-number
invariant-loop-number g l = record {
  few : l.begun ≤ l.number;
  lines : IsPrintedUpTo (run_tellings (beginnings_for l.tenant l.commands) l.fn.replies 0) (run_tellings (beginnings_for l.tenant (drop l.number l.commands)) (iter_rest l.replies) l.begun)
      l.fn.printed.has_refused l.printed.has_refused (g.W.Write.contents l.fn.writer) (g.W.Write.contents l.writer);
}
