use Rattle.std.proofs.Common.{◌≡◌, ◌≤◌, List, Option, length, drop}
use Rattle.verifier.specs.Verified.{Accepted}
use Rattle.host_core.specs.HostView.{IsKept}
use Rattle.host_core.specs.WholeRuns.{IsReady, HaveRunFirst, idle_tenant}
use Rattle.host_core.proofs.tenant.OpenRun.make_runs.Given as goal

-- the runs so far ended and left the tenant without one, and the numbers that are still to be written are as they were
abbrev pub invariant-loop-index : goal.invariant-loop-index
invariant-loop-index l = record {
  program : l.self.program ≡ l.fn.self.program;
  further : l.from ≤ l.index;
  long : length l.rets ≡ length l.fn.rets;
  others : drop l.index l.rets ≡ drop l.index l.fn.rets;
  rests : (programs : List (Option Accepted)) → IsReady programs l.fn.self.program l.program l.number l.fn.memory → IsKept l.number (idle_tenant programs) l.memory;
  runs : (programs : List (Option Accepted)) → IsReady programs l.fn.self.program l.program l.number l.fn.memory
      → HaveRunFirst programs l.number l.fn.self.program l.contexts l.size l.fn.rets l.from l.fn.memory l.rets l.index l.memory;
}
