use Rattle.std.proofs.Common.{◌≡◌, ◌≤◌, ◌-◌, length, drop}
use Rattle.host_core.specs.Many.{RunsFirst}
use Rattle.host_core.specs.World.{System}
use Rattle.host_core.specs.HostView.{StandsForSystem}
use Rattle.host_core.proofs.host.Host.run_many.Given as goal

-- the runs so far ended, and the numbers that are still to be written are as they were
abbrev pub invariant-loop-done : goal.invariant-loop-done
invariant-loop-done l = record {
  within : l.done ≤ length l.fn.rets;
  long : length l.rets ≡ length l.fn.rets;
  others : drop l.done l.rets ≡ drop l.done l.fn.rets;
  runs : (x : System) → StandsForSystem l.fn.self x → (next : System) × StandsForSystem l.self next × RunsFirst l.tenant l.program l.contexts l.size l.rets l.done x next;
}

abbrev pub decreases-loop-done : goal.decreases-loop-done
decreases-loop-done l = length l.fn.rets - l.done
