use Rattle.std.proofs.Common.{All, take}
use Rattle.tenant_workers.specs.Plans.{IsFor}
use Rattle.serving.specs.Prepared.{HaveRuns}
use Rattle.serving.proofs.runs.add_runs.Given as goal

-- each plan is lent the same memory, and has the runs so far
abbrev pub invariant-loop-command : goal.invariant-loop-command
invariant-loop-command l = All (IsFor l.shared) l.plans × HaveRuns (take l.command-index l.commands) l.fn.plans l.plans
