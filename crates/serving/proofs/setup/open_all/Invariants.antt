use Rattle.std.proofs.Common.{All, take}
use Rattle.tenant_workers.specs.Plans.{IsFor}
use Rattle.serving.specs.Opened.{HaveOpened, IsSettable}
use Rattle.serving.proofs.setup.open_all.Given as goal

-- each plan is lent the same memory, each tenant has what the commands so far gave it, and these set no option to a value
-- that it can't have
abbrev pub invariant-loop-number : goal.invariant-loop-number
invariant-loop-number g l = record {
  own : All (IsFor l.shared) l.plans;
  opened : HaveOpened (take l.number l.commands) l.fn.plans l.plans;
  settable : All IsSettable (take l.number l.commands);
}
