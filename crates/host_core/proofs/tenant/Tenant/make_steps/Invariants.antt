use Rattle.std.proofs.Common.{◌≡◌, ◌+◌, ℕ, None}
use Rattle.host_core.specs.HostView.{IsKept, HasMadeSteps, HasCounted}
use Rattle.host_core.proofs.tenant.Tenant.make_steps.Given as goal

abbrev pub invariant-loop-left : goal.invariant-loop-left
invariant-loop-left l = record {
  kept : IsKept l.number l.self l.memory;
  before : (n : ℕ) × (n + l.left ≡ l.limit) × HasMadeSteps l.number l.fn.self l.fn.memory n None l.self l.memory × HasCounted l.fn.self n None l.self;
}

abbrev pub decreases-loop-left : goal.decreases-loop-left
decreases-loop-left l = l.left
