use Rattle.std.proofs.Common.{◌≡◌, ◌≤◌, vec_len, vec_capacity, replicate, Err}
use Rattle.host_types.specs.declared.fault.Fault.TheVariants.{OutOfMemory}
use Rattle.tenant_workers.proofs.plans.TenantPlan.refuse_all.Given as goal

abbrev pub invariant-loop-run : goal.invariant-loop-run
invariant-loop-run l = record {
  count : vec_len l.self.runs ≡ l.runs;
  room : l.runs ≤ vec_capacity l.self.replies;
  shared : l.self.shared.now ≡ l.fn.self.shared.now;
  seat : l.self.seat ≡ l.fn.self.seat;
  programs : l.self.programs.items ≡ l.fn.self.programs.items;
  runs : l.self.runs.items ≡ l.fn.self.runs.items;
  replies : l.self.replies.items ≡ replicate l._run (Err OutOfMemory);
}
