use Rattle.std.proofs.Common.{◌≡◌, length, map, take}
use Rattle.tenant_workers.specs.Calls.{IsSameSeat}
use Rattle.tenant_workers.specs.Replies.{AllReply}
use Rattle.tenant_workers.proofs.shared.Shared.run_all.Given as goal

abbrev pub invariant-loop-entry_index : goal.invariant-loop-entry_index
invariant-loop-entry_index g l = record {
  shared : l.plan.shared.now ≡ l.fn.plan.shared.now;
  programs : l.plan.programs.items ≡ l.fn.plan.programs.items;
  runs : l.plan.runs.items ≡ l.fn.plan.runs.items;
  same : IsSameSeat l.fn.plan.seat l.plan.seat;
  count : length l.plan.replies.items ≡ length l.plan.runs.items;
  replies : AllReply l.fn.plan.programs.items (take l.entry_index (map (λ run. (run.0, run.1.items)) l.fn.plan.runs.items))
      l.fn.plan.seat (take l.entry_index l.plan.replies.items) l.plan.seat;
}
