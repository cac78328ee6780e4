use Rattle.std.proofs.Common.{◌≤◌, ◌+◌, length, vec_len, vec_capacity, All}
use Rattle.std.specs.Vec.Iter.{into_iter_items}
use Rattle.tenant_workers.specs.Jobs.{IsJobBegun, MayBecome}
use Rattle.tenant_workers.proofs.Jobs.{Awaits}
use Rattle.tenant_workers.proofs.threads.begin_all.Given as goal

abbrev pub invariant-loop-job : goal.invariant-loop-job
invariant-loop-job g l =
    All g.T.Job.is_ready (into_iter_items l.job-iterator)
    × (vec_len l.begun + length (into_iter_items l.job-iterator) ≤ vec_capacity l.begun)
    × Awaits (IsJobBegun (MayBecome g.T.Job.is_done g.T.Job.is_refused)) l.fn.jobs.items (into_iter_items l.job-iterator) l.begun.items
