use Rattle.std.proofs.Common.{◌≤◌, ◌+◌, length, vec_len, vec_capacity}
use Rattle.std.specs.Vec.Iter.{into_iter_items}
use Rattle.tenant_workers.specs.Jobs.{IsJobDone, MayBecome}
use Rattle.tenant_workers.proofs.Jobs.{Awaits}
use Rattle.tenant_workers.proofs.threads.end_all.Given as goal

abbrev pub invariant-loop-one : goal.invariant-loop-one
invariant-loop-one g l =
    (vec_len l.done + length (into_iter_items l.one-iterator) ≤ vec_capacity l.done)
    × Awaits (IsJobDone (MayBecome g.T.Job.is_done g.T.Job.is_refused)) l.fn.begun.items (into_iter_items l.one-iterator) l.done.items
