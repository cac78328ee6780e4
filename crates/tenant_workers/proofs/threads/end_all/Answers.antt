use Rattle.std.proofs.Common.{rules}
use Rattle.std.specs.Vec.Iter.{into_iter_items}
use Rattle.tenant_workers.specs.Jobs.{IsJobDone, MayBecome}
use Rattle.tenant_workers.proofs.Jobs.{awaits-all, awaits-next, awaits-none, kept_ended, refused_ended}
use Rattle.tenant_workers.proofs.threads.end_all.Goals as goal
use Rattle.tenant_workers.proofs.threads.end_all.Goals.{in-Ok, in-Err}

pub loop-one-init : goal.loop-one-init
loop-one-init g c = (search rules, awaits-all (IsJobDone (MayBecome g.T.Job.is_done g.T.Job.is_refused)) c.args.begun.items _ c.args.done.now.items (search rules) c.requires.none)

ended : (g : _) (c : goal.After-push_reserved g) → IsJobDone (MayBecome g.T.Job.is_done g.T.Job.is_refused) c.in-Some.one c.match-one.job
ended g c = elim c.match-one.branch [
  | in-Ok w ↦ rw (w.in-Ok.is, w.job-is) (kept_ended (MayBecome g.T.Job.is_done g.T.Job.is_refused) w.in-Ok.thread w.join-job.result w.join-job.ensures)
  | in-Err w ↦ rw (w.in-Err.is, w.job-is) (refused_ended (MayBecome g.T.Job.is_done g.T.Job.is_refused) w.in-Err.refused)
]

pub loop-one-preserved : goal.loop-one-preserved
loop-one-preserved g c =
    let (room, made) = c.loop-one.invariant in
    let rest = into_iter_items c.loop-one.one-iterator in
    let after = into_iter_items c.next.new.self in (
      search rules,
      rw (c.push_reserved.ensures.items)
          (awaits-next (IsJobDone (MayBecome g.T.Job.is_done g.T.Job.is_refused)) c.args.begun.items rest after c.in-Some.one c.loop-one.done.items c.match-one.job c.in-Some.ensures.steps.0 (ended g c) made),
    )

pub returns : goal.returns
returns g c =
    let (room, made) = c.loop-one.invariant in
    awaits-none (IsJobDone (MayBecome g.T.Job.is_done g.T.Job.is_refused)) c.args.begun.items (into_iter_items c.loop-one.one-iterator) c.loop-one.done.items (search rules) made
