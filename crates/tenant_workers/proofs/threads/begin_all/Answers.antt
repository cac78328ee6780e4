use Rattle.std.proofs.Common.{rules}
use Rattle.std.specs.Vec.Iter.{into_iter_items}
use Rattle.std.proofs.lemmas.List.Elements.{All-rest}
use Rattle.tenant_workers.specs.Jobs.{IsJobBegun, MayBecome}
use Rattle.tenant_workers.proofs.Jobs.{awaits-all, awaits-next, awaits-none}
use Rattle.tenant_workers.proofs.threads.begin_all.Goals as goal

pub loop-job-init : goal.loop-job-init
loop-job-init g c = (search rules, search rules, awaits-all (IsJobBegun (MayBecome g.T.Job.is_done g.T.Job.is_refused)) c.args.jobs.items _ c.args.begun.now.items (search rules) c.requires.none)

pub loop-job-preserved : goal.loop-job-preserved
loop-job-preserved g c =
    let (ready, room, made) = c.loop-job.invariant in
    let rest = into_iter_items c.loop-job.job-iterator in
    let after = into_iter_items c.next.new.self in (
      All-rest g.T.Job.is_ready c.in-Some.job after rest c.in-Some.ensures.steps.0 ready,
      search rules,
      rw (c.push_reserved.ensures.items)
          (awaits-next (IsJobBegun (MayBecome g.T.Job.is_done g.T.Job.is_refused)) c.args.jobs.items rest after c.in-Some.job c.loop-job.begun.items c.begin.result c.in-Some.ensures.steps.0 c.begin.ensures made),
    )

pub returns : goal.returns
returns g c =
    let (ready, room, made) = c.loop-job.invariant in
    record { begun = awaits-none (IsJobBegun (MayBecome g.T.Job.is_done g.T.Job.is_refused)) c.args.jobs.items (into_iter_items c.loop-job.job-iterator) c.loop-job.begun.items (search rules) made }
