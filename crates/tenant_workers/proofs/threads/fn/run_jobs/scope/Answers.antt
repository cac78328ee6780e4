use Rattle.std.proofs.Common.{arith}
use Rattle.tenant_workers.specs.Jobs.{IsJobBegun, IsJobDone, MayBecome}
use Rattle.tenant_workers.specs.Scans.{IsScanMade, IsScanRefused}
use Rattle.tenant_workers.proofs.Jobs.{each-length, each-ended, kept_ended, refused_ended}
use Rattle.tenant_workers.proofs.Scans.{lent-back, scan-served}
use Rattle.tenant_workers.proofs.threads.fn.run_jobs.scope.Goals as goal
use Rattle.tenant_workers.proofs.threads.fn.run_jobs.scope.Goals.{in-Ok, in-Err}

pub end_all-requires : goal.end_all-requires
end_all-requires g c =
    let same = each-length (IsJobBegun (MayBecome g.T.Job.is_done g.T.Job.is_refused)) c.captures.jobs.items c.begin_all.new.begun.items c.begin_all.ensures.begun in
    record { none = c.requires.none_done; room = omega (arith, same, c.requires.room_done) }

pub returns : goal.returns
returns g c =
    let ended : IsJobDone (MayBecome IsScanMade IsScanRefused) c.begin-scanner.result c.match-scanner.scanned = elim c.match-scanner.branch [
      | in-Ok w ↦ rw (w.in-Ok.is, w.scanned-is) (kept_ended (MayBecome IsScanMade IsScanRefused) w.in-Ok.thread w.join-scanned.result w.join-scanned.ensures)
      | in-Err w ↦ rw (w.in-Err.is, w.scanned-is) (refused_ended (MayBecome IsScanMade IsScanRefused) w.in-Err.refused)
    ] in
    let became = ended c.captures.scan c.begin-scanner.ensures in
    record {
      jobs = each-ended (MayBecome g.T.Job.is_done g.T.Job.is_refused) c.captures.jobs.items c.begin_all.new.begun.items c.end_all.new.done.items c.begin_all.ensures.begun c.end_all.ensures;
      lent = lent-back c.captures.scan c.match-scanner.scanned became;
      scan = scan-served c.captures.scan c.match-scanner.scanned became;
    }
