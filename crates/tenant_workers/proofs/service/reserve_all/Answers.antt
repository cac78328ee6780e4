use Rattle.std.proofs.Common.{◌≤◌, ◌<◌, ◌∙◌, length, get_or, take, arith}
use Rattle.std.proofs.lemmas.List.{take_all, take_more_set}
use Rattle.std.proofs.lemmas.List.Elements.{All-push}
use Rattle.tenant_workers.specs.Plans.{HasReplyRoom, planned_by}
use Rattle.tenant_workers.proofs.Kept.{map-set_same, same_replies}
use Rattle.tenant_workers.proofs.service.reserve_all.Goals as goal

pub returns-in_err-reserve-clause-same : goal.returns-in_err-reserve-clause-same
returns-in_err-reserve-clause-same c =
    let (room, same) = c.loop-tenant.invariant in
    let was = get_or c.loop-tenant.tenants c.loop-tenant.tenant-index c.tenant-item.result in
    map-set_same planned_by c.loop-tenant.tenants c.loop-tenant.tenant-index c.tenant-item.result _ (same_replies was c.reserve.new.self.items c.reserve.ensures.items) ∙ same

pub loop-tenant-preserved : goal.loop-tenant-preserved
loop-tenant-preserved c =
    let (room, same) = c.loop-tenant.invariant in
    let was = get_or c.loop-tenant.tenants c.loop-tenant.tenant-index c.tenant-item.result in
    let within : c.loop-tenant.tenant-index < length c.loop-tenant.tenants = omega arith in
    let more : length was.runs.items ≤ c.reserve.new.self.cap =
    omega (arith, c.in_ok-reserve.ensures.ok, c.reserve.ensures.len, c.saturating_sub-more.ensures, c.len.ensures, c.len-in-loop-tenant.ensures, was.runs.ok.0) in (
      rw (take_more_set c.loop-tenant.tenants c.loop-tenant.tenant-index _ within)
          (All-push HasReplyRoom (take c.loop-tenant.tenant-index c.loop-tenant.tenants) _ room record { room = more }),
      map-set_same planned_by c.loop-tenant.tenants c.loop-tenant.tenant-index c.tenant-item.result _ (same_replies was c.reserve.new.self.items c.reserve.ensures.items) ∙ same,
    )

pub returns-clause-room : goal.returns-clause-room
returns-clause-room c =
    let (room, same) = c.loop-tenant.invariant in
    let whole : length c.loop-tenant.tenants ≤ c.loop-tenant.tenant-index = omega arith in
    rw (take_all c.loop-tenant.tenant-index c.loop-tenant.tenants whole) at room
