use Rattle.std.proofs.Common.{arith}
use Rattle.page_table.specs.State.{part}
use Rattle.tenant_runs.proofs.Rooms.{opened_keeps}
use Rattle.tenant_runs.proofs.Roomy.{under_way_roomy}
use Rattle.tenant_runs.proofs.WholeRuns.{has_run}
use Rattle.tenant_runs.proofs.whole_run.run.Goals as goal

pub open_run-requires-clause-there : goal.open_run-requires-clause-there
open_run-requires-clause-there c = c.maps_are_flat.ensures.there c.args.tenant (omega (arith, c.tenants.ensures, c.if-tenant-tenants.false))

pub release-requires : goal.release-requires
release-requires c =
    let opened = opened_keeps c.args.memory.now c.open_run.new.memory c.args.tenant _ c.in_ok-run.ensures.all in
    record { there = c.maps_are_flat-2.ensures.there c.args.tenant (omega (arith, opened.tenants, c.finish-reply.ensures.sizes.tenants, c.tenants.ensures, c.if-tenant-tenants.false)) }

pub returns-clause-ran : goal.returns-clause-ran
returns-clause-ran c =
    let v = c.args.program.now in
    let old = part c.args.memory.now c.args.tenant in
    let there = c.maps_are_flat.ensures.there c.args.tenant (omega (arith, c.tenants.ensures, c.if-tenant-tenants.false)) in
    has_run v c.args.context.now old (part c.open_run.new.memory c.args.tenant) (part c.finish-reply.new.memory c.args.tenant) (part c.release.new.memory c.args.tenant) c.in_ok-run.run' c.finish-reply.result
    (c.has_shapes.ensures.0 c.if-not-has_shapes.false) c.in_ok-run.ensures.sized c.in_ok-run.ensures.begun c.in_ok-run.ensures.steps (c.maps_are_flat.ensures.flat c.args.tenant there) c.in_ok-run.ensures.recorded
    (λ s way. c.finish-reply.ensures.ended s (under_way_roomy v c.in_ok-run.run' s c.open_run.new.memory c.args.tenant way)) c.finish-reply.ensures.few c.release.ensures.recorded
