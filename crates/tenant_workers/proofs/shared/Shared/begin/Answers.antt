use Rattle.std.proofs.Common.{◌≡◌, sym, ap, ◌∙◌, subst, arith}
use Rattle.std.proofs.lemmas.Result.{on_ok_weaker}
use Rattle.host_types.specs.Tenant.{TenantPart}
use Rattle.page_table.specs.State.{part}
use Rattle.verifier.specs.Named.{named_shapes}
use Rattle.interp.specs.Fits.{HaveShapes}
use Rattle.turn.specs.Seats.{own_part}
use Rattle.tenant_workers.proofs.shared.Shared.begin.Goals as goal

-- the tenant's part of the memory that was taken is the seat's
pub returns-clause-shapes : goal.returns-clause-shapes
returns-clause-shapes g c =
    let t = c.tenant-tenant.result in
    let first = c.tenant-tenant.ensures.first in
    let alone = c.tenant-tenant.ensures.alone in
    let same : part c.memory_mut.result.now t ≡ own_part c.args.seat.now =
    ap (λ memory. part memory t) c.memory_mut.ensures.value ∙ c.take-held.ensures.known t (omega (arith, first, alone), omega (arith, first, alone)) ∙ ap (part c.args.seat.now.view.seen) (sym first) in
    on_ok_weaker c.begin_run-answer.result (λ have. subst (λ (owned : TenantPart). HaveShapes (named_shapes c.args.program.now.subject) owned.maps) same have) c.begin_run-answer.ensures.shapes
