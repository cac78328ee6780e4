use Rattle.std.proofs.Common.{◌≡◌, ◌∙◌, sym, ap, subst, arith, rules}
use Rattle.host_types.specs.Tenant.{TenantPart}
use Rattle.page_table.specs.State.{part}
use Rattle.turn.specs.Seats.{own_part}
use Rattle.tenant_runs.specs.UnderWay.{IsUnderWay, IsAsking}
use Rattle.tenant_workers.proofs.steps.fulfil.Goals as goal

-- the tenant's part of the memory that was taken is the seat's, and that of the memory that is given is the seat's later
pub returns-clause-goes_on : goal.returns-clause-goes_on
returns-clause-goes_on g c s asking =
    let v = c.args.program.now in
    let t = c.tenant-tenant.result in
    let first = c.tenant-tenant.ensures.first in
    let alone = c.tenant-tenant.ensures.alone in
    let same : part c.memory_mut.result.now t ≡ own_part c.args.seat.now =
    ap (λ memory. part memory t) c.memory_mut.ensures.value ∙ c.take-held.ensures.known t (omega (arith, first, alone), omega (arith, first, alone)) ∙ ap (part c.args.seat.now.view.seen) (sym first) in
    let asks : IsAsking v s c.args.need c.args.run.now (part c.memory_mut.result.now t) = subst (λ (owned : TenantPart). IsAsking v s c.args.need c.args.run.now owned) (sym same) asking in
    let (next, makes, way) = c.answer_recorded.ensures.goes_on s asks in
    let later : part c.answer_recorded.new.memory t ≡ own_part c.give.new.seat = search rules in
    (next, makes, subst (λ (owned : TenantPart). IsUnderWay v c.answer_recorded.new.run next owned) later way)
