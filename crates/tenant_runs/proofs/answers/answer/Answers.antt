use Rattle.std.proofs.Common.{◌≡◌, length, sym, ap, ◌∙◌, arith}
use Rattle.host_types.specs.Tenant.{TenantPart}
use Rattle.page_table.specs.State.{part}
use Rattle.admission.specs.Reserve.{needed_from}
use Rattle.tenant_runs.proofs.answers.answer.Goals as goal

pub respond-requires : goal.respond-requires
respond-requires c =
    let (s, asking) = c.requires.asks in
    record { asks = (c.args.program.now, s, asking) }

pub record-requires-clause-there : goal.record-requires-clause-there
record-requires-clause-there c =
    let (s, asking) = c.requires.asks in
    let (next, makes, way) = c.respond.ensures.goes_on c.args.program.now s asking in
    ap length way.maps ∙ way.stands.state.maps.eight

pub record-requires-clause-room : goal.record-requires-clause-room
record-requires-clause-room c =
    let (s, asking) = c.requires.asks in
    let (next, makes, way) = c.respond.ensures.goes_on c.args.program.now s asking in
    let enough = way.reserve in
    rw (c.needed-left.ensures, c.slot.ensures) enough

pub returns-clause-goes_on : goal.returns-clause-goes_on
returns-clause-goes_on c s asking =
    let v = c.args.program.now in
    let later = part c.respond.new.memory c.args.tenant in
    let (next, makes, way) = c.respond.ensures.goes_on v s asking in
    let recorded = c.record.ensures.recorded in
    let same : needed_from v (part c.record.new.self c.args.tenant) c.respond.new.run.slot ≡ needed_from v later c.respond.new.run.slot = ap (λ (one : TenantPart). needed_from v one c.respond.new.run.slot) recorded in
    let reserved : (part c.record.new.self c.args.tenant).reserve ≡ needed_from v later c.respond.new.run.slot =
    ap (λ (one : TenantPart). one.reserve) recorded ∙ c.needed-left.ensures ∙ ap (needed_from v later) c.slot.ensures in (
      next,
      makes,
      record {
        stands = way.stands;
        maps = ap (λ (one : TenantPart). one.maps) recorded ∙ way.maps;
        running = ap (λ (one : TenantPart). one.running) recorded ∙ way.running;
        reserve = rw (same, reserved) (omega arith);
      },
    )

pub returns-clause-reserve : goal.returns-clause-reserve
returns-clause-reserve c =
    let v = c.args.program.now in
    let later = part c.respond.new.memory c.args.tenant in
    ap (λ (one : TenantPart). one.reserve) c.record.ensures.recorded ∙ c.needed-left.ensures ∙ ap (needed_from v later) (c.slot.ensures ∙ c.respond.ensures.slot)
    ∙ sym (ap (λ (one : TenantPart). needed_from v one c.args.run.now.slot) c.record.ensures.recorded)
