use Rattle.std.proofs.Common.{◌≡◌, length, sym, ap, ◌∙◌, arith}
use Rattle.host_types.specs.Tenant.{TenantPart}
use Rattle.page_table.specs.State.{part}
use Rattle.admission.specs.Reserve.{needed_from}
use Rattle.tenant_runs.proofs.Roomy.{asking_roomy}
use Rattle.tenant_runs.proofs.Rooms.{record_keeps, keeps_twice}
use Rattle.tenant_runs.proofs.answers.answer_recorded.Goals as goal

pub respond-requires : goal.respond-requires
respond-requires c =
    let (s, asking) = c.requires.asks in
    record { asks = (c.args.program.now, s, asking_roomy c.args.program.now s c.args.need c.args.run.now c.args.memory.now c.args.tenant asking) }

pub needed_within-left-requires : goal.needed_within-left-requires
needed_within-left-requires c =
    let v = c.args.program.now in
    let (s, asking) = c.requires.asks in
    let less = c.respond.ensures.less v s (asking_roomy v s c.args.need c.args.run.now c.args.memory.now c.args.tenant asking) in
    let enough = asking.reserve in
    rw (c.slot.ensures, c.reserve-recorded.ensures) (omega (arith, less, enough))

pub record_left-requires-clause-there : goal.record_left-requires-clause-there
record_left-requires-clause-there c =
    let v = c.args.program.now in
    let (s, asking) = c.requires.asks in
    let (next, makes, way) = c.respond.ensures.goes_on v s (asking_roomy v s c.args.need c.args.run.now c.args.memory.now c.args.tenant asking) in
    ap length way.maps ∙ way.stands.state.maps.eight

pub record_left-requires-clause-room : goal.record_left-requires-clause-room
record_left-requires-clause-room c =
    let v = c.args.program.now in
    let (s, asking) = c.requires.asks in
    let (next, makes, way) = c.respond.ensures.goes_on v s (asking_roomy v s c.args.need c.args.run.now c.args.memory.now c.args.tenant asking) in
    let enough = way.reserve in
    rw (c.needed_within-left.ensures, c.slot.ensures) enough

pub returns-clause-goes_on : goal.returns-clause-goes_on
returns-clause-goes_on c s asking =
    let v = c.args.program.now in
    let later = part c.respond.new.memory c.args.tenant in
    let (next, makes, way) = c.respond.ensures.goes_on v s (asking_roomy v s c.args.need c.args.run.now c.args.memory.now c.args.tenant asking) in
    let recorded = c.record_left.ensures.recorded in
    let same : needed_from v (part c.record_left.new.memory c.args.tenant) c.respond.new.run.slot ≡ needed_from v later c.respond.new.run.slot = ap (λ (one : TenantPart). needed_from v one c.respond.new.run.slot) recorded in
    let reserved : (part c.record_left.new.memory c.args.tenant).reserve ≡ needed_from v later c.respond.new.run.slot =
    ap (λ (one : TenantPart). one.reserve) recorded ∙ c.needed_within-left.ensures ∙ ap (needed_from v later) c.slot.ensures in (
      next,
      makes,
      record {
        stands = way.stands;
        maps = ap (λ (one : TenantPart). one.maps) recorded ∙ way.maps;
        running = ap (λ (one : TenantPart). one.running) recorded ∙ way.running;
        reserve = rw (same, reserved) (omega arith);
      },
    )

pub returns-clause-reserve : goal.returns-clause-reserve
returns-clause-reserve c =
    let v = c.args.program.now in
    let later = part c.respond.new.memory c.args.tenant in
    ap (λ (one : TenantPart). one.reserve) c.record_left.ensures.recorded ∙ c.needed_within-left.ensures ∙ ap (needed_from v later) (c.slot.ensures ∙ c.respond.ensures.slot)
    ∙ sym (ap (λ (one : TenantPart). needed_from v one c.args.run.now.slot) c.record_left.ensures.recorded)

pub returns-clause-sizes : goal.returns-clause-sizes
returns-clause-sizes c =
    keeps_twice c.args.memory.now c.respond.new.memory c.record_left.new.memory c.respond.ensures.sizes (record_keeps c.respond.new.memory c.record_left.new.memory c.args.tenant _ c.record_left.ensures.all)
