use Rattle.std.proofs.Common.{true, false}
use Rattle.host_types.specs.declared.event.Event.TheVariants.{HostUpdate}
use Rattle.host_core.proofs.Serving.{run_is, passed_on, has_kept, update-busy, update-refused, update-done}
use Rattle.host_core.proofs.tenant.Tenant.update.Goals as goal

pub returns-then-is_open : goal.returns-then-is_open
returns-then-is_open c =
    let busy = run_is c.args.self.now c.self.inside.programs c.self.inside.run c.is_open.result true c.self.view_is c.is_open.ensures c.if-is_open.true in
    update-busy c.args.number c.args.self.now c.args.memory.now c.args.map c.args.key c.args.value.now busy

pub returns-in_err-host_update : goal.returns-in_err-host_update
returns-in_err-host_update c =
    let idle = run_is c.args.self.now c.self.inside.programs c.self.inside.run c.is_open.result false c.self.view_is c.is_open.ensures c.if-is_open.false in
    let event = HostUpdate c.args.number c.args.map c.args.key c.args.value.now in
    let call = c.in_err-host_update.ensures in
    passed_on c.args.number c.args.self.now c.args.memory.now c.host_update.new.memory event c.in_err-host_update.field-0.0 c.from_residual.result c.from_residual.ensures.1 call.unchanged
    (update-refused c.args.number c.args.self.now c.args.memory.now c.args.map c.args.key c.args.value.now c.in_err-host_update.field-0.0 idle call.first)

pub returns : goal.returns
returns c =
    let idle = run_is c.args.self.now c.self.inside.programs c.self.inside.run c.is_open.result false c.self.view_is c.is_open.ensures c.if-is_open.false in
    let call = c.in_ok-host_update.ensures in
    update-done c.args.number c.args.self.now c.args.memory.now c.host_update.new.memory c.args.map c.args.key c.args.value.now idle (record {
      allowed = call.allowed;
      updated = call.updated;
      helped = call.helped;
      sharing = call.sharing;
      kept = has_kept c.args.number c.args.memory.now c.host_update.new.memory c.args.map call.other_maps call.others call.settings c.facts.ensures (c.maps_are_flat.ensures.flat c.args.number);
    })
