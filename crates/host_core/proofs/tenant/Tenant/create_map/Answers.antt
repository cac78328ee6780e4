use Rattle.std.proofs.Common.{true, false}
use Rattle.host_types.specs.declared.event.Event.TheVariants.{CreateMap}
use Rattle.host_core.proofs.Serving.{run_is, passed_on, has_kept, create-busy, create-refused, create-made}
use Rattle.host_core.proofs.tenant.Tenant.create_map.Goals as goal

pub returns-then-is_open : goal.returns-then-is_open
returns-then-is_open c =
    let busy = run_is c.args.self.now c.self.inside.programs c.self.inside.run c.is_open.result true c.self.view_is c.is_open.ensures c.if-is_open.true in
    create-busy c.args.number c.args.self.now c.args.memory.now c.args.value_size c.args.entries c.args.mergeable busy

pub returns-in_err-map : goal.returns-in_err-map
returns-in_err-map c =
    let idle = run_is c.args.self.now c.self.inside.programs c.self.inside.run c.is_open.result false c.self.view_is c.is_open.ensures c.if-is_open.false in
    let event = CreateMap c.args.number c.args.value_size c.args.entries c.args.mergeable in
    let call = c.in_err-map.ensures in
    passed_on c.args.number c.args.self.now c.args.memory.now c.host_create_map.new.memory event c.in_err-map.field-0.0 c.from_residual.result c.from_residual.ensures.1 call.unchanged
    (create-refused c.args.number c.args.self.now c.args.memory.now c.args.value_size c.args.entries c.args.mergeable c.in_err-map.field-0.0 idle call.first)

pub returns : goal.returns
returns c =
    let idle = run_is c.args.self.now c.self.inside.programs c.self.inside.run c.is_open.result false c.self.view_is c.is_open.ensures c.if-is_open.false in
    let call = c.in_ok-map.ensures in
    let made = call.made in
    create-made c.args.number c.args.self.now c.args.memory.now c.host_create_map.new.memory c.args.value_size c.args.entries c.args.mergeable c.in_ok-map.map idle (record {
      allowed = call.allowed;
      number = call.number;
      created = made.created;
      sharing = made.sharing;
      kept = has_kept c.args.number c.args.memory.now c.host_create_map.new.memory c.in_ok-map.map made.other_maps made.others made.settings c.facts.ensures (c.maps_are_flat.ensures.flat c.args.number);
    })
