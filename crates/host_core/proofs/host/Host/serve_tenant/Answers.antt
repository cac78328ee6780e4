use Rattle.std.proofs.Common.{◌≤◌, length, set, subst, arith}
use Rattle.std.proofs.lemmas.Option.{slice_get_past}
use Rattle.host_types.specs.declared.event.Event.{Event}
use Rattle.host_types.specs.declared.fault.Fault.TheVariants.{BadTenant}
use Rattle.host_core.specs.declared.reply.Reply.TheVariants.{Refused}
use Rattle.host_core.specs.HostView.{HostView, event_of}
use Rattle.host_core.proofs.Hosting.{Hosts, hosts-served, hosts-no_tenant, tenant_of-event_of, tenant_there, kept_in}
use Rattle.host_core.proofs.host.Host.serve_tenant.Goals as goal

pub returns-then-index-len : goal.returns-then-index-len
returns-then-index-len c =
    let event : Event = event_of c.args.tenant c.args.event in
    let past : length c.self.inside.tenants.items ≤ c.args.tenant = omega (arith, c.self.inside.tenants.ok.0) in
    subst (λ view. Hosts view event (Refused BadTenant) view) c.self.view_is
    (hosts-no_tenant c.self.inside.tenants.items c.self.inside.memory c.args.tenant event (tenant_of-event_of c.args.tenant c.args.event) (slice_get_past _ _ past))

pub serve-requires : goal.serve-requires
serve-requires c = record {
  kept = kept_in c.self.inside.tenants.items c.self.inside.memory c.args.tenant c.index_mut.result.now c.self.invariant (omega (arith, c.self.inside.tenants.ok.0)) c.index_mut.ensures.value;
}

abbrev new : goal.After-self-1 → HostView
new c = record { tenants = set c.self.inside.tenants.items c.args.tenant c.serve.new.self; memory = c.serve.new.memory }

serves : (c : goal.After-self-1) → Hosts (record { tenants = c.self.inside.tenants.items; memory = c.self.inside.memory }) (event_of c.args.tenant c.args.event) c.serve.result (new c)
serves c =
    hosts-served c.self.inside.tenants.items c.self.inside.memory c.serve.new.memory c.args.tenant c.index_mut.result.now c.serve.new.self (event_of c.args.tenant c.args.event) c.serve.result
    (tenant_there c.self.inside.tenants.items c.args.tenant c.index_mut.result.now (omega (arith, c.self.inside.tenants.ok.0)) c.index_mut.ensures.value) c.serve.ensures

pub invariant_of-self : goal.invariant_of-self
invariant_of-self c = let after = serves c c.self.invariant.0 c.self.invariant.1 in (after.0, after.1)

pub returns : goal.returns
returns c = subst (λ old. Hosts old (event_of c.args.tenant c.args.event) c.serve.result (new c)) c.self.view_is (serves c)
