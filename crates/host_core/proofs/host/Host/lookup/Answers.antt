use Rattle.std.proofs.Common.{◌≤◌, length, refl, subst, arith}
use Rattle.std.proofs.lemmas.Option.{slice_get_past}
use Rattle.host_types.specs.declared.event.Event.{Event}
use Rattle.host_types.specs.declared.event.Event.TheVariants.{HostLookup}
use Rattle.host_types.specs.declared.fault.Fault.TheVariants.{BadTenant}
use Rattle.host_core.specs.declared.reply.Reply.{Reply}
use Rattle.host_core.specs.declared.reply.Reply.TheVariants.{Refused}
use Rattle.host_core.specs.World.{System, IsCovered}
use Rattle.host_core.specs.Happens.{Happens, IsPromised}
use Rattle.host_core.specs.HostView.{HostView, StandsForSystem}
use Rattle.host_core.proofs.Hosting.{hosts-answered, hosts-unanswered, tenant_there, kept_in}
use Rattle.host_core.proofs.host.Host.lookup.Goals as goal

-- what is answered in each system for which the host stands
abbrev Answers : HostView → Event → Reply → Type 0
Answers view event reply = (x : System) → StandsForSystem view x → Happens x event reply x × IsPromised x event reply x × IsCovered x

pub returns-then-index-len-clause-copied : goal.returns-then-index-len-clause-copied
returns-then-index-len-clause-copied c =
    let event : Event = HostLookup c.args.tenant c.args.map c.args.key in
    let past : length c.self.inside.tenants.items ≤ c.args.tenant = omega (arith, c.self.inside.tenants.ok.0) in (
      Refused BadTenant,
      (refl, refl),
      subst (λ view. Answers view event (Refused BadTenant)) c.self.view_is
          (hosts-unanswered c.self.inside.tenants.items c.self.inside.memory c.args.tenant event refl (slice_get_past _ _ past) c.facts.ensures),
    )

pub copy_value-requires : goal.copy_value-requires
copy_value-requires c = record {
  kept = kept_in c.self.inside.tenants.items c.self.inside.memory c.args.tenant c.index.result.now c.self.invariant (omega (arith, c.self.inside.tenants.ok.0)) c.index.ensures;
}

pub returns-clause-copied : goal.returns-clause-copied
returns-clause-copied c =
    let event : Event = HostLookup c.args.tenant c.args.map c.args.key in
    let (reply, copied, answered) = c.copy_value.ensures.copied in
    let there = tenant_there c.self.inside.tenants.items c.args.tenant c.index.result.now (omega (arith, c.self.inside.tenants.ok.0)) c.index.ensures in (
      reply,
      copied,
      subst (λ view. Answers view event reply) c.self.view_is
          (hosts-answered c.self.inside.tenants.items c.self.inside.memory c.args.tenant c.index.result.now event reply there answered c.facts.ensures),
    )
