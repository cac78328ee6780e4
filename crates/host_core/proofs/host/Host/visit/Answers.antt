use Rattle.std.proofs.Common.{subst}
use Rattle.host_types.specs.declared.event.Event.TheVariants.{Visit}
use Rattle.host_core.specs.declared.reply.Reply.TheVariants.{Visited as WasVisited}
use Rattle.host_core.specs.HostView.{HostView}
use Rattle.host_core.proofs.Hosting.{Hosts, hosts-visit}
use Rattle.host_core.proofs.host.Host.visit.Goals as goal

-- the visit
visits : (c : goal.After-visit) → Hosts (record { tenants = c.self.inside.tenants.items; memory = c.self.inside.memory }) Visit (WasVisited c.visit.result) (record { tenants = c.self.inside.tenants.items; memory = c.visit.new.memory })
visits c = hosts-visit c.self.inside.tenants.items c.self.inside.memory c.visit.new.memory c.visit.result c.visit.ensures.visited c.visit.ensures.settings c.visit.ensures.kept c.visit.ensures.maps

pub invariant_of-self : goal.invariant_of-self
invariant_of-self c = let after = visits c c.self.invariant.0 c.self.invariant.1 in (after.0, after.1)

pub returns : goal.returns
returns c =
    let new : HostView = record { tenants = c.self.inside.tenants.items; memory = c.visit.new.memory } in
    subst (λ old. Hosts old Visit (WasVisited c.visit.result) new) c.self.view_is (visits c)
