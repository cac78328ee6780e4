use Rattle.std.proofs.Common.{subst}
use Rattle.host_core.specs.declared.reply.Reply.TheVariants.{Done}
use Rattle.host_core.specs.HostView.{HostView}
use Rattle.host_core.proofs.Hosting.{Leads, Sets, hosts_on, leads-set}
use Rattle.host_core.proofs.host.Host.set.Goals as goal

-- the option is set
sets : (c : goal.In_ok-host_set) → Leads (record { tenants = c.self.inside.tenants.items; memory = c.self.inside.memory }) (Sets c.args.option c.args.value Done) (record { tenants = c.self.inside.tenants.items; memory = c.host_set.new.memory })
sets c =
    let ensured = c.in_ok-host_set.ensures in
    leads-set c.self.inside.tenants.items c.self.inside.memory c.host_set.new.memory c.args.option c.args.value ensured.may.0 ensured.may.1 ensured.set ensured.kept

pub invariant_of-self-2 : goal.invariant_of-self-2
invariant_of-self-2 c = hosts_on _ _ _ (sets c) c.self.invariant

pub returns : goal.returns
returns c =
    let new : HostView = record { tenants = c.self.inside.tenants.items; memory = c.host_set.new.memory } in
    subst (λ old. Leads old (Sets c.args.option c.args.value Done) new) c.self.view_is (sets c)
