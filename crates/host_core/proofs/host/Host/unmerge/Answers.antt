use Rattle.std.proofs.Common.{subst}
use Rattle.std.proofs.lemmas.Result.{err_from_is_err_and}
use Rattle.host_core.specs.declared.reply.Reply.TheVariants.{Done, Refused}
use Rattle.host_core.specs.HostView.{HostView}
use Rattle.host_core.proofs.Hosting.{Leads, Unmerges, hosts_on, leads-unmerge, leads-unmerge_refused}
use Rattle.host_core.proofs.host.Host.unmerge.Goals as goal

-- no page shares a frame any more
unmerges : (c : goal.In_ok-host_unmerge) → Leads (record { tenants = c.self.inside.tenants.items; memory = c.self.inside.memory }) (Unmerges Done) (record { tenants = c.self.inside.tenants.items; memory = c.host_unmerge.new.memory })
unmerges c =
    leads-unmerge c.self.inside.tenants.items c.self.inside.memory c.host_unmerge.new.memory c.in_ok-host_unmerge.ensures.unmerged

pub invariant_of-self-2 : goal.invariant_of-self-2
invariant_of-self-2 c = hosts_on _ _ _ (unmerges c) c.self.invariant

pub returns : goal.returns
returns c =
    let new : HostView = record { tenants = c.self.inside.tenants.items; memory = c.host_unmerge.new.memory } in
    subst (λ old. Leads old (Unmerges Done) new) c.self.view_is (unmerges c)

pub returns-in_err-host_unmerge : goal.returns-in_err-host_unmerge
returns-in_err-host_unmerge c =
    let seen : HostView = record { tenants = c.self.inside.tenants.items; memory = c.self.inside.memory } in
    let new : HostView = record { tenants = c.self.inside.tenants.items; memory = c.host_unmerge.new.memory } in
    let ensured = c.in_err-host_unmerge.ensures in
    let refusal = c.in_err-host_unmerge.field-0.0 in
    let leads = leads-unmerge_refused c.self.inside.tenants.items c.self.inside.memory c.host_unmerge.new.memory refusal ensured.refused ensured.unchanged in
    let p = err_from_is_err_and c.from_residual.result c.from_residual.ensures.1 in
    rw (p.1, p.2) (subst (λ old. Leads old (Unmerges (Refused refusal)) new) c.self.view_is leads)
