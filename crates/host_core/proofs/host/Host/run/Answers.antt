use Rattle.std.proofs.Common.{◌≤◌, length, set, subst, arith}
use Rattle.std.proofs.lemmas.Option.{slice_get_past}
use Rattle.host_types.specs.declared.fault.Fault.TheVariants.{BadTenant}
use Rattle.host_core.specs.declared.reply.Reply.TheVariants.{Refused}
use Rattle.host_core.specs.HostView.{HostView}
use Rattle.host_core.proofs.Hosting.{HostRuns, host-ran, host-runs_none, tenant_there, kept_in}
use Rattle.host_core.proofs.host.Host.run.Goals as goal

pub returns-then-index-len : goal.returns-then-index-len
returns-then-index-len c =
    let past : length c.self.inside.tenants.items ≤ c.args.tenant = omega (arith, c.self.inside.tenants.ok.0) in
    subst (λ view. HostRuns view c.args.tenant c.args.program c.args.context.now (Refused BadTenant) view) c.self.view_is
    (host-runs_none c.self.inside.tenants.items c.self.inside.memory c.args.tenant c.args.program c.args.context.now c.facts.ensures (slice_get_past _ _ past))

pub run-requires : goal.run-requires
run-requires c = record {
  kept = kept_in c.self.inside.tenants.items c.self.inside.memory c.args.tenant c.index_mut.result.now c.self.invariant (omega (arith, c.self.inside.tenants.ok.0)) c.index_mut.ensures.value;
}

abbrev new : goal.After-self-1 → HostView
new c = record { tenants = set c.self.inside.tenants.items c.args.tenant c.run.new.self; memory = c.run.new.memory }

ran : (c : goal.After-self-1) → HostRuns (record { tenants = c.self.inside.tenants.items; memory = c.self.inside.memory }) c.args.tenant c.args.program c.args.context.now c.run.result (new c)
ran c =
    host-ran c.self.inside.tenants.items c.self.inside.memory c.run.new.memory c.args.tenant c.args.program c.args.context.now c.index_mut.result.now c.run.new.self c.run.result
    (tenant_there c.self.inside.tenants.items c.args.tenant c.index_mut.result.now (omega (arith, c.self.inside.tenants.ok.0)) c.index_mut.ensures.value) c.run.ensures

pub invariant_of-self : goal.invariant_of-self
invariant_of-self c = let after = ran c c.self.invariant.0 c.self.invariant.1 in (after.0, after.1)

pub returns : goal.returns
returns c = subst (λ old. HostRuns old c.args.tenant c.args.program c.args.context.now c.run.result (new c)) c.self.view_is (ran c)
