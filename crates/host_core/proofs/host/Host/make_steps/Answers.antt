use Rattle.std.proofs.Common.{◌≤◌, length, set, refl, subst, arith, Some}
use Rattle.std.proofs.lemmas.Option.{slice_get_past}
use Rattle.host_types.specs.declared.fault.Fault.TheVariants.{BadTenant}
use Rattle.host_core.specs.declared.reply.Reply.TheVariants.{Refused}
use Rattle.host_core.specs.HostView.{HostView}
use Rattle.host_core.proofs.Hosting.{HostMakesSteps, host-made, host-no_tenant, tenant_there, kept_in}
use Rattle.host_core.proofs.host.Host.make_steps.Goals as goal

pub returns-then-index-len : goal.returns-then-index-len
returns-then-index-len c =
    let past : length c.self.inside.tenants.items ≤ c.args.tenant = omega (arith, c.self.inside.tenants.ok.0) in
    record {
      steps = subst (λ view. HostMakesSteps view c.args.tenant c.args.limit (Some (Refused BadTenant)) view) c.self.view_is
          (host-no_tenant c.self.inside.tenants.items c.self.inside.memory c.args.tenant c.args.limit (omega arith) c.facts.ensures (slice_get_past _ _ past));
      ends = λ great. refl;
    }

pub make_steps-requires-clause-kept : goal.make_steps-requires-clause-kept
make_steps-requires-clause-kept c =
    kept_in c.self.inside.tenants.items c.self.inside.memory c.args.tenant c.index_mut.result.now c.self.invariant (omega (arith, c.self.inside.tenants.ok.0)) c.index_mut.ensures.value

abbrev new : goal.After-self-1 → HostView
new c = record { tenants = set c.self.inside.tenants.items c.args.tenant c.make_steps.new.self; memory = c.make_steps.new.memory }

makes : (c : goal.After-self-1) → HostMakesSteps (record { tenants = c.self.inside.tenants.items; memory = c.self.inside.memory }) c.args.tenant c.args.limit c.make_steps.result (new c)
makes c =
    host-made c.self.inside.tenants.items c.self.inside.memory c.make_steps.new.memory c.args.tenant c.args.limit c.index_mut.result.now c.make_steps.new.self c.make_steps.result
    (tenant_there c.self.inside.tenants.items c.args.tenant c.index_mut.result.now (omega (arith, c.self.inside.tenants.ok.0)) c.index_mut.ensures.value) c.make_steps.ensures.steps

pub invariant_of-self : goal.invariant_of-self
invariant_of-self c = let after = makes c c.self.invariant.0 c.self.invariant.1 in (after.0, after.1)

pub returns-clause-steps : goal.returns-clause-steps
returns-clause-steps c = subst (λ old. HostMakesSteps old c.args.tenant c.args.limit c.make_steps.result (new c)) c.self.view_is (makes c)
