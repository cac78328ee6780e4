use Rattle.std.proofs.Common.{◌≤◌, length, set, subst, arith, Err}
use Rattle.std.proofs.lemmas.Option.{slice_get_past}
use Rattle.host_core.specs.HostView.{HostView}
use Rattle.host_core.specs.WholeRuns.{HaveRunFrom}
use Rattle.host_core.proofs.Hosting.{tenant_there, kept_in}
use Rattle.host_core.proofs.WholeRuns.{host-runs, host-runs_nobody}
use Rattle.host_core.proofs.host.Host.run_from.Goals as goal
use Rattle.host_core.proofs.host.Host.run_from.Goals.{After-run_from}

pub returns-then-index-len : goal.returns-then-index-len
returns-then-index-len c =
    let past : length c.self.inside.tenants.items ≤ c.args.tenant = omega (arith, c.self.inside.tenants.ok.0) in
    subst (λ view. HaveRunFrom c.args.tenant c.args.program c.args.contexts.now c.args.size c.args.rets.now c.args.from (Err c.refused.result) view view c.args.rets.now) c.self.view_is
    (rw c.refused.ensures
    (host-runs_nobody c.self.inside.tenants.items c.self.inside.memory c.args.tenant c.args.program c.args.contexts.now c.args.size c.args.rets.now c.args.from c.requires.from c.facts.ensures (slice_get_past _ _ past)))

pub run_from-requires-clause-kept : goal.run_from-requires-clause-kept
run_from-requires-clause-kept c = kept_in c.self.inside.tenants.items c.self.inside.memory c.args.tenant c.index_mut.result.now c.self.invariant (omega (arith, c.self.inside.tenants.ok.0)) c.index_mut.ensures.value

abbrev new : After-run_from → HostView
new c = record { tenants = set c.self.inside.tenants.items c.args.tenant c.run_from.new.self; memory = c.run_from.new.memory }

ran : (c : After-run_from) → HaveRunFrom c.args.tenant c.args.program c.args.contexts.now c.args.size c.args.rets.now c.args.from c.run_from.result (record { tenants = c.self.inside.tenants.items; memory = c.self.inside.memory }) (new c) c.run_from.new.rets
ran c =
    host-runs c.self.inside.tenants.items c.self.inside.memory c.args.tenant c.args.program c.args.contexts.now c.args.size c.args.rets.now c.args.from c.run_from.new.memory c.index_mut.result.now c.run_from.new.self c.run_from.result c.run_from.new.rets
    (tenant_there c.self.inside.tenants.items c.args.tenant c.index_mut.result.now (omega (arith, c.self.inside.tenants.ok.0)) c.index_mut.ensures.value) c.run_from.ensures

pub invariant_of-self : goal.invariant_of-self
invariant_of-self c = let after = (ran (goal.at.invariant_of-self c).After-run_from).runs c.self.invariant.0 c.self.invariant.1 in (after.0, after.1)

pub returns : goal.returns
returns c = subst (λ old. HaveRunFrom c.args.tenant c.args.program c.args.contexts.now c.args.size c.args.rets.now c.args.from c.run_from.result old (new (goal.at.returns c).After-run_from) c.run_from.new.rets) c.self.view_is (ran (goal.at.returns c).After-run_from)
