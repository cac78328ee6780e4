use Rattle.std.proofs.Common.{◌≡◌, ◌+◌, replicate, ◌∙◌, sym, subst, arith}
use Rattle.std.specs.List.{AllZip}
use Rattle.host_core.specs.World.{new_tenant, new_system}
use Rattle.host_core.specs.HostView.{StandsForTenant, StandsForSystem}
use Rattle.host_core.proofs.Starting.{tenants_push, host_new}
use Rattle.host_core.proofs.host.Host.new.Goals as goal

pub loop-preserved : goal.loop-preserved
loop-preserved c = record {
  room = c.push_reserved.ensures.capacity ∙ c.loop.invariant.room;
  given = omega (arith, c.push_reserved.ensures.len, c.loop.invariant.given);
  new = subst (λ views. AllZip StandsForTenant views (replicate (c.loop.counter + 1) new_tenant)) (sym c.push_reserved.ensures.items)
      (tenants_push c.loop.counter c.loop.entries.items c.new-in-loop.result c.loop.invariant.new c.new-in-loop.ensures);
}

-- the new host
made : (c : goal.After-loop) → StandsForSystem (record { tenants = c.loop.entries.items; memory = c.in_ok-memory.memory }) (new_system c.args.frames c.args.tenants c.args.options)
made c =
    let most = c.loop.auto.counter-end in
    let all : c.loop.counter ≡ c.args.tenants = omega (arith, most, c.loop-test.false) in
    host_new c.args.frames c.args.tenants c.args.options c.loop.entries.items c.in_ok-memory.memory c.in_ok-memory.ensures.ok
    (subst (λ n. AllZip StandsForTenant c.loop.entries.items (replicate n new_tenant)) all c.loop.invariant.new)

pub invariant_of-result : goal.invariant_of-result
invariant_of-result c = (new_system c.args.frames c.args.tenants c.args.options, made c)

pub returns-clause-new : goal.returns-clause-new
returns-clause-new c = made c
