use Rattle.std.proofs.Common.{◌≡◌, ◌+◌, if◌then◌else◌, Some, None, sym, ap, refl, subst, rules, arith}
use Rattle.host_types.specs.declared.fault.Fault.TheVariants.{NoRun}
use Rattle.page_table.specs.State.{part}
use Rattle.host_types.specs.declared.event.Event.TheVariants.{Step}
use Rattle.host_core.specs.declared.reply.Reply.TheVariants.{Ended, Refused, Stepped}
use Rattle.host_core.specs.HostView.{TenantView, IsKept, IsServed}
use Rattle.host_core.specs.Batches.{IsUnderWayAt}
use Rattle.host_core.proofs.Making.{served-stepped, served-last}
use Rattle.host_core.proofs.Stepping.{made-no_run, made-steps, made-last_step, advanced-some, under-way-kept, kept-open, made-open}
use Rattle.host_core.proofs.tenant.Tenant.step.Goals as goal

pub returns-then-not-self : goal.returns-then-not-self
returns-then-not-self c =
    let idle : ◌≡◌ {A = TenantView} (record { programs = c.self-inside.inside.0.0; run = None }) c.args.self.now = search rules in
    let none : c.args.self.now.run ≡ None = sym (ap (λ (kept : TenantView). kept.run) idle) in
    served-last c.args.number c.args.self.now c.args.self.now c.args.memory.now c.args.memory.now (Refused NoRun)
    (made-no_run c.args.self.now c.args.number 1 c.args.memory.now none (omega arith) c.facts.ensures)

pub step-ended-requires : goal.step-ended-requires
step-ended-requires c =
    let seen : ◌≡◌ {A = TenantView} (record { programs = c.self-inside.inside.0.0; run = Some c.self-inside.inside.0.1.0.latest }) c.args.self.now = search rules in
    let kept = kept-open c.args.self.now c.self-inside.inside.0.0 (Some c.self-inside.inside.0.1.0.latest) c.self-inside.inside.0.1.0.latest c.args.number c.args.memory.now seen refl c.requires.kept in
    let (v, s, under) = under-way-kept c.self-inside.inside.0.0 c.self-inside.inside.0.1.0.latest c.args.number c.args.memory.now kept in
    record { under_way = (v, s, subst (λ programs. IsUnderWayAt programs c.self-inside.inside.0.1.0.latest v s (part c.args.memory.now c.args.number)) (sym c.as_slice.ensures) under) }

pub returns-in-Some : goal.returns-in-Some
returns-in-Some c =
    let seen : ◌≡◌ {A = TenantView} (record { programs = c.self-inside.inside.0.0; run = Some c.self-inside.inside.0.1.0.latest }) c.args.self.now = search rules in
    let kept = kept-open c.args.self.now c.self-inside.inside.0.0 (Some c.self-inside.inside.0.1.0.latest) c.self-inside.inside.0.1.0.latest c.args.number c.args.memory.now seen refl c.requires.kept in
    let kept' = subst (λ programs. IsKept c.args.number (record { programs = programs; run = Some c.self-inside.inside.0.1.0.latest }) c.args.memory.now) (sym c.as_slice.ensures) kept in
    let (more, most) = advanced-some c.as_slice.result.now c.self-inside.inside.0.1.0.latest c.step-ended.new.self.run c.args.number 1 c.step-ended.result c.args.memory.now c.step-ended.new.memory kept' c.step-ended.ensures.advanced in
    let counted : c.self-inside.inside.0.1.0.latest.run.steps + 1 ≡ c.step-ended.new.self.run.steps = omega (arith, more, most) in
    let after : TenantView = record { programs = c.self-inside.inside.0.0; run = None } in
    served-last c.args.number c.args.self.now after c.args.memory.now c.step-ended.new.memory (Ended c.in-Some.ret c.steps-steps.result)
    (made-open c.args.self.now after c.self-inside.inside.0.0 (Some c.self-inside.inside.0.1.0.latest) c.self-inside.inside.0.1.0.latest c.args.number 1 (Some (Ended c.in-Some.ret c.steps-steps.result)) c.args.memory.now c.step-ended.new.memory seen refl
    (made-last_step c.self-inside.inside.0.0 c.self-inside.inside.0.1.0.latest c.step-ended.new.self.run c.args.number 1 c.in-Some.ret 1 c.steps-steps.result c.args.memory.now c.step-ended.new.memory
    c.facts.ensures c.facts-2.ensures c.step-ended.ensures.others c.step-ended.ensures.sizes counted c.steps-steps.ensures
    (λ v s under. c.in-Some.ensures.advanced v s (subst (λ programs. IsUnderWayAt programs c.self-inside.inside.0.1.0.latest v s (part c.args.memory.now c.args.number)) (sym c.as_slice.ensures) under))))

pub returns-in-None : goal.returns-in-None
returns-in-None c =
    let seen : ◌≡◌ {A = TenantView} (record { programs = c.self-inside.inside.0.0; run = Some c.self-inside.inside.0.1.0.latest }) c.args.self.now = search rules in
    let kept = kept-open c.args.self.now c.self-inside.inside.0.0 (Some c.self-inside.inside.0.1.0.latest) c.self-inside.inside.0.1.0.latest c.args.number c.args.memory.now seen refl c.requires.kept in
    let kept' = subst (λ programs. IsKept c.args.number (record { programs = programs; run = Some c.self-inside.inside.0.1.0.latest }) c.args.memory.now) (sym c.as_slice.ensures) kept in
    let (more, most) = advanced-some c.as_slice.result.now c.self-inside.inside.0.1.0.latest c.step-ended.new.self.run c.args.number 1 c.step-ended.result c.args.memory.now c.step-ended.new.memory kept' c.step-ended.ensures.advanced in
    let counted : c.self-inside.inside.0.1.0.latest.run.steps + 1 ≡ c.step-ended.new.self.run.steps = omega (arith, more, most) in
    let after : TenantView = record { programs = c.self-inside.inside.0.0; run = Some c.step-ended.new.self } in
    subst (λ b. IsServed c.args.number c.args.self.now c.args.memory.now (Step c.args.number) Stepped (record { programs = c.self-inside.inside.0.0; run = if b then Some c.step-ended.new.self else None }) c.step-ended.new.memory) (sym c.if-not-self.false)
    (served-stepped c.args.number c.args.self.now after c.args.memory.now c.step-ended.new.memory
    (made-open c.args.self.now after c.self-inside.inside.0.0 (Some c.self-inside.inside.0.1.0.latest) c.self-inside.inside.0.1.0.latest c.args.number 1 None c.args.memory.now c.step-ended.new.memory seen refl
    (made-steps c.self-inside.inside.0.0 c.self-inside.inside.0.1.0.latest c.step-ended.new.self c.args.number 1 1 c.args.memory.now c.step-ended.new.memory
    c.facts.ensures c.facts-2.ensures c.step-ended.ensures.others c.step-ended.ensures.sizes c.step-ended.ensures.program counted
    (λ v s under. c.in-None.ensures.advanced v s (subst (λ programs. IsUnderWayAt programs c.self-inside.inside.0.1.0.latest v s (part c.args.memory.now c.args.number)) (sym c.as_slice.ensures) under)))))
