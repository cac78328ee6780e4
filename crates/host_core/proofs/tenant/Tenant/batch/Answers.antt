use Rattle.std.proofs.Common.{◌≡◌, ◌<◌, ◌≤◌, ◌+◌, if◌then◌else◌, Some, None, sym, ap, refl, subst, rules, arith}
use Rattle.page_table.specs.State.{part}
use Rattle.host_core.specs.declared.reply.Reply.TheVariants.{Ended}
use Rattle.host_core.specs.HostView.{TenantView, HasMadeSteps, IsKept, steps_of}
use Rattle.host_core.specs.Batches.{IsUnderWayAt}
use Rattle.host_core.proofs.Stepping.{made-no_run, made-steps, made-last_step, advanced-some, under-way-kept, kept-open, made-open, steps-open}
use Rattle.host_core.proofs.tenant.Tenant.batch.Goals as goal
use Rattle.host_core.proofs.tenant.Tenant.batch.Goals.{After-from-made}

module _ (c : After-from-made) where
  -- the steps that were made are those that the run counted: some, and no more than the limit
  counts : (c.self-inside.inside.0.1.0.latest.run.steps < c.advance-ended.new.self.run.steps) × (c.advance-ended.new.self.run.steps ≤ c.self-inside.inside.0.1.0.latest.run.steps + c.args.limit)
  counts =
      let seen : ◌≡◌ {A = TenantView} (record { programs = c.self-inside.inside.0.0; run = Some c.self-inside.inside.0.1.0.latest }) c.args.self.now = search rules in
      let kept = kept-open c.args.self.now c.self-inside.inside.0.0 (Some c.self-inside.inside.0.1.0.latest) c.self-inside.inside.0.1.0.latest c.args.number c.args.memory.now seen refl c.requires.kept in
      let kept' = subst (λ programs. IsKept c.args.number (record { programs = programs; run = Some c.self-inside.inside.0.1.0.latest }) c.args.memory.now) (sym c.as_slice.ensures) kept in
      advanced-some c.as_slice.result.now c.self-inside.inside.0.1.0.latest c.advance-ended.new.self.run c.args.number c.args.limit c.advance-ended.result c.args.memory.now c.advance-ended.new.memory kept' c.advance-ended.ensures.advanced

  counted : c.self-inside.inside.0.1.0.latest.run.steps + c.from-made.result ≡ c.advance-ended.new.self.run.steps
  counted =
      let (more, most) = counts in
      let is : c.self.inside.run ≡ Some c.self-inside.inside.0.1.0.latest = search rules in
      let open_steps = ap steps_of is in
      omega (arith, more, c.steps-steps.ensures, c.steps-before.ensures, open_steps, c.from-made.ensures)

  some : 0 < c.from-made.result
  some =
      let (more, most) = counts in
      omega (arith, more, counted)

  few : c.from-made.result ≤ c.args.limit
  few =
      let (more, most) = counts in
      omega (arith, most, counted)

pub returns-then-not-self-clause-made : goal.returns-then-not-self-clause-made
returns-then-not-self-clause-made c =
    let idle : ◌≡◌ {A = TenantView} (record { programs = c.self-inside.inside.0.0; run = None }) c.args.self.now = search rules in
    let none : c.args.self.now.run ≡ None = sym (ap (λ (kept : TenantView). kept.run) idle) in
    made-no_run c.args.self.now c.args.number 1 c.args.memory.now none (omega arith) c.facts.ensures

pub advance-ended-requires-clause-under_way : goal.advance-ended-requires-clause-under_way
advance-ended-requires-clause-under_way c =
    let seen : ◌≡◌ {A = TenantView} (record { programs = c.self-inside.inside.0.0; run = Some c.self-inside.inside.0.1.0.latest }) c.args.self.now = search rules in
    let kept = kept-open c.args.self.now c.self-inside.inside.0.0 (Some c.self-inside.inside.0.1.0.latest) c.self-inside.inside.0.1.0.latest c.args.number c.args.memory.now seen refl c.requires.kept in
    let (v, s, under) = under-way-kept c.self-inside.inside.0.0 c.self-inside.inside.0.1.0.latest c.args.number c.args.memory.now kept in
    (v, s, subst (λ programs. IsUnderWayAt programs c.self-inside.inside.0.1.0.latest v s (part c.args.memory.now c.args.number)) (sym c.as_slice.ensures) under)

pub overflow_sub-steps : goal.overflow_sub-steps
overflow_sub-steps c =
    let seen : ◌≡◌ {A = TenantView} (record { programs = c.self-inside.inside.0.0; run = Some c.self-inside.inside.0.1.0.latest }) c.args.self.now = search rules in
    let kept = kept-open c.args.self.now c.self-inside.inside.0.0 (Some c.self-inside.inside.0.1.0.latest) c.self-inside.inside.0.1.0.latest c.args.number c.args.memory.now seen refl c.requires.kept in
    let kept' = subst (λ programs. IsKept c.args.number (record { programs = programs; run = Some c.self-inside.inside.0.1.0.latest }) c.args.memory.now) (sym c.as_slice.ensures) kept in
    let is : c.self.inside.run ≡ Some c.self-inside.inside.0.1.0.latest = search rules in
    let open_steps = ap steps_of is in
    let some = advanced-some c.as_slice.result.now c.self-inside.inside.0.1.0.latest c.advance-ended.new.self.run c.args.number c.args.limit c.advance-ended.result c.args.memory.now c.advance-ended.new.memory kept' c.advance-ended.ensures.advanced in
    let (more, most) = some in
    omega (arith, more, c.steps-steps.ensures, c.steps-before.ensures, open_steps)

pub returns-in-Some-clause-some : goal.returns-in-Some-clause-some
returns-in-Some-clause-some c = some (goal.at.returns-in-Some-clause-some c).After-from-made

pub returns-in-Some-clause-few : goal.returns-in-Some-clause-few
returns-in-Some-clause-few c = few (goal.at.returns-in-Some-clause-few c).After-from-made

pub returns-in-Some-clause-made : goal.returns-in-Some-clause-made
returns-in-Some-clause-made c =
    let seen : ◌≡◌ {A = TenantView} (record { programs = c.self-inside.inside.0.0; run = Some c.self-inside.inside.0.1.0.latest }) c.args.self.now = search rules in
    (made-open c.args.self.now (record { programs = c.self-inside.inside.0.0; run = None }) c.self-inside.inside.0.0 (Some c.self-inside.inside.0.1.0.latest) c.self-inside.inside.0.1.0.latest c.args.number c.from-made.result (Some (Ended c.in-Some.ret c.steps-steps.result)) c.args.memory.now c.advance-ended.new.memory seen refl
    (made-last_step c.self-inside.inside.0.0 c.self-inside.inside.0.1.0.latest c.advance-ended.new.self.run c.args.number c.args.limit c.in-Some.ret c.from-made.result c.steps-steps.result c.args.memory.now c.advance-ended.new.memory
    c.facts.ensures c.facts-2.ensures c.advance-ended.ensures.others c.advance-ended.ensures.sizes (counted (goal.at.returns-in-Some-clause-made c).After-from-made) c.steps-steps.ensures
    (λ v s under. c.in-Some.ensures.advanced v s (subst (λ programs. IsUnderWayAt programs c.self-inside.inside.0.1.0.latest v s (part c.args.memory.now c.args.number)) (sym c.as_slice.ensures) under))))

pub returns-in-None-clause-some : goal.returns-in-None-clause-some
returns-in-None-clause-some c = some (goal.at.returns-in-None-clause-some c).After-from-made

pub returns-in-None-clause-few : goal.returns-in-None-clause-few
returns-in-None-clause-few c = few (goal.at.returns-in-None-clause-few c).After-from-made

pub returns-in-None-clause-made : goal.returns-in-None-clause-made
returns-in-None-clause-made c =
    let seen : ◌≡◌ {A = TenantView} (record { programs = c.self-inside.inside.0.0; run = Some c.self-inside.inside.0.1.0.latest }) c.args.self.now = search rules in
    subst (λ b. HasMadeSteps c.args.number c.args.self.now c.args.memory.now c.from-made.result None (record { programs = c.self-inside.inside.0.0; run = if b then Some c.advance-ended.new.self else None }) c.advance-ended.new.memory) (sym c.if-not-self.false)
    (made-open c.args.self.now (record { programs = c.self-inside.inside.0.0; run = Some c.advance-ended.new.self }) c.self-inside.inside.0.0 (Some c.self-inside.inside.0.1.0.latest) c.self-inside.inside.0.1.0.latest c.args.number c.from-made.result None c.args.memory.now c.advance-ended.new.memory seen refl
    (made-steps c.self-inside.inside.0.0 c.self-inside.inside.0.1.0.latest c.advance-ended.new.self c.args.number c.args.limit c.from-made.result c.args.memory.now c.advance-ended.new.memory
    c.facts.ensures c.facts-2.ensures c.advance-ended.ensures.others c.advance-ended.ensures.sizes c.advance-ended.ensures.program (counted (goal.at.returns-in-None-clause-made c).After-from-made)
    (λ v s under. c.in-None.ensures.advanced v s (subst (λ programs. IsUnderWayAt programs c.self-inside.inside.0.1.0.latest v s (part c.args.memory.now c.args.number)) (sym c.as_slice.ensures) under))))

pub returns-in-None-clause-counted : goal.returns-in-None-clause-counted
returns-in-None-clause-counted c =
    let seen : ◌≡◌ {A = TenantView} (record { programs = c.self-inside.inside.0.0; run = Some c.self-inside.inside.0.1.0.latest }) c.args.self.now = search rules in
    let before = steps-open c.args.self.now c.self-inside.inside.0.0 (Some c.self-inside.inside.0.1.0.latest) c.self-inside.inside.0.1.0.latest seen refl in
    let more = counted (goal.at.returns-in-None-clause-counted c).After-from-made in
    let counts : steps_of c.args.self.now.run + c.from-made.result ≡ c.advance-ended.new.self.run.steps = omega (arith, before, more) in
    subst (λ b. steps_of c.args.self.now.run + c.from-made.result ≡ steps_of (if b then Some c.advance-ended.new.self else None)) (sym c.if-not-self.false) counts
