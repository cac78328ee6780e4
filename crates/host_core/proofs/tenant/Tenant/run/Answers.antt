use Rattle.std.proofs.Common.{◌≡◌, ℕ, ◌-◌, option_copied, if◌then◌else◌, List, Option, None, Some, Result, Ok, Err, is_some, true, ◌∙◌, sym, ap, refl, subst, rules}
use Rattle.host_types.specs.declared.fault.Fault.{Fault}
use Rattle.host_types.specs.declared.fault.Fault.TheVariants.{Busy, NoProgram}
use Rattle.host_types.specs.declared.event.Event.TheVariants.{Begin}
use Rattle.verifier.specs.Verified.{Accepted}
use Rattle.host_core.specs.declared.tenant.OpenRun.{OpenRun as KeptRun}
use Rattle.host_core.specs.declared.reply.Reply.{Reply}
use Rattle.host_core.specs.declared.reply.Reply.TheVariants.{Ended, Refused}
use Rattle.host_core.specs.HostView.{TenantView, IsServed, IsKept, HasMadeRun, HasMadeSteps}
use Rattle.host_core.specs.WholeRuns.{IsReady, HasComeTo, GoesOn, idle_tenant, busy_tenant}
use Rattle.host_core.proofs.Opening.{accepted_at, lent-at, begin-busy, begin-no_program}
use Rattle.host_core.proofs.Making.{run-refused}
use Rattle.host_core.proofs.tenant.Tenant.run.Goals as goal
use Rattle.host_core.proofs.tenant.Tenant.run.Goals.{In-Some, After-steps-steps}

pub returns-then-self : goal.returns-then-self
returns-then-self c =
    let seen : ◌≡◌ {A = TenantView} (record { programs = c.self-inside.inside.0.0; run = Some c.self-inside.inside.0.1.0.latest }) c.args.self.now = search rules in
    let busy : is_some c.args.self.now.run ≡ true = sym (ap (λ (kept : TenantView). is_some kept.run) seen) in
    run-refused c.args.number c.args.program c.args.context.now c.args.self.now c.args.self.now c.args.memory.now c.args.memory.now (Refused Busy) c.facts.ensures
    (begin-busy c.args.number c.args.program c.args.self.now c.args.memory.now c.args.context.now busy) (λ e. cc)

pub returns-in_default : goal.returns-in_default
returns-in_default c =
    let kept : TenantView = idle_tenant c.self-inside.inside.0.0 in
    let inside : ◌≡◌ {A = TenantView} kept c.args.self.now = search rules in
    let missing : accepted_at kept c.args.program ≡ None = lent-at kept c.as_slice.result.now c.args.program c.as_slice.ensures c.program_of.ensures ∙ ap option_copied c.in_default.is in
    let served = subst (λ seen. IsServed c.args.number seen c.args.memory.now (Begin c.args.number c.args.program c.args.context.now) (Refused NoProgram) seen c.args.memory.now) inside
    (begin-no_program c.args.number c.args.program kept c.args.memory.now c.args.context.now refl missing) in
    run-refused c.args.number c.args.program c.args.context.now c.args.self.now c.args.self.now c.args.memory.now c.args.memory.now (Refused NoProgram) c.facts.ensures served (λ e. cc)

module _ (c : In-Some) where
  -- the tenant as it is seen, without an open run
  inside : ◌≡◌ {A = TenantView} (idle_tenant c.self-inside.inside.0.0) c.args.self.now
  inside = search rules

  found : accepted_at (idle_tenant c.self-inside.inside.0.0) c.args.program ≡ Some c.in-Some.verified.now
  found = lent-at (idle_tenant c.self-inside.inside.0.0) c.as_slice.result.now c.args.program c.as_slice.ensures c.program_of.ensures ∙ ap option_copied c.in-Some.is

  rests : IsReady c.self-inside.inside.0.0 c.args.program c.in-Some.verified.now c.args.number c.args.memory.now
  rests = record { found = found; kept = subst (λ seen. IsKept c.args.number seen c.args.memory.now) (sym inside) c.requires.kept }

pub make_run-made-requires : goal.make_run-made-requires
make_run-made-requires c = record { rests = (c.self-inside.inside.0.0, rests (goal.at.make_run-made-requires c).In-Some) }

module _ (c : After-steps-steps) where
  abbrev programs : List (Option Accepted)
  programs = c.self-inside.inside.0.0

  abbrev after : KeptRun
  after = c.make_run-made.new.self

  -- what the run came to
  came_to : (result : Result (Option ℕ) Fault) → c.make_run-made.result ≡ result → HasComeTo programs c.args.number c.args.program c.args.context.now c.args.memory.now result after c.make_run-made.new.memory
  came_to result is =
      subst (λ r. HasComeTo programs c.args.number c.args.program c.args.context.now c.args.memory.now r after c.make_run-made.new.memory) is
      (c.make_run-made.ensures.made programs (rests (goal.at.After-steps-steps c).In-Some))

  -- the tenant without an open run is as it was
  closed : (reply : Reply) → HasMadeRun c.args.number (idle_tenant programs) c.args.memory.now c.args.program c.args.context.now reply (idle_tenant programs) c.make_run-made.new.memory
      → HasMadeRun c.args.number c.args.self.now c.args.memory.now c.args.program c.args.context.now reply (record { programs = programs; run = if c.self-inside.inside.0.1.0.is_open then Some after else None }) c.make_run-made.new.memory
  closed reply made =
      let seen = inside (goal.at.After-steps-steps c).In-Some in
      subst (λ b. HasMadeRun c.args.number c.args.self.now c.args.memory.now c.args.program c.args.context.now reply (record { programs = programs; run = if b then Some after else None }) c.make_run-made.new.memory) (sym c.if-self.false)
      (subst (λ old. HasMadeRun c.args.number old c.args.memory.now c.args.program c.args.context.now reply (idle_tenant programs) c.make_run-made.new.memory) seen made)

pub returns-in-Ok-Some : goal.returns-in-Ok-Some
returns-in-Ok-Some c =
    let at = (goal.at.returns-in-Ok-Some c).After-steps-steps in
    let is : c.make_run-made.result ≡ Ok (Some c.in-Ok-Some.ret) = search rules in
    rw c.steps-steps.ensures (closed at (Ended c.in-Ok-Some.ret (after at).run.steps) (came_to at (Ok (Some c.in-Ok-Some.ret)) is))

pub returns-in-Err : goal.returns-in-Err
returns-in-Err c =
    let at = (goal.at.returns-in-Err c).After-steps-steps in
    closed at (Refused c.in-Err.fault) (came_to at (Err c.in-Err.fault) c.in-Err.is)

pub last_reply-requires-clause-kept : goal.last_reply-requires-clause-kept
last_reply-requires-clause-kept c =
    let at = (goal.at.last_reply-requires-clause-kept c).After-steps-steps in
    let is : c.make_run-made.result ≡ Ok None = search rules in
    let goes : GoesOn _ _ _ _ _ _ _ = came_to at (Ok None) is in
    goes.is

pub returns-in-Ok-None : goal.returns-in-Ok-None
returns-in-Ok-None c =
    let at = (goal.at.returns-in-Ok-None c).After-steps-steps in
    let is : c.make_run-made.result ≡ Ok None = search rules in
    let goes : GoesOn _ _ _ _ _ _ _ = came_to at (Ok None) is in
    let left : 4294967296 - c.from.result ≡ 4294967296 - (after at).run.steps = ap (λ n. 4294967296 - n) (c.from.ensures ∙ c.steps-steps.ensures) in
    let made = subst (λ n. HasMadeSteps c.args.number (busy_tenant (programs at) (after at)) c.make_run-made.new.memory n (Some c.last_reply.result) c.last_reply.new.self c.last_reply.new.memory) left c.last_reply.ensures in
    subst (λ old. HasMadeRun c.args.number old c.args.memory.now c.args.program c.args.context.now c.last_reply.result c.last_reply.new.self c.last_reply.new.memory) (inside (goal.at.After-steps-steps at).In-Some)
    (goes.whole c.last_reply.result c.last_reply.new.self c.last_reply.new.memory made)
