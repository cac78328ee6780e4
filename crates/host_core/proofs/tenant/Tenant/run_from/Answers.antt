use Rattle.std.proofs.Common.{◌≡◌, ℕ, ◌+◌, ◌-◌, option_copied, slice_set, if◌then◌else◌, List, length, Option, None, Some, Result, Ok, Err, is_some, true, ◌∙◌, sym, ap, refl, subst, rules}
use Rattle.host_types.specs.declared.fault.Fault.TheVariants.{Busy, NoProgram}
use Rattle.host_types.specs.declared.event.Event.TheVariants.{Begin}
use Rattle.verifier.specs.Verified.{Accepted}
use Rattle.page_table.specs.State.{MemoryState}
use Rattle.host_core.specs.declared.tenant.OpenRun.{OpenRun as KeptRun}
use Rattle.host_core.specs.declared.reply.Reply.TheVariants.{Ended, Refused}
use Rattle.host_core.specs.declared.reply.Stopped.{Stopped}
use Rattle.host_core.specs.declared.whole_run.Stop.{Stop}
use Rattle.host_core.specs.declared.whole_run.Stop.TheVariants as stop
use Rattle.host_core.specs.HostView.{TenantView, IsServed, IsKept, HasMadeSteps}
use Rattle.host_core.specs.Many.{context_at}
use Rattle.host_core.specs.WholeRuns.{IsReady, HaveStopped, HasMadeRuns, GoesOn, idle_tenant, busy_tenant}
use Rattle.host_core.proofs.Opening.{accepted_at, lent-at, begin-busy, begin-no_program}
use Rattle.host_core.proofs.Making.{run-refused}
use Rattle.host_core.proofs.WholeRuns.{none-made, all-made, refused-made, open-ended, open-stopped}
use Rattle.host_core.proofs.tenant.Tenant.run_from.Goals as goal
use Rattle.host_core.proofs.tenant.Tenant.run_from.Goals.{In-Some, After-steps-steps}

pub returns-then-self : goal.returns-then-self
returns-then-self c =
    let seen : ◌≡◌ {A = TenantView} (record { programs = c.self-inside.inside.0.0; run = Some c.self-inside.inside.0.1.0.latest }) c.args.self.now = search rules in
    let busy : is_some c.args.self.now.run ≡ true = sym (ap (λ (kept : TenantView). is_some kept.run) seen) in
    let context = context_at c.args.contexts.now c.args.size c.args.from in
    rw c.refused.ensures
    (none-made c.args.number c.args.program c.args.contexts.now c.args.size c.args.rets.now c.args.from c.args.self.now c.args.self.now c.args.memory.now c.args.memory.now (Refused Busy) c.requires.from (λ ret steps e. cc)
    (run-refused c.args.number c.args.program context c.args.self.now c.args.self.now c.args.memory.now c.args.memory.now (Refused Busy) c.facts.ensures
    (begin-busy c.args.number c.args.program c.args.self.now c.args.memory.now context busy) (λ e. cc)))

pub returns-in_default : goal.returns-in_default
returns-in_default c =
    let kept : TenantView = idle_tenant c.self-inside.inside.0.0 in
    let inside : ◌≡◌ {A = TenantView} kept c.args.self.now = search rules in
    let context = context_at c.args.contexts.now c.args.size c.args.from in
    let missing : accepted_at kept c.args.program ≡ None = lent-at kept c.as_slice.result.now c.args.program c.as_slice.ensures c.program_of.ensures ∙ ap option_copied c.in_default.is in
    let served = subst (λ seen. IsServed c.args.number seen c.args.memory.now (Begin c.args.number c.args.program context) (Refused NoProgram) seen c.args.memory.now) inside
    (begin-no_program c.args.number c.args.program kept c.args.memory.now context refl missing) in
    rw c.refused-in_default.ensures
    (none-made c.args.number c.args.program c.args.contexts.now c.args.size c.args.rets.now c.args.from c.args.self.now c.args.self.now c.args.memory.now c.args.memory.now (Refused NoProgram) c.requires.from (λ ret steps e. cc)
    (run-refused c.args.number c.args.program context c.args.self.now c.args.self.now c.args.memory.now c.args.memory.now (Refused NoProgram) c.facts.ensures served (λ e. cc)))

module _ (c : In-Some) where
  -- the tenant as it is seen, without an open run
  inside : ◌≡◌ {A = TenantView} (idle_tenant c.self-inside.inside.0.0) c.args.self.now
  inside = search rules

  found : accepted_at (idle_tenant c.self-inside.inside.0.0) c.args.program ≡ Some c.in-Some.verified.now
  found = lent-at (idle_tenant c.self-inside.inside.0.0) c.as_slice.result.now c.args.program c.as_slice.ensures c.program_of.ensures ∙ ap option_copied c.in-Some.is

  rests : IsReady c.self-inside.inside.0.0 c.args.program c.in-Some.verified.now c.args.number c.args.memory.now
  rests = record { found = found; kept = subst (λ seen. IsKept c.args.number seen c.args.memory.now) (sym inside) c.requires.kept }

pub make_runs-stop-requires-clause-rests : goal.make_runs-stop-requires-clause-rests
make_runs-stop-requires-clause-rests c = (c.self-inside.inside.0.0, rests (goal.at.make_runs-stop-requires-clause-rests c).In-Some)

module _ (c : After-steps-steps) where
  abbrev programs : List (Option Accepted)
  programs = c.self-inside.inside.0.0

  abbrev after : KeptRun
  after = c.make_runs-stop.new.self

  -- how the runs stopped
  stops : (stopped : Stop) → c.make_runs-stop.result ≡ stopped
      → HaveStopped programs c.args.number c.args.program c.args.contexts.now c.args.size c.args.rets.now c.args.from c.args.memory.now stopped after c.make_runs-stop.new.memory c.make_runs-stop.new.rets
  stops stopped is =
      subst (λ s. HaveStopped programs c.args.number c.args.program c.args.contexts.now c.args.size c.args.rets.now c.args.from c.args.memory.now s after c.make_runs-stop.new.memory c.make_runs-stop.new.rets) is
      (c.make_runs-stop.ensures.made programs (rests (goal.at.After-steps-steps c).In-Some))

  -- what is left of a run that was noted as open
  left : 4294967296 - c.steps-steps.result ≡ 4294967296 - after.run.steps
  left = ap (λ n. 4294967296 - n) c.steps-steps.ensures

  -- the tenant as it was found
  seen_as : (result : Result ℕ Stopped) (new : TenantView) (later : MemoryState) (written : List ℕ)
      → HasMadeRuns c.args.number (idle_tenant programs) c.args.memory.now c.args.program c.args.contexts.now c.args.size c.args.rets.now c.args.from result new later written
      → HasMadeRuns c.args.number c.args.self.now c.args.memory.now c.args.program c.args.contexts.now c.args.size c.args.rets.now c.args.from result new later written
  seen_as result new later written made =
      subst (λ old. HasMadeRuns c.args.number old c.args.memory.now c.args.program c.args.contexts.now c.args.size c.args.rets.now c.args.from result new later written) (inside (goal.at.After-steps-steps c).In-Some) made

  -- without an open run it is as it was
  closed : (result : Result ℕ Stopped) (written : List ℕ)
      → HasMadeRuns c.args.number (idle_tenant programs) c.args.memory.now c.args.program c.args.contexts.now c.args.size c.args.rets.now c.args.from result (idle_tenant programs) c.make_runs-stop.new.memory written
      → HasMadeRuns c.args.number c.args.self.now c.args.memory.now c.args.program c.args.contexts.now c.args.size c.args.rets.now c.args.from result (record { programs = programs; run = if c.self-inside.inside.0.1.0.is_open then Some after else None }) c.make_runs-stop.new.memory written
  closed result written made =
      subst (λ b. HasMadeRuns c.args.number c.args.self.now c.args.memory.now c.args.program c.args.contexts.now c.args.size c.args.rets.now c.args.from result (record { programs = programs; run = if b then Some after else None }) c.make_runs-stop.new.memory written) (sym c.if-self.false)
      (seen_as result (idle_tenant programs) c.make_runs-stop.new.memory written made)

pub returns-in-AllEnded : goal.returns-in-AllEnded
returns-in-AllEnded c =
    let at = (goal.at.returns-in-AllEnded c).After-steps-steps in
    let made = stops at stop.AllEnded c.in-AllEnded.is in
    closed at (Ok (length c.make_runs-stop.new.rets)) c.make_runs-stop.new.rets
    (all-made (programs at) c.args.number c.args.program c.args.contexts.now c.args.size c.args.rets.now c.args.from c.args.memory.now (after at) c.make_runs-stop.new.memory c.make_runs-stop.new.rets (length c.make_runs-stop.new.rets) made.long c.requires.from made)

pub returns-in-Refused : goal.returns-in-Refused
returns-in-Refused c =
    let at = (goal.at.returns-in-Refused c).After-steps-steps in
    let is : c.refused-in-Refused.result ≡ (record { ended = c.in-Refused.index; reply = Refused c.in-Refused.fault }) = c.refused-in-Refused.ensures in
    closed at (Err c.refused-in-Refused.result) c.make_runs-stop.new.rets
    (rw is
    (refused-made (programs at) c.args.number c.args.program c.args.contexts.now c.args.size c.args.rets.now c.args.from c.args.memory.now (after at) c.make_runs-stop.new.memory c.make_runs-stop.new.rets c.in-Refused.index c.in-Refused.fault (stops at (stop.Refused c.in-Refused.index c.in-Refused.fault) c.in-Refused.is)))

pub make_last_steps-requires-clause-kept : goal.make_last_steps-requires-clause-kept
make_last_steps-requires-clause-kept c =
    let at = (goal.at.make_last_steps-requires-clause-kept c).After-steps-steps in
    let made = stops at (stop.Open c.in-Open.index) c.in-Open.is in
    let goes : GoesOn _ _ _ _ _ _ _ = made.last.2 in
    goes.is

pub returns-in-Ended : goal.returns-in-Ended
returns-in-Ended c =
    let at = (goal.at.returns-in-Ended c).After-steps-steps in
    let stopped = stops at (stop.Open c.in-Open.index) c.in-Open.is in
    let rest = subst (λ n. HasMadeSteps c.args.number (busy_tenant (programs at) (after at)) c.make_runs-stop.new.memory n (Some (Ended c.in-Ended.ret c.in-Ended.steps)) c.make_last_steps.new.self c.make_last_steps.new.memory) (ap (λ n. 4294967296 - n) c.from.ensures ∙ left at)
    (rw c.in-Ended.is at c.make_last_steps.ensures) in
    seen_as at (Ok (c.in-Open.index + 1)) c.make_last_steps.new.self c.make_last_steps.new.memory (slice_set c.make_runs-stop.new.rets c.in-Open.index c.in-Ended.ret)
    (open-ended (programs at) c.args.number c.args.program c.args.contexts.now c.args.size c.args.rets.now c.args.from c.args.memory.now (after at) c.make_runs-stop.new.memory c.make_runs-stop.new.rets c.in-Open.index stopped c.make_last_steps.new.self c.make_last_steps.new.memory c.in-Ended.ret c.in-Ended.steps rest)

pub returns-in_default-make_last_steps : goal.returns-in_default-make_last_steps
returns-in_default-make_last_steps c =
    let at = (goal.at.returns-in_default-make_last_steps c).After-steps-steps in
    let stopped = stops at (stop.Open c.in-Open.index) c.in-Open.is in
    let rest = subst (λ n. HasMadeSteps c.args.number (busy_tenant (programs at) (after at)) c.make_runs-stop.new.memory n (Some c.make_last_steps.result) c.make_last_steps.new.self c.make_last_steps.new.memory) (ap (λ n. 4294967296 - n) c.from.ensures ∙ left at) c.make_last_steps.ensures in
    seen_as at (Err (record { ended = c.in-Open.index; reply = c.make_last_steps.result })) c.make_last_steps.new.self c.make_last_steps.new.memory c.make_runs-stop.new.rets
    (open-stopped (programs at) c.args.number c.args.program c.args.contexts.now c.args.size c.args.rets.now c.args.from c.args.memory.now (after at) c.make_runs-stop.new.memory c.make_runs-stop.new.rets c.in-Open.index stopped c.make_last_steps.new.self c.make_last_steps.new.memory c.make_last_steps.result
    (λ ret steps is. c.in_default-make_last_steps.not-Ended ret steps is) rest)
