use Rattle.std.proofs.Common.{◌≡◌, option_copied, if◌then◌else◌, None, Some, is_some, true, false, ◌∙◌, sym, ap, refl, subst, rules}
use Rattle.host_types.specs.declared.fault.Fault.TheVariants.{NoProgram}
use Rattle.host_types.specs.declared.event.Event.TheVariants.{Begin}
use Rattle.host_core.specs.declared.reply.Reply.TheVariants.{Begun, Refused}
use Rattle.host_core.specs.declared.tenant.OpenRun.{OpenRun as KeptRun}
use Rattle.host_core.specs.HostView.{TenantView, IsServed, reply_of}
use Rattle.host_core.proofs.Serving.{passed_on, kept-there}
use Rattle.host_core.proofs.Opening.{accepted_at, lent-at, begin-busy, begin-no_program, begin-not_opened, begin-begun, kept-idle, kept-resting}
use Rattle.host_core.proofs.tenant.Tenant.begin.Goals as goal

pub returns-then-self : goal.returns-then-self
returns-then-self c =
    let seen : ◌≡◌ {A = TenantView} (record { programs = c.self-inside.inside.0.0; run = Some c.self-inside.inside.0.1.0.latest }) c.args.self.now = search rules in
    let busy : is_some c.args.self.now.run ≡ true = sym (ap (λ (kept : TenantView). is_some kept.run) seen) in
    begin-busy c.args.number c.args.program c.args.self.now c.args.memory.now c.args.context.now busy

pub returns-in_default : goal.returns-in_default
returns-in_default c =
    let kept : TenantView = record { programs = c.self-inside.inside.0.0; run = None } in
    let inside : ◌≡◌ {A = TenantView} kept c.args.self.now = search rules in
    let missing : accepted_at kept c.args.program ≡ None = lent-at kept c.as_slice.result.now c.args.program c.as_slice.ensures c.program_of.ensures ∙ ap option_copied c.in_default.is in
    subst (λ seen. IsServed c.args.number seen c.args.memory.now (Begin c.args.number c.args.program c.args.context.now) (Refused NoProgram) seen c.args.memory.now) inside
    (begin-no_program c.args.number c.args.program kept c.args.memory.now c.args.context.now refl missing)

pub reopen_run-requires-clause-there : goal.reopen_run-requires-clause-there
reopen_run-requires-clause-there c = kept-there c.args.number c.args.self.now c.args.memory.now c.requires.kept

pub reopen_run-requires-clause-none : goal.reopen_run-requires-clause-none
reopen_run-requires-clause-none c =
    let inside : ◌≡◌ {A = TenantView} (record { programs = c.self-inside.inside.0.0; run = None }) c.args.self.now = search rules in
    let idle : is_some c.args.self.now.run ≡ false = sym (ap (λ (kept : TenantView). is_some kept.run) inside) in
    kept-resting c.args.number c.args.self.now c.args.memory.now c.requires.kept idle

pub reopen_run-requires-clause-unreserved : goal.reopen_run-requires-clause-unreserved
reopen_run-requires-clause-unreserved c =
    let inside : ◌≡◌ {A = TenantView} (record { programs = c.self-inside.inside.0.0; run = None }) c.args.self.now = search rules in
    let idle : is_some c.args.self.now.run ≡ false = sym (ap (λ (kept : TenantView). is_some kept.run) inside) in
    kept-idle c.args.number c.args.self.now c.args.memory.now c.requires.kept idle

pub returns-in_err-reopen_run : goal.returns-in_err-reopen_run
returns-in_err-reopen_run c =
    let kept : TenantView = record { programs = c.self-inside.inside.0.0; run = None } in
    let inside : ◌≡◌ {A = TenantView} kept c.args.self.now = search rules in
    let event = Begin c.args.number c.args.program c.args.context.now in
    let call = c.in_err-reopen_run.ensures in
    let found : accepted_at kept c.args.program ≡ Some c.in-Some.verified.now = lent-at kept c.as_slice.result.now c.args.program c.as_slice.ensures c.program_of.ensures ∙ ap option_copied c.in-Some.is in
    let served = begin-not_opened c.args.number c.args.program kept c.args.context.now c.in-Some.verified.now refl found c.args.memory.now c.in_err-reopen_run.field-0.0 call.refused in
    let seen = subst (λ seen. IsServed c.args.number seen c.args.memory.now event (Refused c.in_err-reopen_run.field-0.0) seen c.args.memory.now) inside served in
    let after : KeptRun = record { program = c.self-inside.inside.0.1.0.latest.program; run = c.reopen_run.new.run } in
    subst (λ b. IsServed c.args.number c.args.self.now c.args.memory.now event (reply_of c.from_residual.result) (record { programs = c.self-inside.inside.0.0; run = if b then Some after else None }) c.reopen_run.new.memory) (sym c.if-self.false)
    (subst (λ new. IsServed c.args.number c.args.self.now c.args.memory.now event (reply_of c.from_residual.result) new c.reopen_run.new.memory) (sym inside)
    (passed_on c.args.number c.args.self.now c.args.memory.now c.reopen_run.new.memory event c.in_err-reopen_run.field-0.0 c.from_residual.result c.from_residual.ensures.1 call.unchanged seen))

pub returns : goal.returns
returns c =
    let kept : TenantView = record { programs = c.self-inside.inside.0.0; run = None } in
    let inside : ◌≡◌ {A = TenantView} kept c.args.self.now = search rules in
    let new : TenantView = record { programs = c.self-inside.inside.0.0; run = Some (record { program = c.args.program; run = c.reopen_run.new.run }) } in
    let event = Begin c.args.number c.args.program c.args.context.now in
    let call = c.in_ok-reopen_run.ensures in
    let found : accepted_at kept c.args.program ≡ Some c.in-Some.verified.now = lent-at kept c.as_slice.result.now c.args.program c.as_slice.ensures c.program_of.ensures ∙ ap option_copied c.in-Some.is in
    let served = begin-begun c.args.number c.args.program kept c.args.memory.now c.reopen_run.new.memory c.args.context.now c.reopen_run.new.run c.in-Some.verified.now refl found call.sized call.begun call.steps (record {
      enough = call.enough;
      recorded = call.recorded;
      all = call.all;
      others = call.others;
      reads = c.facts.ensures;
    }) in
    subst (λ seen. IsServed c.args.number seen c.args.memory.now event Begun new c.reopen_run.new.memory) inside served
