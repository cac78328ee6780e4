use Rattle.std.proofs.Common.{◌≡◌, option_copied, set, is_some, true, false, None, ◌∙◌, sym, ap, subst}
use Rattle.host_types.specs.declared.fault.Fault.TheVariants.{NoProgram}
use Rattle.host_types.specs.declared.event.Event.TheVariants.{Unload}
use Rattle.host_core.specs.declared.reply.Reply.TheVariants.{Done, Refused}
use Rattle.host_core.specs.HostView.{TenantView, IsServed}
use Rattle.host_core.proofs.Opening.{accepted_at, lent-at}
use Rattle.host_core.proofs.Leaving.{unload-busy, unload-missing, unload-done}
use Rattle.host_core.proofs.tenant.Tenant.unload.Goals as goal

pub returns-then-is_open : goal.returns-then-is_open
returns-then-is_open c =
    let busy : is_some c.args.self.now.run ≡ true = sym (ap (λ (kept : TenantView). is_some kept.run) c.self.view_is) ∙ sym c.is_open.ensures ∙ c.if-is_open.true in
    unload-busy c.args.number c.args.program c.args.self.now c.args.memory.now busy

pub returns-in_default : goal.returns-in_default
returns-in_default c =
    let kept : TenantView = record { programs = c.self.inside.programs; run = c.self.inside.run } in
    let idle : is_some c.self.inside.run ≡ false = sym c.is_open.ensures ∙ c.if-is_open.false in
    let missing : accepted_at kept c.args.program ≡ None = lent-at kept c.as_slice.result.now c.args.program c.as_slice.ensures c.program_of.ensures ∙ ap option_copied c.in_default.is in
    subst (λ seen. IsServed c.args.number seen c.args.memory.now (Unload c.args.number c.args.program) (Refused NoProgram) seen c.args.memory.now) c.self.view_is
    (unload-missing c.args.number c.args.program kept c.args.memory.now idle missing)

pub returns : goal.returns
returns c =
    let kept : TenantView = record { programs = c.self.inside.programs; run = c.self.inside.run } in
    let idle : is_some c.self.inside.run ≡ false = sym c.is_open.ensures ∙ c.if-is_open.false in
    let new : TenantView = record { programs = set c.self.inside.programs c.args.program None; run = c.self.inside.run } in
    let found = lent-at kept c.as_slice.result.now c.args.program c.as_slice.ensures c.program_of.ensures ∙ ap option_copied c.in-Some.is in
    let served = unload-done c.args.number c.args.program kept c.args.memory.now _ idle found c.facts.ensures in
    subst (λ seen. IsServed c.args.number seen c.args.memory.now (Unload c.args.number c.args.program) Done new c.args.memory.now) c.self.view_is served
