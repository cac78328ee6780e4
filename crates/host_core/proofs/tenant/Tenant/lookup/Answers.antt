use Rattle.std.proofs.Common.{sym, subst}
use Rattle.std.proofs.lemmas.Result.{err_from_is_err_and}
use Rattle.host_types.specs.declared.event.Event.TheVariants.{HostLookup}
use Rattle.host_core.specs.declared.reply.Reply.TheVariants.{Value}
use Rattle.host_core.specs.HostView.{IsServed}
use Rattle.host_core.proofs.Serving.{lookup-answered, lookup-refused}
use Rattle.host_core.proofs.tenant.Tenant.lookup.Goals as goal

pub returns-in_err-value : goal.returns-in_err-value
returns-in_err-value c =
    let served = lookup-refused c.args.number c.args.self.now c.args.memory.now c.args.map c.args.key c.in_err-value.field-0.0 c.in_err-value.ensures.refused in
    let p = err_from_is_err_and c.from_residual.result c.from_residual.ensures.1 in
    rw (p.1, p.2) served

pub returns : goal.returns
returns c =
    let event = HostLookup c.args.number c.args.map c.args.key in
    let served = lookup-answered c.args.number c.args.self.now c.args.memory.now c.args.map c.args.key c.in_ok-value.value.items c.in_ok-value.ensures.allowed c.in_ok-value.ensures.value in
    subst (λ bytes. IsServed c.args.number c.args.self.now c.args.memory.now event (Value bytes) c.args.self.now c.args.memory.now) (sym c.into.ensures) served
