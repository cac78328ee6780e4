use Rattle.std.proofs.Common.{◌∙◌, ap, length, refl, subst, subst₂, sym}
use Rattle.page_table.specs.Changes.{RefusesMemory}
use Rattle.serving.specs.Opened.{IsStopped}
use Rattle.serving.specs.Served.{unserved}
use Rattle.serving.proofs.Served.{of-no_err, served-through, stopped-so}
use Rattle.serving.proofs.file.serve_plan.Goals as goal

pub returns-in-Err-clause-served : goal.returns-in-Err-clause-served
returns-in-Err-clause-served g c =
    let many = ap length c.deref_mut.ensures.value ∙ c.requires.count in
    stopped-so c.print_stop.result c.args.file.now c.in-Err.stop.event.now c.in-Err.stop.fault (g.W.Write.contents c.args.writer.now) (g.W.Write.contents c.print_stop.new.writer) c.requires.limits
    (subst₂ (λ count commands. IsStopped count commands c.in-Err.stop.event.now c.in-Err.stop.fault) many c.as_slice-commands.ensures c.in-Err.ensures.stopped)
    c.print_stop.ensures.status c.print_stop.ensures.written

pub returns-in-Err-serve-clause-served : goal.returns-in-Err-serve-clause-served
returns-in-Err-serve-clause-served g c =
    let file = c.args.file.now in
    unserved c.in-Err-serve.fault (subst (RefusesMemory file.frames file.tenants file.options) (sym c.in-Err-serve.ensures.refused) c.requires.limits) refl c.in_ok-refuse.ensures.line

pub returns-clause-served : goal.returns-clause-served
returns-clause-served g c =
    served-through c.print_served.result c.args.file.now c.as_slice-commands.result.now c.args.plan.now.tenants.items c.deref_mut.result.now c.open_all.new.plans c.deref_mut-2.result.now
    c.add_runs.new.plans c.serve.new.plan.tenants.items c.deref_mut-3.result.now _ _ c.args.plan.now.tenants.len
    (g.W.Write.contents c.args.writer.now) (g.W.Write.contents c.print_served.new.writer) c.requires.limits
    c.as_slice-commands.ensures c.requires.count c.in_default.ensures.settable c.requires.new c.deref_mut.ensures.value c.deref_mut.ensures.len
    c.in_default.ensures.opened c.deref_mut-2.ensures.value
    (of-no_err c.add_runs.result (sym c.is_err.ensures.value ∙ c.if-is_err.false) c.add_runs.ensures.planned)
    c.in_default-serve.ensures.served c.deref_mut-3.ensures.value c.print_served.ensures.printed
