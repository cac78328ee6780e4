use Rattle.std.proofs.Common.{arith, refl}
use Rattle.serving.proofs.RunLines.{tenants-end, tenants-more}
use Rattle.serving.proofs.Tellings.{upto-all, upto-more, upto-none}
use Rattle.serving.proofs.results.print_runs.Goals as goal

pub loop-tenant-init : goal.loop-tenant-init
loop-tenant-init g c = upto-none _ _ c.args.printed.now.has_refused _ refl

pub loop-tenant-preserved : goal.loop-tenant-preserved
loop-tenant-preserved g c =
    upto-more _ _ _ _ _ _ _ _ _ _
    (tenants-more (λ plan. plan.replies.items) c.args.commands.now c.loop-tenant.tenant c.args.plans.now c.loop-tenant.tenant c.index-plans-tenant.result c.deref.result.now
    c.loop-tenant-test.true c.index-plans-tenant.is c.deref.ensures.value)
    c.in_ok-print_tenant.ensures.printed c.loop-tenant.invariant

pub returns-clause-printed : goal.returns-clause-printed
returns-clause-printed g c =
    upto-all _ _ _ _ _ _ (tenants-end (λ plan. plan.replies.items) c.args.commands.now c.loop-tenant.tenant c.args.plans.now c.loop-tenant.tenant (omega (arith, c.loop-tenant-test.false)))
    c.loop-tenant.invariant
