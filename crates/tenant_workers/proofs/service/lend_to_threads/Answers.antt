use Rattle.std.proofs.Common.{List, ap, subst}
use Rattle.tenant_workers.specs.declared.plans.TenantPlan.{TenantPlan}
use Rattle.tenant_workers.specs.Jobs.{AreEach}
use Rattle.tenant_workers.specs.Plans.{IsPlanServed, planned_by}
use Rattle.tenant_workers.proofs.Jobs.{each-mapped}
use Rattle.tenant_workers.proofs.service.lend_to_threads.Goals as goal

pub returns-clause-served : goal.returns-clause-served
returns-clause-served g c =
    each-mapped planned_by IsPlanServed c.args.tenants.now.items c.run_jobs-done.result.0.items
    (subst (λ (jobs : List TenantPlan). AreEach (λ was is. IsPlanServed (planned_by was) (planned_by is)) jobs c.run_jobs-done.result.0.items) (ap (λ tenants. tenants.items) c.replace-jobs.ensures.value) c.run_jobs-done.ensures.jobs)
