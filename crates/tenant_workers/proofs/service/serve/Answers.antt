use Rattle.std.proofs.Common.{rules}
use Rattle.tenant_workers.proofs.Kept.{served-from}
use Rattle.tenant_workers.proofs.service.serve.Goals as goal

pub returns-clause-served : goal.returns-clause-served
returns-clause-served g c =
    served-from c.args.plan.now.tenants.items c.reserve_all.new.tenants _ c.run_beside_scanner.new.tenants.items c.args.plan.now.tenants.len (search rules) (search rules)
    c.run_beside_scanner.ensures.served
