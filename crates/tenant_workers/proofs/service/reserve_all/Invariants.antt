use Rattle.std.proofs.Common.{All, take}
use Rattle.tenant_workers.specs.Plans.{AreSamePlans, HasReplyRoom}
use Rattle.tenant_workers.proofs.service.reserve_all.Given as goal

abbrev pub invariant-loop-tenant : goal.invariant-loop-tenant
invariant-loop-tenant l = All HasReplyRoom (take l.tenant-index l.tenants) × AreSamePlans l.fn.tenants l.tenants
