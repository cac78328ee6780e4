-- The scanner's plan, which its thread was lent.
use Rattle.std.proofs.Common.{◌≡◌, inl, inr}
use Rattle.tenant_workers.specs.declared.plans.Scanning.{Scanning}
use Rattle.tenant_workers.specs.Jobs.{MayBecome}
use Rattle.tenant_workers.specs.Plans.{IsScanServed}
use Rattle.tenant_workers.specs.Scans.{IsScanMade, IsScanRefused}

-- the loan comes back
pub lent-back : (old new : Scanning) → MayBecome IsScanMade IsScanRefused old new → new.plan.ghost_name ≡ old.plan.ghost_name
lent-back old new (inl made) = made.0
lent-back old new (inr refused) = refused.0

-- and the visits were made, or none was
pub scan-served : (old new : Scanning) → MayBecome IsScanMade IsScanRefused old new → IsScanServed old.plan.now new.plan.now
scan-served old new (inl made) = inl made.1
scan-served old new (inr refused) = inr refused.1
