-- What comes of the scanner's plan, which its thread is lent: the loan comes back.
use Rattle.std.specs.Prelude.{◌≡◌}
use Rattle.tenant_workers.specs.Plans.{HasScanned}
use Rattle.tenant_workers.specs.declared.plans.Scanning.{Scanning}

-- its visits were made
abbrev pub IsScanMade : Scanning → Scanning → Type 0
IsScanMade old new = (new.plan.ghost_name ≡ old.plan.ghost_name) × HasScanned old.plan.now new.plan.now

-- its thread couldn't be started
abbrev pub IsScanRefused : Scanning → Scanning → Type 0
IsScanRefused old new = (new.plan.ghost_name ≡ old.plan.ghost_name) × (new.plan.now ≡ old.plan.now)
