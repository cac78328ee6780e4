-- Plans that are still lent the same memory.
use Rattle.std.proofs.Common.{◌≡◌, ◌<◌, ◌∙◌, ℕ, List, length, All, get_or}
use Rattle.std.proofs.Math.ListN.{set}
use Rattle.std.proofs.lemmas.List.Elements.{All-set}
use Rattle.atomic_table.specs.Seated.{TableId}
use Rattle.tenant_workers.specs.declared.plans.TenantPlan.{TenantPlan}
use Rattle.tenant_workers.specs.Plans.{IsFor}

pub own_set : (turn : TableId) (plans : List TenantPlan) (index : ℕ) (old plan : TenantPlan) → index < length plans
    → plan.shared.now ≡ (get_or plans index old).shared.now → All (IsFor turn) plans → All (IsFor turn) (set plans index plan)
own_set turn plans index old plan within same own =
    All-set (IsFor turn) plans index plan record { own = same ∙ (own index old within).own } own
