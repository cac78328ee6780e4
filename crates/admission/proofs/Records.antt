-- A record of as many frames as were reserved before is no change.
use Rattle.std.proofs.Common.{◌≡◌, ℕ, List, refl, sym, ap, subst}
use Rattle.std.proofs.lemmas.List.{set-get_or}
use Rattle.host_types.specs.Tenant.{TenantPart}
use Rattle.page_table.specs.declared.tenant.Tenant.{Tenant}
use Rattle.page_table.specs.Changes.{with_reserve, with_record}
use Rattle.page_table.specs.State.{MemoryState, part, unreserved_tenant}

pub part_kept : (owned : TenantPart) (left : ℕ) → owned.reserve ≡ left → owned ≡ with_reserve left owned
part_kept owned left same = subst (λ (k : ℕ). owned ≡ with_reserve k owned) same refl

pub memory_kept : (memory : MemoryState) (tenant left : ℕ) → (part memory tenant).reserve ≡ left → memory ≡ with_record memory tenant left
unfolding part
memory_kept memory tenant left same =
    subst (λ (k : ℕ). memory ≡ with_record memory tenant k) same
    (ap (λ (tenants : List Tenant). record memory { tenants = tenants }) (sym (set-get_or memory.tenants tenant unreserved_tenant)))
