-- A new host and a new system.
use Rattle.std.proofs.Common.{◌≡◌, ℕ, zero, suc, ◌+◌, ◌*◌, List, [], ◌∷◌, ◌++◌, replicate, Option, None, sym, ap, refl, ◌∙◌, subst, arith}
use Rattle.std.specs.List.{AllZip}
use Rattle.std.proofs.lemmas.List.{length-replicate, replicate_more, replicate-append-replicate}
use Rattle.std.proofs.lemmas.List.Elements.{All-replicate}
use Rattle.std.proofs.lemmas.Slice.Zip.{all_zipped_more}
use Rattle.host_types.specs.declared.options.Options.{Options}
use Rattle.host_types.specs.Memory.{FlatMap, FlatMaps}
use Rattle.host_types.specs.Pages.{zero_page}
use Rattle.host_types.specs.Sharing.{Sharing}
use Rattle.page_table.specs.State.{MemoryState, new_memory, no_sharing, unreserved_tenant as new_record}
use Rattle.host_core.specs.World.{all_maps, new_tenant, new_system}
use Rattle.host_core.specs.HostView.{TenantView, StandsForTenant, StandsForMemory, StandsForSystem, recorded_in}
use Rattle.host_core.proofs.Memories.{IsEight}

-- no tenant has a map
new_maps : (n : ℕ) → ◌≡◌ {A = FlatMaps} (replicate (n * 8) None) (all_maps (replicate n new_tenant))
new_maps zero = refl
new_maps (suc n) =
    let none : Option FlatMap = None in
    let more : suc n * 8 ≡ 8 + n * 8 = omega arith in
    ap (λ k. replicate k none) more ∙ sym (replicate-append-replicate 8 (n * 8) none) ∙ ap (λ xs. replicate 8 none ++ xs) (new_maps n)

-- nothing is reserved, and no run is open
new_records : (sharing : Sharing) (t n : ℕ) → replicate n new_record ≡ recorded_in sharing t (replicate n new_tenant)
unfolding recorded_in
new_records sharing t zero = refl
new_records sharing t (suc n) = ap (λ xs. new_record ∷ xs) (new_records sharing (suc t) n)

-- a new memory stands for a new system
pub new_stands : (frames tenants : ℕ) (options : Options) → StandsForMemory (new_memory frames tenants options) (new_system frames tenants options)
unfolding new_memory
new_stands frames tenants options = record {
  maps = new_maps tenants;
  eight = All-replicate IsEight tenants new_tenant refl;
  sharing = refl;
  frames = length-replicate frames zero_page;
  recorded = new_records (no_sharing (tenants * 2048) options) 0 tenants;
}

-- one more new tenant
pub tenants_push : (n : ℕ) (views : List TenantView) (kept : TenantView) → AllZip StandsForTenant views (replicate n new_tenant) → StandsForTenant kept new_tenant → AllZip StandsForTenant (views ++ kept ∷ []) (replicate (n + 1) new_tenant)
tenants_push n views kept stands new =
    subst (AllZip StandsForTenant (views ++ kept ∷ [])) (replicate_more n new_tenant)
    (all_zipped_more StandsForTenant views (replicate n new_tenant) kept new_tenant stands new)

-- a new host
pub host_new : (frames tenants : ℕ) (options : Options) (views : List TenantView) (memory : MemoryState) → memory ≡ new_memory frames tenants options → AllZip StandsForTenant views (replicate tenants new_tenant)
    → StandsForSystem (record { tenants = views; memory = memory }) (new_system frames tenants options)
host_new frames tenants options views memory is stand = record {
  memory = subst (λ m. StandsForMemory m (new_system frames tenants options)) (sym is) (new_stands frames tenants options);
  tenants = stand;
}
