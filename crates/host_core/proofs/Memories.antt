-- A memory's parts, and the maps of all tenants one after the other.
use Rattle.std.proofs.Common.{◌≡◌, ℕ, zero, suc, ◌+◌, ◌*◌, ◌<◌, Bool, false, List, [], ◌∷◌, ◌++◌, take, drop, length, get_or, Option, None, Some, is_some, IsNone, sym, ap, refl, ◌∙◌, subst, arith}
use Rattle.std.specs.List.{slice_get, All}
use Rattle.std.specs.Option.{option_map}
use Rattle.std.proofs.lemmas.List.{length-append, length-drop, take-append-drop, get_or_default, same_lists}
use Rattle.std.proofs.lemmas.List.Elements.{All-tail}
use Rattle.std.proofs.lemmas.Option.{get_or_from_slice_get, slice_get-get_or}
use Rattle.std.proofs.Math.Seq.{take-append_seam, drop-append-add}
use Rattle.host_types.specs.Bytes.{part_of}
use Rattle.host_types.specs.Memory.{FlatMaps}
use Rattle.host_types.specs.Sharing.{Sharing}
use Rattle.host_types.specs.Tenant.{TenantPart}
use Rattle.page_table.specs.declared.tenant.Tenant.{Tenant as Recorded}
use Rattle.page_table.specs.State.{MemoryState, part, unreserved_tenant}
use Rattle.host_core.specs.World.{OpenRun, Tenant, World, all_maps, pins_of, reserve_of, owned_by, new_tenant}
use Rattle.host_core.specs.HostView.{recorded_of, recorded_in}

-- the tenant has its eight entries for maps
abbrev pub IsEight : Tenant → Type 0
IsEight tenant = length tenant.maps ≡ 8

first_eight : (a : Tenant) (w : World) → All IsEight (a ∷ w) → length a.maps ≡ 8
first_eight a w eight = eight 0 a (omega arith)

-- a tenant's maps stand after those of the tenants before it
pub part_all : (w : World) (t : ℕ) (tenant : Tenant) → All IsEight w → slice_get w t ≡ Some tenant → part_of (all_maps w) (t * 8) 8 ≡ tenant.maps
unfolding part_of
part_all [] t tenant eight there = absurd (cc)
part_all (a ∷ w) zero tenant eight there =
    let same : a ≡ tenant = cc in
    let seam : take (length a.maps) (a.maps ++ all_maps w) ≡ a.maps = take-append_seam a.maps (all_maps w) in
    let first : take 8 (a.maps ++ all_maps w) ≡ a.maps = subst (λ n. take n (a.maps ++ all_maps w) ≡ a.maps) (first_eight a w eight) seam in
    subst (λ found. take 8 (a.maps ++ all_maps w) ≡ found.maps) same first
part_all (a ∷ w) (suc t) tenant eight there =
    let skipped : drop (length a.maps + t * 8) (a.maps ++ all_maps w) ≡ drop (t * 8) (all_maps w) = drop-append-add a.maps (all_maps w) (t * 8) in
    let next : suc t * 8 ≡ 8 + t * 8 = omega arith in
    let following : drop (8 + t * 8) (a.maps ++ all_maps w) ≡ drop (t * 8) (all_maps w) = subst (λ n. drop (n + t * 8) (a.maps ++ all_maps w) ≡ drop (t * 8) (all_maps w)) (first_eight a w eight) skipped in
    ap (λ n. take 8 (drop n (a.maps ++ all_maps w))) next ∙ ap (take 8) following ∙ part_all w t tenant (All-tail IsEight a w eight) there

-- as many indices as eight for each tenant
pub length_all : (w : World) → All IsEight w → length (all_maps w) ≡ length w * 8
length_all [] eight = refl
length_all (a ∷ w) eight =
    let here = length-append a.maps (all_maps w) in
    let rest = length_all w (All-tail IsEight a w eight) in
    let first = first_eight a w eight in
    omega (arith, here, rest, first)

-- what is left of what is left
nothing_left : (k : ℕ) → ◌≡◌ {A = FlatMaps} (drop k []) []
nothing_left zero = refl
nothing_left (suc k) = refl

zero_plus : (k : ℕ) → 0 + k ≡ k
zero_plus k = omega arith

suc_plus : (n k : ℕ) → suc (n + k) ≡ suc n + k
suc_plus n k = omega arith

dropped : (zs : FlatMaps) (n k : ℕ) → drop k (drop n zs) ≡ drop (n + k) zs
dropped zs zero k = ap (λ n. drop n zs) (sym (zero_plus k))
dropped [] (suc n) k = nothing_left k ∙ sym (nothing_left (suc n + k))
dropped (z ∷ zs) (suc n) k = dropped zs n k ∙ ap (λ m. drop m (z ∷ zs)) (suc_plus n k)

-- lists of as many eights that agree on each eight agree
pub same_eights : (n : ℕ) (xs ys : FlatMaps) → length xs ≡ n * 8 → length ys ≡ n * 8 → ((t : ℕ) → t < n → part_of xs (t * 8) 8 ≡ part_of ys (t * 8) 8) → xs ≡ ys
unfolding part_of
same_eights zero [] [] lx ly same = refl
same_eights zero (x ∷ xs) ys lx ly same = absurd (omega (arith, lx))
same_eights zero [] (y ∷ ys) lx ly same = absurd (omega (arith, ly))
same_eights (suc n) xs ys lx ly same =
    let dx : length (drop 8 xs) ≡ n * 8 = omega (arith, length-drop 8 xs, lx) in
    let dy : length (drop 8 ys) ≡ n * 8 = omega (arith, length-drop 8 ys, ly) in
    let first : take 8 xs ≡ take 8 ys = same 0 (omega arith) in
    let rest : drop 8 xs ≡ drop 8 ys = same_eights n (drop 8 xs) (drop 8 ys) dx dy (λ t less. later t (omega (arith, less))) in
    sym (take-append-drop 8 xs) ∙ ap (λ part. part ++ drop 8 xs) first ∙ ap (λ part. take 8 ys ++ part) rest ∙ take-append-drop 8 ys
  where
    following : (zs : FlatMaps) (k : ℕ) → drop k (drop 8 zs) ≡ drop (8 + k) zs
    following zs k = dropped zs 8 k

    later : (t : ℕ) → suc t < suc n → part_of (drop 8 xs) (t * 8) 8 ≡ part_of (drop 8 ys) (t * 8) 8
    later t less =
        let next : suc t * 8 ≡ 8 + t * 8 = omega arith in
        let there : take 8 (drop (8 + t * 8) xs) ≡ take 8 (drop (8 + t * 8) ys) = subst (λ n. take 8 (drop n xs) ≡ take 8 (drop n ys)) next (same (suc t) less) in
        ap (take 8) (following xs (t * 8)) ∙ there ∙ ap (take 8) (sym (following ys (t * 8)))

-- ---- what is recorded of the tenants

zero_next : (t : ℕ) → t + 0 ≡ t
zero_next t = omega arith

suc_next : (t k : ℕ) → suc t + k ≡ t + suc k
suc_next t k = omega arith

pub length-recorded : (sharing : Sharing) (t : ℕ) (w : World) → length (recorded_in sharing t w) ≡ length w
unfolding recorded_in
length-recorded sharing t [] = refl
length-recorded sharing t (a ∷ w) = ap suc (length-recorded sharing (suc t) w)

recorded-from : (sharing : Sharing) (t k : ℕ) (w : World) → slice_get (recorded_in sharing t w) k ≡ option_map (recorded_of sharing (t + k)) (slice_get w k)
unfolding recorded_in
recorded-from sharing t k [] = refl
recorded-from sharing t zero (a ∷ w) = ap (λ n. Some (recorded_of sharing n a)) (sym (zero_next t))
recorded-from sharing t (suc k) (a ∷ w) = recorded-from sharing (suc t) k w ∙ ap (λ n. option_map (recorded_of sharing n) (slice_get w k)) (suc_next t k)

pub recorded-at : (sharing : Sharing) (k : ℕ) (w : World) → slice_get (recorded_in sharing 0 w) k ≡ option_map (recorded_of sharing k) (slice_get w k)
recorded-at sharing k w = recorded-from sharing 0 k w ∙ ap (λ n. option_map (recorded_of sharing n) (slice_get w k)) (zero_plus k)

-- a part has the pins of its memory, so it is its tenant's by them too
pub owned-now : (memory : MemoryState) (seen : Sharing) (t : ℕ) (tenant : Tenant) → part memory t ≡ owned_by seen t tenant → part memory t ≡ owned_by memory.sharing t tenant
unfolding part
owned-now memory seen t tenant owned =
    let pins : pins_of seen t ≡ pins_of memory.sharing t = sym (ap (λ (o : TenantPart). o.pins) owned) in
    owned ∙ ap (λ (pins : List Bool). record { maps = tenant.maps; reserve = reserve_of pins tenant.maps tenant.run; running = is_some tenant.run; pins = pins }) pins

-- nothing is reserved where no run is open
pub reserve-idle : (pins : List Bool) (maps : FlatMaps) (r : Option OpenRun) → IsNone r → reserve_of pins maps r ≡ 0
reserve-idle pins maps None idle = refl
reserve-idle pins maps (Some r) idle = absurd (cc)

-- the part of a tenant without an open run
pub owned-idle : (memory : MemoryState) (t : ℕ) (tenant : Tenant) → IsNone tenant.run → (part memory t).maps ≡ tenant.maps → (part memory t).reserve ≡ 0 → (part memory t).running ≡ false
    → part memory t ≡ owned_by memory.sharing t tenant
unfolding part
owned-idle memory t tenant idle maps reserve running =
    let none : is_some tenant.run ≡ false = closed tenant.run idle in
    ap (λ (found : FlatMaps). record { maps = found; reserve = (part memory t).reserve; running = (part memory t).running; pins = pins_of memory.sharing t }) maps
    ∙ ap (λ (n : ℕ). record { maps = tenant.maps; reserve = n; running = (part memory t).running; pins = pins_of memory.sharing t }) (reserve ∙ sym (reserve-idle (pins_of memory.sharing t) tenant.maps tenant.run idle))
    ∙ ap (λ (b : Bool). record { maps = tenant.maps; reserve = reserve_of (pins_of memory.sharing t) tenant.maps tenant.run; running = b; pins = pins_of memory.sharing t }) (running ∙ sym none)
  where
    closed : (r : Option OpenRun) → IsNone r → is_some r ≡ false
    closed None idle = refl
    closed (Some r) idle = absurd (cc)

-- A memory whose part of each tenant is that tenant's has the maps of all tenants, and of each is recorded what
-- its open run may need.
pub memory_of_parts : (memory : MemoryState) (sharing : Sharing) (w : World) → All IsEight w → length memory.tenants ≡ length w → length memory.maps ≡ length w * 8
    → ((t : ℕ) (tenant : Tenant) → slice_get w t ≡ Some tenant → part memory t ≡ owned_by sharing t tenant)
    → (memory.maps ≡ all_maps w) × (memory.tenants ≡ recorded_in sharing 0 w)
unfolding part
memory_of_parts memory sharing w eight tenants maps parts = (
  same_eights (length w) memory.maps (all_maps w) maps (length_all w eight) (λ t less.
      let there = slice_get-get_or w t default less in
      ap (λ owned. owned.maps) (parts t (get_or w t default) there) ∙ sym (part_all w t (get_or w t default) eight there)),
  same_lists memory.tenants (recorded_in sharing 0 w) (tenants ∙ sym (length-recorded sharing 0 w)) (λ k d less. recorded k d (omega (arith, less, tenants))),
)
  where
    default : Tenant
    default = new_tenant

    recorded : (k : ℕ) (d : Recorded) → k < length w → get_or memory.tenants k d ≡ get_or (recorded_in sharing 0 w) k d
    recorded k d less =
        let there = slice_get-get_or w k default less in
        let read = get_or_from_slice_get (recorded_in sharing 0 w) k (recorded_of sharing k (get_or w k default)) d (recorded-at sharing k w ∙ ap (option_map (recorded_of sharing k)) there) in
        let same : get_or memory.tenants k d ≡ get_or memory.tenants k unreserved_tenant = get_or_default memory.tenants k d unreserved_tenant (omega (arith, less, tenants)) in
        let here : get_or memory.tenants k unreserved_tenant ≡ recorded_of sharing k (get_or w k default) =
        ap (λ (owned : TenantPart). record { reserve = owned.reserve; running = owned.running }) (parts k (get_or w k default) there) in
        same ∙ here ∙ sym read
