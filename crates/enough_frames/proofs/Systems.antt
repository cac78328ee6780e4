-- What a system has in frames, pages and reserves, where a host stands for it.
use Rattle.std.proofs.Common.{◌≡◌, ◌∙◌, ◌⊎◌, inl, inr, ⊎_elim, ℕ, zero, suc, ◌+◌, ◌*◌, ◌≤◌, true, List, [], ◌∷◌, ◌++◌, length, Option, Some, None, IfSome, refl, sym, ap, subst, arith}
use Rattle.std.specs.List.{slice_get, AllZip}
use Rattle.std.proofs.lemmas.List.Sums.{sum_by-cons, sum_by-append}
use Rattle.host_types.specs.Memory.{FlatMaps, map_at}
use Rattle.host_types.specs.Sharing.{Sharing, frames_free}
use Rattle.host_types.specs.Tenant.{IsFlatMap}
use Rattle.host_types.specs.Unmerging.{members, unmerge_need}
use Rattle.host_types.proofs.Unmerging.{AreListed}
use Rattle.page_table.specs.Reads.{ReadsAs}
use Rattle.admission.specs.Reserve.{needed_from}
use Rattle.verifier.specs.Verified.{Accepted}
use Rattle.verifier.specs.Writes.{writes_from}
use Rattle.host_types.specs.Tenant.{TenantPart}
use Rattle.host_core.specs.World.{OpenRun, Tenant, World, System, all_maps, accepted_of, pins_of, reserve_of, reserved_from, have_in, IsTenant}
use Rattle.host_core.specs.HostView.{TenantView, HostView, StandsForTenant, StandsForSystem}
use Rattle.enough_frames.specs.Frames.{map_pages, pages_in, pages_of_all, AreEnough}
use Rattle.enough_frames.proofs.Groups.{are_listed, few-groups}
use Rattle.enough_frames.proofs.Held.{in_groups, present, present-few, taken-present}
use Rattle.enough_frames.proofs.Needs.{unpinned-in_maps}
use Rattle.enough_frames.proofs.Shapes.{shapes_of}

-- ---- the maps of all tenants

pages-all_maps : (w : World) → pages_in (all_maps w) ≡ pages_of_all w
pages-all_maps [] = refl
pages-all_maps (tenant ∷ w) =
    let both = sum_by-append map_pages tenant.maps (all_maps w) in
    let rest = pages-all_maps w in
    let split = sum_by-cons (λ (t : Tenant). pages_in t.maps) tenant w in
    omega (arith, both, rest, split)

at-append : (xs ys : FlatMaps) (k : ℕ) → (map_at (xs ++ ys) k ≡ map_at xs k) ⊎ ((j : ℕ) × (map_at (xs ++ ys) k ≡ map_at ys j))
at-append [] ys k = inr (k, refl)
at-append (x ∷ xs) ys zero = inl refl
at-append (x ∷ xs) ys (suc k) = at-append xs ys k

flat-all_maps : (kept : List TenantView) (w : World) → AllZip StandsForTenant kept w → (k : ℕ) → IfSome (map_at (all_maps w) k) IsFlatMap
flat-all_maps [] [] h k = tt
flat-all_maps (one ∷ kept) [] h k = absurd h
flat-all_maps [] (tenant ∷ w) h k = absurd h
flat-all_maps (one ∷ kept) (tenant ∷ w) h k =
    ⊎_elim
    (λ first. subst (λ slot. IfSome slot IsFlatMap) (sym first) (h.0.fulfils.maps.each k))
    (λ later. subst (λ slot. IfSome slot IsFlatMap) (sym later.1) (flat-all_maps kept w h.1 later.0))
    (at-append tenant.maps (all_maps w) k)

is-tenant : (kept : List TenantView) (w : World) (t : ℕ) (tenant : Tenant) → AllZip StandsForTenant kept w → slice_get w t ≡ Some tenant → IsTenant tenant
is-tenant [] [] t tenant h e = absurd (cc)
is-tenant (one ∷ kept) [] t tenant h e = absurd h
is-tenant [] (other ∷ w) t tenant h e = absurd h
is-tenant (one ∷ kept) (other ∷ w) zero tenant h e = let same : other ≡ tenant = cc in subst IsTenant same h.0.fulfils
is-tenant (one ∷ kept) (other ∷ w) (suc t) tenant h e = is-tenant kept w t tenant h.1 e

-- ---- what open runs may need

pub need-few : (v : Accepted) (owned : TenantPart) (slot : ℕ) → needed_from v owned slot ≤ pages_in owned.maps
need-few v owned slot = let few = unpinned-in_maps (writes_from v slot) owned in omega (arith, few)

run-few : (sharing : Sharing) (t : ℕ) (maps : FlatMaps) (run : Option OpenRun) → reserve_of (pins_of sharing t) maps run ≤ pages_in maps
run-few sharing t maps None = omega arith
run-few sharing t maps (Some r) =
    need-few (accepted_of r.program) (record { maps = maps; reserve = 0; running = true; pins = pins_of sharing t }) r.state.slot

reserved-few : (sharing : Sharing) (t : ℕ) (w : World) → reserved_from sharing t w ≤ pages_of_all w
unfolding reserved_from
reserved-few sharing t [] = omega arith
reserved-few sharing t (tenant ∷ w) =
    let first = run-few sharing t tenant.maps tenant.run in
    let rest = reserved-few sharing (suc t) w in
    let split = sum_by-cons (λ (u : Tenant). pages_in u.maps) tenant w in
    omega (arith, first, rest, split)

-- for a tenant without an open run nothing is reserved
reserved-idle : (sharing : Sharing) (n : ℕ) (w : World) (t : ℕ) (tenant : Tenant) → slice_get w t ≡ Some tenant → tenant.run ≡ None
    → reserved_from sharing n w + pages_in tenant.maps ≤ pages_of_all w
unfolding reserved_from
reserved-idle sharing n [] t tenant e idle = absurd (cc)
reserved-idle sharing n (other ∷ w) zero tenant e idle =
    let same : other ≡ tenant = cc in
    let none : reserve_of (pins_of sharing n) other.maps other.run ≡ 0 =
    ap (reserve_of (pins_of sharing n) other.maps) (ap (λ (u : Tenant). u.run) same ∙ idle) in
    let maps = ap (λ (u : Tenant). pages_in u.maps) same in
    let rest = reserved-few sharing (suc n) w in
    let split = sum_by-cons (λ (u : Tenant). pages_in u.maps) other w in
    omega (arith, none, maps, rest, split)
reserved-idle sharing n (other ∷ w) (suc t) tenant e idle =
    let first = run-few sharing n other.maps other.run in
    let rest = reserved-idle sharing (suc n) w t tenant e idle in
    let split = sum_by-cons (λ (u : Tenant). pages_in u.maps) other w in
    omega (arith, first, rest, split)

-- ---- all of it

-- an open run has maps of its tenant's shapes
abbrev pub RunsHaveMaps : World → Type 0
RunsHaveMaps w =
    (t : ℕ) (tenant : Tenant) (r : OpenRun) → slice_get w t ≡ Some tenant → tenant.run ≡ Some r → shapes_of tenant.maps ≡ shapes_of r.state.memory.maps

-- what runs keep: no page takes two frames, and there are no more pages than the maps have
pub record Kept (x : System) : Type 0 where
  pub listed : AreListed x.sharing
  pub few : present x.sharing ≤ pages_of_all x.world
  pub runs : RunsHaveMaps x.world

-- and all maps are of shapes within the limits
pub record Balances (x : System) : Type 0 where
  pub kept : Kept x
  pub flat : (t : ℕ) (tenant : Tenant) → slice_get x.world t ≡ Some tenant → (m : ℕ) → IfSome (map_at tenant.maps m) IsFlatMap

pub balances : (view : HostView) (x : System) → ReadsAs view.memory → StandsForSystem view x → Balances x
balances view x reads stands =
    let memory = stands.memory in
    record {
      kept = record {
        listed = subst AreListed memory.sharing (are_listed view.memory.sharing (in_groups view.memory reads));
        few =
            let flat = subst (λ (maps : FlatMaps). (k : ℕ) → IfSome (map_at maps k) IsFlatMap) (sym memory.maps) (flat-all_maps view.tenants x.world stands.tenants) in
            let held = present-few view.memory reads flat in
            let maps = ap pages_in memory.maps ∙ pages-all_maps x.world in
            let same = ap present memory.sharing in
            omega (arith, held, maps, same);
        runs = λ t tenant r there open_run.
            let is = is-tenant view.tenants x.world t tenant stands.tenants there in
            ap shapes_of (subst (λ (run : Option OpenRun). IfSome run (λ r. tenant.maps ≡ r.state.memory.maps)) open_run is.same);
      };
      flat = λ t tenant there m. (is-tenant view.tenants x.world t tenant stands.tenants there).maps.each m;
    }

-- as many groups as there are take frames, and no more than their pages
groups-few : (s : Sharing) → AreListed s → length s.groups ≤ members s
unfolding members
groups-few s are = few-groups s.groups are.some

-- what may be had for a tenant without an open run
pub have-idle : (x : System) (made t : ℕ) (tenant : Tenant) → Kept x → slice_get x.world t ≡ Some tenant → tenant.run ≡ None → AreEnough x made
    → pages_in tenant.maps + made * 2 + 1 ≤ have_in x
unfolding frames_free
have-idle x made t tenant is there none enough =
    let taken = taken-present x.sharing is.listed in
    let few = is.few in
    let groups = groups-few x.sharing is.listed in
    let idle = reserved-idle x.sharing 0 x.world t tenant there none in
    omega (arith, taken, few, groups, idle, enough)

-- what may be had to unmerge all pages
pub have-unmerging : (x : System) → Kept x → AreEnough x 0 → unmerge_need x.sharing ≤ have_in x
unfolding frames_free unmerge_need
have-unmerging x is enough =
    let taken = taken-present x.sharing is.listed in
    let few = is.few in
    let groups = groups-few x.sharing is.listed in
    let reserved = reserved-few x.sharing 0 x.world in
    omega (arith, taken, few, groups, reserved, enough)
