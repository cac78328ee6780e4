-- Memories that stand for systems.
use Rattle.std.proofs.Common.{◌≡◌, ◌≢◌, ℕ, zero, suc, ◌+◌, ◌*◌, ◌≤◌, ◌⊎◌, eqb, Bool, true, false, List, [], ◌∷◌, length, set, inl, inr, Some, sum_by, sym, ap, refl, ◌∙◌, subst, arith}
use Rattle.std.specs.List.{slice_get, All}
use Rattle.std.specs.Option.{option_map}
use Rattle.std.proofs.lemmas.Bool.Decides.{eqb_tells}
use Rattle.std.proofs.lemmas.List.{length-set}
use Rattle.std.proofs.lemmas.List.Elements.{All-set}
use Rattle.std.proofs.lemmas.List.Sums.{sum_by-cons}
use Rattle.std.proofs.lemmas.Option.{get_or_from_slice_get}
use Rattle.host_types.specs.Sharing.{Sharing, frames_free}
use Rattle.page_table.specs.declared.tenant.Tenant.{Tenant as Recorded}
use Rattle.page_table.specs.Changes.{AreKept, OtherTenantsUnchanged, KeepsSettings}
use Rattle.page_table.specs.Reads.{ReadsAs}
use Rattle.page_table.specs.State.{MemoryState, part, have_of, unreserved_tenant}
use Rattle.host_core.specs.World.{Tenant, World, System, pins_of, reserve_of, owned_by, have_in, reserved_from, reserved_in, IsCovered}
use Rattle.host_core.specs.Happens.{changed_system}
use Rattle.host_core.specs.HostView.{StandsForMemory, recorded_of, recorded_in}
use Rattle.host_core.specs.Batches.{KeepsPins}
use Rattle.host_core.proofs.Memories.{IsEight, part_all, length_all, length-recorded, recorded-at, owned-now, memory_of_parts}
use Rattle.host_core.proofs.Worlds.{slice_get-set, slice_get-set-other}

-- the part of each tenant is that tenant's
pub part_stands : (memory : MemoryState) (x : System) (t : ℕ) (tenant : Tenant) → StandsForMemory memory x → slice_get x.world t ≡ Some tenant → part memory t ≡ owned_by x.sharing t tenant
unfolding part
part_stands memory x t tenant stands there =
    let recorded = get_or_from_slice_get (recorded_in x.sharing 0 x.world) t (recorded_of x.sharing t tenant) unreserved_tenant (recorded-at x.sharing t x.world ∙ ap (option_map (recorded_of x.sharing t)) there) in
    let maps = part_all x.world t tenant stands.eight there in
    rw (stands.maps, stands.recorded, stands.sharing, maps, recorded) refl

-- so many reserves are recorded as open runs may need
pub reserved_stands : (sharing : Sharing) (t : ℕ) (w : World) → sum_by (λ (tenant : Recorded). tenant.reserve) (recorded_in sharing t w) ≡ reserved_from sharing t w
unfolding recorded_in reserved_from
reserved_stands sharing t [] = refl
reserved_stands sharing t (tenant ∷ w) =
    sum_by-cons (λ (recorded : Recorded). recorded.reserve) (recorded_of sharing t tenant) (recorded_in sharing (suc t) w)
    ∙ ap (λ n. (owned_by sharing t tenant).reserve + n) (reserved_stands sharing (suc t) w)

-- the frames that may be had
pub have_stands : (memory : MemoryState) (x : System) → StandsForMemory memory x → have_of memory ≡ have_in x
have_stands memory x stands =
    let all = reserved_stands x.sharing 0 x.world in
    rw (stands.recorded, stands.sharing, stands.frames, all) refl

-- all open runs together need no more frames than are free
pub covered : (memory : MemoryState) (x : System) → ReadsAs memory → StandsForMemory memory x → IsCovered x
covered memory x reads stands =
    let all = reserved_stands x.sharing 0 x.world in
    let most = reads.reserved in
    rw (stands.recorded, stands.sharing, stands.frames, all) at most

-- as many tenants are recorded as there are
pub many_stands : (memory : MemoryState) (x : System) → StandsForMemory memory x → length memory.tenants ≡ length x.world
many_stands memory x stands = ap length stands.recorded ∙ length-recorded x.sharing 0 x.world

-- a memory of which only the pages that share frames changed, and no tenant's pins
pub shares_stands : (before after : MemoryState) (x : System) (sharing : Sharing) → StandsForMemory before x → KeepsSettings before after → AreKept before after → after.maps ≡ before.maps → after.sharing ≡ sharing
    → StandsForMemory after (record x { sharing = sharing })
shares_stands before after x sharing stands kept parts maps is =
    let many : length after.tenants ≡ length x.world = ap length kept.tenants ∙ many_stands before x stands in
    let entry_indices : length after.maps ≡ length x.world * 8 = ap length (maps ∙ stands.maps) ∙ length_all x.world stands.eight in
    let (all, recorded) = memory_of_parts after after.sharing x.world stands.eight many entry_indices
    (λ t tenant there. owned-now after x.sharing t tenant (parts t ∙ part_stands before x t tenant stands there)) in
    record {
      maps = all;
      eight = stands.eight;
      sharing = is;
      frames = kept.frames ∙ stands.frames;
      recorded = recorded ∙ ap (λ s. recorded_in s 0 x.world) is;
    }

-- a memory of which one tenant's part and the pages that share frames changed
pub changed_stands : (before after : MemoryState) (x : System) (t : ℕ) (tenant next : Tenant) (sharing seen : Sharing) → StandsForMemory before x → slice_get x.world t ≡ Some tenant
    → length after.tenants ≡ length before.tenants → length after.arena ≡ length before.arena → ReadsAs after → length next.maps ≡ 8
    → part after t ≡ owned_by seen t next → OtherTenantsUnchanged t before after → after.sharing ≡ sharing → StandsForMemory after (changed_system x t next sharing)
changed_stands before after x t tenant next sharing seen stands there tenants frames reads eight owned others is =
    let w' : World = set x.world t next in
    let all : All IsEight w' = All-set IsEight x.world t next eight stands.eight in
    let many = many_stands before x stands in
    let counted : length after.tenants ≡ length w' = omega (arith, tenants, many, length-set x.world t next) in
    let entry_indices : length after.maps ≡ length w' * 8 = let whole = reads.eight in omega (arith, whole, counted) in
    let (maps, recorded) = memory_of_parts after after.sharing w' all counted entry_indices (λ j found is_there. each j found is_there (eqb_tells j t)) in
    record { maps = maps; eight = all; sharing = is; frames = frames ∙ stands.frames; recorded = recorded ∙ ap (λ s. recorded_in s 0 w') is }
  where
    each : (j : ℕ) (found : Tenant) → slice_get (set x.world t next) j ≡ Some found → ((eqb j t ≡ true) × (j ≡ t)) ⊎ ((eqb j t ≡ false) × (j ≢ t)) → part after j ≡ owned_by after.sharing j found
    each j found is_there (inl same) =
        let read : slice_get (set x.world t next) t ≡ Some next = slice_get-set x.world t tenant next there in
        let at_t : slice_get (set x.world t next) t ≡ Some found = subst (λ k. slice_get (set x.world t next) k ≡ Some found) same.1 is_there in
        let both : next ≡ found = cc in
        subst (λ k. part after k ≡ owned_by after.sharing k found) (sym same.1) (owned-now after seen t next owned ∙ ap (owned_by after.sharing t) both)
    each j found is_there (inr differs) =
        let before_there : slice_get x.world j ≡ Some found = sym (slice_get-set-other x.world t j next differs.1) ∙ is_there in
        owned-now after x.sharing j found (others j differs.1 ∙ part_stands before x j found stands before_there)

-- ---- what open runs may need where one tenant changed

abbrev need_of : Sharing → ℕ → Tenant → ℕ
need_of sharing t tenant = (owned_by sharing t tenant).reserve

need-same : (one other : Sharing) (t : ℕ) (tenant : Tenant) → pins_of other t ≡ pins_of one t → need_of other t tenant ≡ need_of one t tenant
need-same one other t tenant same = ap (λ (pins : List Bool). reserve_of pins tenant.maps tenant.run) same

reserved-same : (one other : Sharing) (t : ℕ) (w : World) → ((u : ℕ) → t ≤ u → pins_of other u ≡ pins_of one u) → reserved_from other t w ≡ reserved_from one t w
unfolding reserved_from
reserved-same one other t [] same = refl
reserved-same one other t (tenant ∷ w) same =
    let here = need-same one other t tenant (same t (omega arith)) in
    let rest = reserved-same one other (suc t) w (λ u above. same u (omega (arith, above))) in
    omega (arith, here, rest)

reserved-set : (one other : Sharing) (p : ℕ) → KeepsPins p one other → (w : World) (t k : ℕ) (tenant next : Tenant) → p ≡ t + k → slice_get w k ≡ Some tenant
    → reserved_from other t (set w k next) + need_of one p tenant ≡ reserved_from one t w + need_of other p next
unfolding reserved_from
reserved-set one other p kept [] t k tenant next at there = absurd (cc)
reserved-set one other p kept (a ∷ w) t zero tenant next at there =
    let same : a ≡ tenant = cc in
    let first : t ≡ p = omega (arith, at) in
    let now : need_of other t next ≡ need_of other p next = ap (λ n. need_of other n next) first in
    let was : need_of one t a ≡ need_of one p tenant = ap (λ n. need_of one n a) first ∙ ap (need_of one p) same in
    let rest = reserved-same one other (suc t) w (λ u above. kept u (λ e. absurd (omega (arith, above, e, first)))) in
    omega (arith, now, was, rest)
reserved-set one other p kept (a ∷ w) t (suc k) tenant next at there =
    let here = need-same one other t a (kept t (λ e. absurd (omega (arith, at, e)))) in
    let rest = reserved-set one other p kept w (suc t) k tenant next (omega (arith, at)) there in
    omega (arith, here, rest)

-- a system is covered after a step of a tenant, where enough frames are free, and no other tenant's pins changed
pub covered-step : (x : System) (t : ℕ) (tenant next : Tenant) (sharing : Sharing) → slice_get x.world t ≡ Some tenant → KeepsPins t x.sharing sharing
    → reserved_in x + (owned_by sharing t next).reserve ≤ frames_free x.frames sharing + (owned_by x.sharing t tenant).reserve → IsCovered (changed_system x t next sharing)
covered-step x t tenant next sharing there kept enough =
    let sums = reserved-set x.sharing sharing t kept x.world 0 t tenant next (omega arith) there in
    omega (arith, sums, enough)
