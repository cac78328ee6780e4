-- What unloading a program and dropping a map do to a tenant and to each system that it stands in.
use Rattle.std.proofs.Common.{◌≡◌, ◌≢◌, ℕ, ◌*◌, ◌<◌, Bool, true, false, List, length, set, slice_set, slice_index_or, inl, inr, Option, Some, None, is_some, IsNone, IfSome, IsSomeAnd, sym, ap, refl, ◌∙◌, subst, arith}
use Rattle.std.specs.List.{list_any}
use Rattle.std.specs.Option.{option_map}
use Rattle.std.proofs.lemmas.Bool.Decides.{eqb_tells}
use Rattle.std.proofs.lemmas.List.{length-set}
use Rattle.std.proofs.lemmas.List.Elements.{All-set}
use Rattle.std.proofs.lemmas.Option.{slice_get_within}
use Rattle.host_types.specs.declared.fault.Fault.{Fault}
use Rattle.host_types.specs.declared.fault.Fault.TheVariants.{NoMap, Busy, NoProgram, BadTenant, InUse}
use Rattle.host_types.specs.declared.shape.Shape.{Shape}
use Rattle.host_types.specs.Memory.{FlatMap, FlatMaps, map_at}
use Rattle.host_types.specs.Pages.{map_index_of}
use Rattle.host_types.specs.Sharing.{Sharing}
use Rattle.host_types.specs.Tenant.{TenantPart, AreFlatMaps, part_dropped}
use Rattle.host_types.specs.Visits.{dropped}
use Rattle.page_table.specs.Changes.{AreMapsKeptBut, RefusesDrop, pages_of_map}
use Rattle.page_table.specs.Reads.{ReadsAs}
use Rattle.page_table.specs.State.{MemoryState, part}
use Rattle.verifier.specs.Named.{names, named_shapes}
use Rattle.verifier.specs.Subject.{Subject}
use Rattle.verifier.specs.Verified.{Accepted, IsVerified}
use Rattle.verifier.proofs.NamedMaps.{named_shape}
use Rattle.interp.specs.Fits.{HaveShapes}
use Rattle.host_types.specs.declared.event.Event.TheVariants.{Unload, DropMap}
use Rattle.host_core.specs.declared.reply.Reply.TheVariants.{Done, Refused}
use Rattle.host_core.specs.World.{Tenant, System, names_there, is_used, owned_by, program_at}
use Rattle.host_core.specs.Happens.{unload_refusal, drop_refusal, changed_system}
use Rattle.host_core.specs.HostView.{TenantView, EachProgram, StandsForTenant, IsKept, IsServed, names_in}
use Rattle.host_core.proofs.Indices.{list_any-map, map-set, none-at}
use Rattle.host_core.proofs.Worlds.{OfTenant-there, RefusedOr-refused, RefusedOr-else}
use Rattle.host_core.proofs.Systems.{part_stands, many_stands, changed_stands}
use Rattle.host_core.proofs.Serving.{HasKept, is_some-run, served-same, still_idle, with_named_maps}
use Rattle.host_core.proofs.Opening.{accepted_at, program_at-kept}
use Rattle.host_core.proofs.Loading.{run-closed}

-- ---- a program that is unloaded

-- while a run is open
unload_refusal-busy : (tenant : Tenant) (k : ℕ) → is_some tenant.run ≡ true → unload_refusal tenant k ≡ Some Busy
unload_refusal-busy tenant k busy = rw busy refl

-- where no program is
unload_refusal-none_there : (tenant : Tenant) (k : ℕ) → is_some tenant.run ≡ false → program_at tenant k ≡ None → unload_refusal tenant k ≡ Some NoProgram
unload_refusal-none_there tenant k idle missing = rw (idle, missing) refl

-- where nothing forbids it
unload_refusal-none : (tenant : Tenant) (k : ℕ) (p : Subject) → is_some tenant.run ≡ false → program_at tenant k ≡ Some p → unload_refusal tenant k ≡ None
unload_refusal-none tenant k p idle found = rw (idle, found) refl

module _ (t k : ℕ) (old : TenantView) (memory : MemoryState) where
  unload-refused : (f : Fault) → ((tenant : Tenant) → StandsForTenant old tenant → unload_refusal tenant k ≡ Some f) → IsServed t old memory (Unload t k) (Refused f) old memory
  unload-refused f seen =
      served-same t old memory (Unload t k) (Refused f) (λ x tenant there stands holds.
      (OfTenant-there x t (Refused f) x _ tenant there (RefusedOr-refused (unload_refusal tenant k) x (Refused f) x _ f (seen tenant stands) (refl, refl)), tt))

  pub unload-busy : is_some old.run ≡ true → IsServed t old memory (Unload t k) (Refused Busy) old memory
  unload-busy busy = unload-refused Busy (λ tenant stands. unload_refusal-busy tenant k (is_some-run old.programs old.run tenant.run stands.run ∙ busy))

  pub unload-missing : is_some old.run ≡ false → accepted_at old k ≡ None → IsServed t old memory (Unload t k) (Refused NoProgram) old memory
  unload-missing idle missing =
      unload-refused NoProgram (λ tenant stands.
      unload_refusal-none_there tenant k
      (is_some-run old.programs old.run tenant.run stands.run ∙ idle)
      (program_at-kept old tenant k stands ∙ ap (option_map (λ (v : Accepted). v.subject)) missing))

  -- a tenant with one program less
  unloaded_stands : (tenant : Tenant) → is_some old.run ≡ false → StandsForTenant old tenant → StandsForTenant (record old { programs = set old.programs k None }) (record tenant { programs = set tenant.programs k None })
  unloaded_stands tenant idle stands =
      let Fitting : Accepted → Type 0 = λ a. HaveShapes (named_shapes a.subject) tenant.maps in
      record {
        programs = ap (λ programs. set programs k None) stands.programs ∙ sym (map-set (option_map (λ (a : Accepted). a.subject)) old.programs k None);
        verified = All-set (λ index. IfSome index IsVerified) old.programs k None tt stands.verified;
        shapes = All-set (λ index. IfSome index Fitting) old.programs k None tt stands.shapes;
        run = run-closed old.programs (set old.programs k None) old.run tenant.run idle stands.run;
        fulfils = record { maps = stands.fulfils.maps; eight = length-set tenant.programs k None ∙ stands.fulfils.eight; run = stands.fulfils.run; same = stands.fulfils.same };
      }

  pub unload-done : (v : Accepted) → is_some old.run ≡ false → accepted_at old k ≡ Some v → ReadsAs memory → IsServed t old memory (Unload t k) Done (record old { programs = set old.programs k None }) memory
  unload-done v idle found reads x tenant there stands holds =
      let next : Tenant = record tenant { programs = set tenant.programs k None } in
      let x' : System = changed_system x t next x.sharing in
      let program : program_at tenant k ≡ Some v.subject = program_at-kept old tenant k stands ∙ ap (option_map (λ (a : Accepted). a.subject)) found in
      let none = unload_refusal-none tenant k v.subject (is_some-run old.programs old.run tenant.run stands.run ∙ idle) program in (
        next,
        x.sharing,
        unloaded_stands tenant idle stands,
        changed_stands memory memory x t tenant next x.sharing x.sharing holds there refl refl reads stands.fulfils.maps.eight (part_stands memory x t tenant holds there) (λ j other. refl) holds.sharing,
        OfTenant-there x t Done x' _ tenant there (RefusedOr-else (unload_refusal tenant k) x Done x' _ none (refl, refl)),
        tt,
      )

-- ---- a map that is dropped

-- while a run is open
drop_refusal-busy : (tenant : Tenant) (m : ℕ) → is_some tenant.run ≡ true → drop_refusal tenant m ≡ Some Busy
drop_refusal-busy tenant m busy = rw busy refl

-- where no map is
drop_refusal-no_map : (tenant : Tenant) (m : ℕ) → is_some tenant.run ≡ false → is_some (map_at tenant.maps m) ≡ false → drop_refusal tenant m ≡ Some NoMap
drop_refusal-no_map tenant m idle missing = rw (idle, missing) refl

-- where a program names it
drop_refusal-in_use : (tenant : Tenant) (m : ℕ) → is_some tenant.run ≡ false → is_some (map_at tenant.maps m) ≡ true → is_used tenant m ≡ true → drop_refusal tenant m ≡ Some InUse
drop_refusal-in_use tenant m idle there used = rw (idle, there, used) refl

-- where nothing forbids it
drop_refusal-none : (tenant : Tenant) (m : ℕ) → is_some tenant.run ≡ false → is_some (map_at tenant.maps m) ≡ true → is_used tenant m ≡ false → drop_refusal tenant m ≡ None
drop_refusal-none tenant m idle there unused = rw (idle, there, unused) refl

-- a map is there just where it has a shape
pub shape-found : (found : Option FlatMap) → is_some (option_map (λ (flat : FlatMap). flat.shape) found) ≡ is_some found
shape-found None = refl
shape-found (Some flat) = refl

-- what a lent list of the indices says of a map's use
pub lent-used : (kept : TenantView) (lent : List (Option Accepted)) (m : ℕ) {used : Bool} → lent ≡ kept.programs → used ≡ list_any (names_in m) lent → list_any (names_in m) kept.programs ≡ used
lent-used kept lent m same says = ap (λ programs. list_any (names_in m) programs) (sym same) ∙ sym says

-- both sides say the same of a map's use
used-kept : (kept : TenantView) (tenant : Tenant) (m : ℕ) → StandsForTenant kept tenant → is_used tenant m ≡ list_any (names_in m) kept.programs
used-kept kept tenant m stands =
    ap (λ programs. list_any (names_there m) programs) stands.programs ∙ list_any-map (names_there m) (option_map (λ (a : Accepted). a.subject)) kept.programs

-- a program asks nothing of a map that it doesn't name
unnamed_kept : (p : Subject) (old new : FlatMaps) (m : ℕ) → names p.text m ≡ false → ((j : ℕ) → j ≢ m → map_at new j ≡ map_at old j) → HaveShapes (named_shapes p) old → HaveShapes (named_shapes p) new
unnamed_kept p old new m unnamed others have j = elim (eqb_tells j m) [
  | inl same ↦
      let none : slice_index_or (named_shapes p) m None ≡ None = named_shape p m ∙ rw unnamed refl in
      subst (λ i. IfSome (slice_index_or (named_shapes p) i None) (λ shape. IsSomeAnd (map_at new i) (λ flat. flat.shape ≡ shape))) (sym same.1)
      (subst (λ (found : Option Shape). IfSome found (λ shape. IsSomeAnd (map_at new m) (λ flat. flat.shape ≡ shape))) (sym none) tt)
  | inr differs ↦
      subst (λ (found : Option FlatMap). IfSome (slice_index_or (named_shapes p) j None) (λ shape. IsSomeAnd found (λ flat. flat.shape ≡ shape))) (sym (others j differs.1)) (have j)
]

-- no program asks anything of a map that none of them names
each_kept : (programs : List (Option Accepted)) (old new : FlatMaps) (m : ℕ) → list_any (names_in m) programs ≡ false → ((j : ℕ) → j ≢ m → map_at new j ≡ map_at old j)
    → EachProgram (λ a. HaveShapes (named_shapes a.subject) old) programs → EachProgram (λ a. HaveShapes (named_shapes a.subject) new) programs
each_kept programs old new m unused others have k d less = by (slice_index_or programs k d) (none-at (names_in m) programs k d unused less) (have k d less)
  where
    by : (index : Option Accepted) → names_in m index ≡ false → IfSome index (λ a. HaveShapes (named_shapes a.subject) old) → IfSome index (λ a. HaveShapes (named_shapes a.subject) new)
    by None unnamed had = tt
    by (Some a) unnamed had = unnamed_kept a.subject old new m unnamed others had

-- a tenant that is kept is one of the memory's
pub kept-inside : (t : ℕ) (kept : TenantView) (memory : MemoryState) → IsKept t kept memory → t < length memory.tenants
kept-inside t kept memory (x, tenant, there, stands, holds) =
    let within : t < length x.world = slice_get_within x.world t tenant there in
    let many = many_stands memory x holds in
    omega (arith, within, many)

-- what is known once a map was dropped
pub record HasDropped (t : ℕ) (before after : MemoryState) (m : ℕ) : Type 0 where
  pub there : is_some (map_at (part before t).maps m) ≡ true
  pub taken : part after t ≡ part_dropped (part before t) m
  pub sharing : after.sharing ≡ dropped before.sharing (map_index_of t m * 256) (pages_of_map (part before t) m)
  pub kept : HasKept t before after m

-- a map that is dropped
pub drop-done : (t : ℕ) (old : TenantView) (before after : MemoryState) (m : ℕ) → is_some old.run ≡ false → list_any (names_in m) old.programs ≡ false
    → HasDropped t before after m → IsServed t old before (DropMap t m) Done old after
drop-done t old before after m idle unused gone x tenant there stands holds =
    let none : IsNone tenant.run = is_some-run old.programs old.run tenant.run stands.run ∙ idle in
    let owned : part before t ≡ owned_by x.sharing t tenant = part_stands before x t tenant holds there in
    let next : Tenant = record tenant { maps = slice_set tenant.maps m None } in
    let became = gone.taken ∙ ap (λ o. part_dropped o m) owned in
    let is : part after t ≡ owned_by after.sharing t next = still_idle after t x.sharing tenant next.maps none (ap (λ (o : TenantPart). o.maps) became) (ap (λ (o : TenantPart). o.reserve) became) (ap (λ (o : TenantPart). o.running) became) in
    let eight : length next.maps ≡ 8 = length-set tenant.maps m None ∙ stands.fulfils.maps.eight in
    let flat : AreFlatMaps next.maps = subst (λ (o : TenantPart). AreFlatMaps o.maps) is (gone.kept.flat (ap (λ (o : TenantPart). length o.maps) is ∙ eight)) in
    let others : (j : ℕ) → j ≢ m → map_at next.maps j ≡ map_at tenant.maps j = subst (λ o. AreMapsKeptBut m o (owned_by after.sharing t next)) owned (subst (λ o. AreMapsKeptBut m (part before t) o) is gone.kept.other_maps) in
    let sharing : Sharing = dropped x.sharing (map_index_of t m * 256) (pages_of_map (owned_by x.sharing t tenant) m) in
    let shares : after.sharing ≡ sharing =
    gone.sharing ∙ ap (λ o. dropped before.sharing (map_index_of t m * 256) (pages_of_map o m)) owned ∙ ap (λ s. dropped s (map_index_of t m * 256) (pages_of_map (owned_by x.sharing t tenant) m)) holds.sharing in
    let found : is_some (map_at tenant.maps m) ≡ true = subst (λ (o : TenantPart). is_some (map_at o.maps m) ≡ true) owned gone.there in
    let x' : System = changed_system x t next sharing in
    let allowed = drop_refusal-none tenant m none found (used-kept old tenant m stands ∙ unused) in (
      next,
      sharing,
      with_named_maps old tenant next.maps none stands flat (each_kept old.programs tenant.maps next.maps m unused others stands.shapes),
      changed_stands before after x t tenant next sharing after.sharing holds there (ap length gone.kept.settings.tenants) gone.kept.settings.frames gone.kept.reads eight is gone.kept.others shares,
      OfTenant-there x t Done x' _ tenant there (RefusedOr-else (drop_refusal tenant m) x Done x' _ allowed (refl, refl)),
      tt,
    )

module _ (t m : ℕ) (old : TenantView) (memory : MemoryState) where
  drop-refused : (f : Fault) → ((seen : Sharing) (tenant : Tenant) → StandsForTenant old tenant → part memory t ≡ owned_by seen t tenant → drop_refusal tenant m ≡ Some f) → IsServed t old memory (DropMap t m) (Refused f) old memory
  drop-refused f refused =
      served-same t old memory (DropMap t m) (Refused f) (λ x tenant there stands holds.
      let owned = part_stands memory x t tenant holds there in
      (OfTenant-there x t (Refused f) x _ tenant there (RefusedOr-refused (drop_refusal tenant m) x (Refused f) x _ f (refused x.sharing tenant stands owned) (refl, refl)), tt))

  -- a drop while a run is open
  pub drop-busy : is_some old.run ≡ true → IsServed t old memory (DropMap t m) (Refused Busy) old memory
  drop-busy busy = drop-refused Busy (λ seen tenant stands owned. drop_refusal-busy tenant m (is_some-run old.programs old.run tenant.run stands.run ∙ busy))

  module _ (idle : is_some old.run ≡ false) where
    none-open : (tenant : Tenant) → StandsForTenant old tenant → is_some tenant.run ≡ false
    none-open tenant stands = is_some-run old.programs old.run tenant.run stands.run ∙ idle

    -- a drop of a map that isn't there
    pub drop-missing : is_some (map_at (part memory t).maps m) ≡ false → IsServed t old memory (DropMap t m) (Refused NoMap) old memory
    drop-missing missing =
        drop-refused NoMap (λ seen tenant stands owned.
        drop_refusal-no_map tenant m (none-open tenant stands) (subst (λ (o : TenantPart). is_some (map_at o.maps m) ≡ false) owned missing))

    -- a drop of a map that a program names
    pub drop-in_use : is_some (map_at (part memory t).maps m) ≡ true → list_any (names_in m) old.programs ≡ true → IsServed t old memory (DropMap t m) (Refused InUse) old memory
    drop-in_use there used =
        drop-refused InUse (λ seen tenant stands owned.
        drop_refusal-in_use tenant m (none-open tenant stands) (subst (λ (o : TenantPart). is_some (map_at o.maps m) ≡ true) owned there)
        (used-kept old tenant m stands ∙ used))

    -- a drop that the memory refuses
    pub drop-not_there : (f : Fault) → t < length memory.tenants → RefusesDrop memory t m f → IsServed t old memory (DropMap t m) (Refused f) old memory
    drop-not_there NoMap inside (there, missing) = drop-missing missing
    drop-not_there BadTenant inside past = absurd (omega (arith, inside, past))
    drop-not_there fault inside impossible = absurd impossible
