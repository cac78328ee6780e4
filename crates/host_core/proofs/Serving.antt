-- What a tenant's events on its maps do to it and to each system that it stands in.
use Rattle.std.proofs.Common.{◌≡◌, ◌≢◌, ℕ, zero, suc, ◌*◌, ◌==◌, if◌then◌else◌, Bool, true, false, List, [], ◌∷◌, length, slice_index_or, slice_set, ◌⊎◌, inl, inr, Option, Some, None, is_some, is_none, option_map, Result, Ok, Err, IfOk, OnOk, IfErr, OnErr, IsErrAnd, IsNone, IsSome, IfSome, IsSomeAnd, sym, ap, refl, ◌∙◌, subst}
use Rattle.std.specs.List.{slice_get}
use Rattle.std.proofs.lemmas.Bool.Decides.{eqb_tells}
use Rattle.std.proofs.lemmas.List.{length-set}
use Rattle.std.proofs.lemmas.List.Quantifiers.{position-Some}
use Rattle.std.proofs.lemmas.Option.{IfSome_then}
use Rattle.std.proofs.lemmas.Result.{err_from_is_err_and}
use Rattle.host_types.specs.declared.fault.Fault.{Fault}
use Rattle.host_types.specs.declared.fault.Fault.TheVariants.{Busy, OutOfMemory, BadTenant}
use Rattle.host_types.specs.declared.helper.MapHelper.TheVariants.{Update}
use Rattle.host_types.specs.declared.shape.Shape.{Shape}
use Rattle.host_types.specs.Bytes.{with_part}
use Rattle.host_types.specs.Helpers.{helper, element_at, update_answer, map_updated, maps_updated}
use Rattle.host_types.specs.Memory.{FlatMap, FlatMaps, map_at}
use Rattle.host_types.specs.Pages.{map_index_of}
use Rattle.host_types.specs.Sharing.{Sharing}
use Rattle.host_types.specs.Tenant.{TenantPart, AreFlatMaps}
use Rattle.page_table.specs.Changes.{OtherTenantsUnchanged, AreMapsKeptBut, KeepsSettings, part_created, with_new_pages, zero_map}
use Rattle.page_table.specs.Limits.{page_count, shape_of}
use Rattle.page_table.specs.Reads.{ReadsAs}
use Rattle.page_table.specs.State.{MemoryState, part, free_number, have_of}
use Rattle.map_helpers.specs.Updates.{part_updated, updated_sharing_as}
use Rattle.verifier.specs.Named.{named_shapes}
use Rattle.verifier.specs.Verified.{Accepted}
use Rattle.interp.specs.Fits.{HaveShapes}
use Rattle.host_calls.specs.Calls.{IsThere, IsValue, IsValueIn, lookup_refusal, new_map_refusal, or_bad_tenant, refused_lookup, refused_new_map, refused_update, update_refusal}
use Rattle.host_types.specs.declared.event.Event.{Event}
use Rattle.host_types.specs.declared.event.Event.TheVariants.{CreateMap, HostUpdate, HostLookup}
use Rattle.host_core.specs.declared.reply.Reply.{Reply}
use Rattle.host_core.specs.declared.reply.Reply.TheVariants.{Map, Done, Value, Refused}
use Rattle.host_core.specs.declared.tenant.OpenRun.{OpenRun as KeptRun}
use Rattle.host_core.specs.World.{OpenRun, Tenant, System, pins_of, owned_by, have_in}
use Rattle.host_core.specs.Happens.{CreateHappens, Happens, IsPromised, LookupHappens, RefusedOr, UpdateHappens, changed_system, create_refusal, host_update_refusal, unless_busy}
use Rattle.host_core.specs.HostView.{TenantView, reply_of, EachProgram, StandsForAnyRun, StandsForTenant, StandsForMemory, IsKept, IsServed, IsAnswered, IsCopied}
use Rattle.host_core.proofs.Worlds.{changed_system-same, OfTenant-there}
use Rattle.host_core.proofs.Memories.{reserve-idle, owned-idle}
use Rattle.host_core.proofs.Systems.{part_stands, have_stands, changed_stands}

-- there is an open run on both sides, or on none
pub is_some-run : (programs : List (Option Accepted)) (kept : Option KeptRun) (r : Option OpenRun) → StandsForAnyRun programs kept r → is_some r ≡ is_some kept
is_some-run programs None None stands = refl
is_some-run programs None (Some r) stands = absurd stands
is_some-run programs (Some kept) None stands = absurd stands
is_some-run programs (Some kept) (Some r) stands = refl

-- what a call was reported of the open run of a tenant that it sees so
pub run_is : (old : TenantView) (programs : List (Option Accepted)) (run : Option KeptRun) (answer b : Bool) → ◌≡◌ {A = TenantView} (record { programs = programs; run = run }) old → answer ≡ is_some run → answer ≡ b → is_some old.run ≡ b
run_is old programs run answer b seen asked is = sym (ap (λ (kept : TenantView). is_some kept.run) seen) ∙ sym asked ∙ is

-- a refusal that a call passes on, and that changed nothing
pub passed_on : (t : ℕ) (old : TenantView) (before after : MemoryState) (event : Event) (f : Fault) (result : Result Reply Fault) → IsErrAnd result (λ e. e ≡ f) → after ≡ before
    → IsServed t old before event (Refused f) old before → IsServed t old before event (reply_of result) old after
passed_on t old before after event f result passed unchanged served =
    let p = err_from_is_err_and result passed in
    rw (p.1, p.2, unchanged) served

-- what is said of a run holds where there is none
if_idle : (r : Option OpenRun) (P : OpenRun → Type 0) → IsNone r → IfSome r P
if_idle None P idle = tt
if_idle (Some r) P idle = absurd (cc)

-- an event that changes nothing
pub served-same : (t : ℕ) (old : TenantView) (memory : MemoryState) (event : Event) (reply : Reply)
    → ((x : System) (tenant : Tenant) → slice_get x.world t ≡ Some tenant → StandsForTenant old tenant → StandsForMemory memory x → Happens x event reply x × IsPromised x event reply x)
    → IsServed t old memory event reply old memory
served-same t old memory event reply happens x tenant there stands holds =
    let same = changed_system-same x t tenant there in
    let both = happens x tenant there stands holds in (
      tenant,
      x.sharing,
      stands,
      subst (StandsForMemory memory) (sym same) holds,
      subst (λ x'. Happens x event reply x') (sym same) both.0,
      subst (λ x'. IsPromised x event reply x') (sym same) both.1,
    )

-- a tenant that is kept is there
pub kept-there : (t : ℕ) (kept : TenantView) (memory : MemoryState) → IsKept t kept memory → IsThere (part memory t)
kept-there t kept memory (x, tenant, there, stands, holds) = ap (λ (o : TenantPart). length o.maps) (part_stands memory x t tenant holds there) ∙ stands.fulfils.maps.eight

-- the map with a number is there with a shape
abbrev HasShape : FlatMaps → ℕ → Shape → Type 0
HasShape maps m shape = IsSomeAnd (map_at maps m) (λ flat. flat.shape ≡ shape)

if_shape : (shape : Option Shape) (P Q : Shape → Type 0) → ((s : Shape) → P s → Q s) → IfSome shape P → IfSome shape Q
if_shape None P Q f h = tt
if_shape (Some s) P Q f h = f s h

-- maps of which one changed, and kept the shape that it had, have the shapes that they had
shapes_kept : (shapes : List (Option Shape)) (old new : FlatMaps) (m : ℕ) → ((j : ℕ) → j ≢ m → map_at new j ≡ map_at old j) → ((shape : Shape) → HasShape old m shape → HasShape new m shape)
    → HaveShapes shapes old → HaveShapes shapes new
shapes_kept shapes old new m others same have j = if_shape (slice_index_or shapes j None) (HasShape old j) (HasShape new j) each (have j)
  where
    each : (shape : Shape) → HasShape old j shape → HasShape new j shape
    each shape had = elim (eqb_tells j m) [
      | inl is ↦ subst (λ k. HasShape new k shape) (sym is.1) (same shape (subst (λ k. HasShape old k shape) is.1 had))
      | inr differs ↦ subst (λ (found : Option FlatMap). IsSomeAnd found (λ flat. flat.shape ≡ shape)) (sym (others j differs.1)) had
    ]

-- a map that isn't there has no shape
shapeless : (found : Option FlatMap) (shape : Shape) → is_none found ≡ true → IsSomeAnd found (λ flat. flat.shape ≡ shape) → ⊥
shapeless None shape missing h = h
shapeless (Some flat) shape missing h = absurd (cc)

-- at a free number no map is there
free_shapeless : (owned : TenantPart) (m : ℕ) (shape : Shape) → free_number owned ≡ Some m → HasShape owned.maps m shape → ⊥
free_shapeless owned m shape free had =
    let found = position-Some (λ (slot : Option FlatMap). is_none slot) owned.maps m None free in
    shapeless (map_at owned.maps m) shape found.1 had

-- a map that is put in place of one of its shape has that shape
set_shape : (maps : FlatMaps) (m : ℕ) (f : FlatMap → FlatMap) (shape : Shape) → ((flat : FlatMap) → (f flat).shape ≡ flat.shape) → HasShape maps m shape
    → HasShape (slice_set maps m (option_map f (map_at maps m))) m shape
set_shape [] m f shape same had = absurd had
set_shape (None ∷ maps) zero f shape same had = absurd had
set_shape (Some flat ∷ maps) zero f shape same had = same flat ∙ had
set_shape (found ∷ maps) (suc m) f shape same had = set_shape maps m f shape same had

-- an update keeps the map's shape
updated_shape : (key : ℕ) (value : List ℕ) (flat : FlatMap) → (map_updated key value 0 flat).shape ≡ flat.shape
unfolding map_updated
updated_shape key value flat = chosen (update_answer flat.shape key 0 == 0) (with_part flat.bytes (element_at flat.shape key) value)
  where
    chosen : (b : Bool) (bytes : List ℕ) → (if b then record flat { bytes = bytes } else flat).shape ≡ flat.shape
    chosen true bytes = refl
    chosen false bytes = refl

-- a tenant without an open run, whose maps became others, of which those that its programs name have the shapes that they ask
pub with_named_maps : (old : TenantView) (tenant : Tenant) (maps : FlatMaps) → IsNone tenant.run → StandsForTenant old tenant → AreFlatMaps maps
    → EachProgram (λ accepted. HaveShapes (named_shapes accepted.subject) maps) old.programs → StandsForTenant old (record tenant { maps = maps })
with_named_maps old tenant maps idle stands flat have = record {
  programs = stands.programs;
  verified = stands.verified;
  shapes = have;
  run = stands.run;
  fulfils = record { maps = flat; eight = stands.fulfils.eight; run = stands.fulfils.run; same = if_idle tenant.run (λ r. maps ≡ r.state.memory.maps) idle };
}

-- a tenant without an open run, whose maps became others that have the shapes that its programs use
with_maps : (old : TenantView) (tenant : Tenant) (maps : FlatMaps) → IsNone tenant.run → StandsForTenant old tenant → AreFlatMaps maps
    → ((shapes : List (Option Shape)) → HaveShapes shapes tenant.maps → HaveShapes shapes maps) → StandsForTenant old (record tenant { maps = maps })
with_maps old tenant maps idle stands flat have =
    with_named_maps old tenant maps idle stands flat
    (λ k d less. IfSome_then (slice_index_or old.programs k d) (stands.shapes k d less) (λ accepted. have (named_shapes accepted.subject)))

-- the part of a tenant without an open run, whose maps became others
pub still_idle : (memory : MemoryState) (t : ℕ) (seen : Sharing) (tenant : Tenant) (maps : FlatMaps) → IsNone tenant.run
    → (part memory t).maps ≡ maps → (part memory t).reserve ≡ (owned_by seen t tenant).reserve → (part memory t).running ≡ (owned_by seen t tenant).running
    → part memory t ≡ owned_by memory.sharing t (record tenant { maps = maps })
still_idle memory t seen tenant maps idle has reserve running =
    owned-idle memory t (record tenant { maps = maps }) idle has
    (reserve ∙ reserve-idle (pins_of seen t) tenant.maps tenant.run idle)
    (running ∙ closed tenant.run idle)
  where
    closed : (r : Option OpenRun) → IsNone r → is_some r ≡ false
    closed None idle = refl
    closed (Some r) idle = absurd (cc)

-- what a call that changes one of a tenant's maps keeps, and what is known of the memory after it
pub record HasKept (t : ℕ) (before after : MemoryState) (m : ℕ) : Type 0 where
  pub other_maps : AreMapsKeptBut m (part before t) (part after t)
  pub others : OtherTenantsUnchanged t before after
  pub settings : KeepsSettings before after
  pub reads : ReadsAs after
  pub flat : length (part after t).maps ≡ 8 → AreFlatMaps (part after t).maps

pub has_kept : (t : ℕ) (before after : MemoryState) (m : ℕ) → AreMapsKeptBut m (part before t) (part after t) → OtherTenantsUnchanged t before after → KeepsSettings before after → ReadsAs after
    → (length (part after t).maps ≡ 8 → AreFlatMaps (part after t).maps) → HasKept t before after m
has_kept t before after m other_maps others settings reads flat = record { other_maps = other_maps; others = others; settings = settings; reads = reads; flat = flat }

-- ---- Refusals of a call: what the memory reported of the tenant, in each system that both stand for

-- the event is refused, or it happens
refused-some : (x : System) (f : Fault) (refusal : Option Fault) (Happening : Type 0) → refusal ≡ Some f → RefusedOr refusal x (Refused f) x Happening
refused-some x f refusal Happening is = subst (λ r. RefusedOr r x (Refused f) x Happening) (sym is) (refl, refl)

refused-none : (x x' : System) (reply : Reply) (refusal : Option Fault) (Happening : Type 0) → refusal ≡ None → Happening → RefusedOr refusal x reply x' Happening
refused-none x x' reply refusal Happening is happens = subst (λ r. RefusedOr r x reply x' Happening) (sym is) happens

-- a tenant with an open run, and one without
while-busy : (tenant : Tenant) (refusal : Option Fault) → IsSome tenant.run → unless_busy tenant refusal ≡ Some Busy
while-busy tenant refusal busy = ap (λ b. if b then Some Busy else refusal) busy

while-idle : (tenant : Tenant) (refusal first : Option Fault) → IsNone tenant.run → refusal ≡ first → unless_busy tenant refusal ≡ first
while-idle tenant refusal first idle is = ap (λ b. if b then Some Busy else refusal) idle ∙ is

-- a tenant that is there is no bad one
not-bad : (owned : TenantPart) (refusal first : Option Fault) → length owned.maps ≡ 8 → or_bad_tenant owned refusal ≡ first → refusal ≡ first
not-bad owned refusal first eight is = let here : (length owned.maps == 8) ≡ true = rw eight refl in sym (ap (λ b. if b then refusal else Some BadTenant) here) ∙ is

module _ (old : TenantView) (memory : MemoryState) (x : System) (t : ℕ) (tenant : Tenant) (there : slice_get x.world t ≡ Some tenant) (stands : StandsForTenant old tenant) (holds : StandsForMemory memory x) where
  eight_there : length (owned_by x.sharing t tenant).maps ≡ 8
  eight_there = stands.fulfils.maps.eight

  map-refusal : (shape : Shape) (first : Option Fault) → refused_new_map memory t shape ≡ first → new_map_refusal (owned_by x.sharing t tenant) shape (have_in x) ≡ first
  map-refusal shape first is =
      not-bad (owned_by x.sharing t tenant) (new_map_refusal (owned_by x.sharing t tenant) shape (have_in x)) first eight_there
      (subst (λ n. or_bad_tenant (owned_by x.sharing t tenant) (new_map_refusal (owned_by x.sharing t tenant) shape n) ≡ first) (have_stands memory x holds)
      (subst (λ o. or_bad_tenant o (new_map_refusal o shape (have_of memory)) ≡ first) (part_stands memory x t tenant holds there) is))

  value-refusal : (m key : ℕ) (value : List ℕ) (first : Option Fault) → refused_update memory t m key value ≡ first → update_refusal (owned_by x.sharing t tenant) m key value (have_in x) ≡ first
  value-refusal m key value first is =
      not-bad (owned_by x.sharing t tenant) (update_refusal (owned_by x.sharing t tenant) m key value (have_in x)) first eight_there
      (subst (λ n. or_bad_tenant (owned_by x.sharing t tenant) (update_refusal (owned_by x.sharing t tenant) m key value n) ≡ first) (have_stands memory x holds)
      (subst (λ o. or_bad_tenant o (update_refusal o m key value (have_of memory)) ≡ first) (part_stands memory x t tenant holds there) is))

  element-refusal : (m key : ℕ) (first : Option Fault) → refused_lookup memory t m key ≡ first → lookup_refusal (owned_by x.sharing t tenant) m key ≡ first
  element-refusal m key first is =
      not-bad (owned_by x.sharing t tenant) (lookup_refusal (owned_by x.sharing t tenant) m key) first eight_there
      (subst (λ o. or_bad_tenant o (lookup_refusal o m key) ≡ first) (part_stands memory x t tenant holds there) is)

-- what is known once a map was made
pub record HasCreated (t : ℕ) (before after : MemoryState) (shape : Shape) (mergeable : Bool) (m : ℕ) : Type 0 where
  pub allowed : refused_new_map before t shape ≡ None
  pub number : free_number (part before t) ≡ Some m
  pub created : part after t ≡ part_created (part before t) m shape
  pub sharing : after.sharing ≡ with_new_pages before.sharing (map_index_of t m * 256) (page_count shape) mergeable
  pub kept : HasKept t before after m

-- a map that is made
pub create-made : (t : ℕ) (old : TenantView) (before after : MemoryState) (value_size entries : ℕ) (mergeable : Bool) (m : ℕ) → is_some old.run ≡ false
    → HasCreated t before after (shape_of value_size entries) mergeable m → IsServed t old before (CreateMap t value_size entries mergeable) (Map m) old after
create-made t old before after value_size entries mergeable m idle made x tenant there stands holds =
    let shape : Shape = shape_of value_size entries in
    let none : IsNone tenant.run = is_some-run old.programs old.run tenant.run stands.run ∙ idle in
    let owned : part before t ≡ owned_by x.sharing t tenant = part_stands before x t tenant holds there in
    let next : Tenant = record tenant { maps = slice_set tenant.maps m (Some (zero_map shape)) } in
    let became = made.created ∙ ap (λ o. part_created o m shape) owned in
    let is : part after t ≡ owned_by after.sharing t next = still_idle after t x.sharing tenant next.maps none (ap (λ (o : TenantPart). o.maps) became) (ap (λ (o : TenantPart). o.reserve) became) (ap (λ (o : TenantPart). o.running) became) in
    let eight : length next.maps ≡ 8 = length-set tenant.maps m (Some (zero_map shape)) ∙ stands.fulfils.maps.eight in
    let flat : AreFlatMaps next.maps = subst (λ (o : TenantPart). AreFlatMaps o.maps) is (made.kept.flat (ap (λ (o : TenantPart). length o.maps) is ∙ eight)) in
    let free : free_number (owned_by x.sharing t tenant) ≡ Some m = subst (λ o. free_number o ≡ Some m) owned made.number in
    let others : (j : ℕ) → j ≢ m → map_at next.maps j ≡ map_at tenant.maps j = subst (λ o. AreMapsKeptBut m o (owned_by after.sharing t next)) owned (subst (λ o. AreMapsKeptBut m (part before t) o) is made.kept.other_maps) in
    let have : (shapes : List (Option Shape)) → HaveShapes shapes tenant.maps → HaveShapes shapes next.maps =
    λ shapes. shapes_kept shapes tenant.maps next.maps m others (λ s had. absurd (free_shapeless (owned_by x.sharing t tenant) m s free had)) in
    let sharing : Sharing = with_new_pages x.sharing (map_index_of t m * 256) (page_count shape) mergeable in
    let shares : after.sharing ≡ sharing = made.sharing ∙ ap (λ s. with_new_pages s (map_index_of t m * 256) (page_count shape) mergeable) holds.sharing in
    let allowed : create_refusal x t tenant shape ≡ None =
    while-idle tenant (new_map_refusal (owned_by x.sharing t tenant) shape (have_in x)) None none (map-refusal old before x t tenant there stands holds shape None made.allowed) in (
      next,
      sharing,
      with_maps old tenant next.maps none stands flat have,
      changed_stands before after x t tenant next sharing after.sharing holds there (ap length made.kept.settings.tenants) made.kept.settings.frames made.kept.reads eight is made.kept.others shares,
      OfTenant-there x t (Map m) (changed_system x t next sharing) _ tenant there (refused-none x (changed_system x t next sharing) (Map m) (create_refusal x t tenant shape) (CreateHappens x t tenant shape mergeable (Map m) (changed_system x t next sharing)) allowed (m, free, (refl, refl))),
      tt,
    )

-- a map that isn't made
pub create-refused : (t : ℕ) (old : TenantView) (memory : MemoryState) (value_size entries : ℕ) (mergeable : Bool) (f : Fault) → is_some old.run ≡ false
    → refused_new_map memory t (shape_of value_size entries) ≡ Some f → IsServed t old memory (CreateMap t value_size entries mergeable) (Refused f) old memory
create-refused t old memory value_size entries mergeable f idle refuses =
    served-same t old memory (CreateMap t value_size entries mergeable) (Refused f) (λ x tenant there stands holds.
    let none : IsNone tenant.run = is_some-run old.programs old.run tenant.run stands.run ∙ idle in
    let shape : Shape = shape_of value_size entries in
    let first : create_refusal x t tenant shape ≡ Some f =
    while-idle tenant (new_map_refusal (owned_by x.sharing t tenant) shape (have_in x)) (Some f) none (map-refusal old memory x t tenant there stands holds shape (Some f) refuses) in
    (OfTenant-there x t (Refused f) x _ tenant there (refused-some x f (create_refusal x t tenant shape) (CreateHappens x t tenant shape mergeable (Refused f) x) first), tt))

-- a map that isn't made while a run is open
pub create-busy : (t : ℕ) (old : TenantView) (memory : MemoryState) (value_size entries : ℕ) (mergeable : Bool) → is_some old.run ≡ true
    → IsServed t old memory (CreateMap t value_size entries mergeable) (Refused Busy) old memory
create-busy t old memory value_size entries mergeable busy =
    served-same t old memory (CreateMap t value_size entries mergeable) (Refused Busy) (λ x tenant there stands holds.
    let run : IsSome tenant.run = is_some-run old.programs old.run tenant.run stands.run ∙ busy in (
      OfTenant-there x t (Refused Busy) x _ tenant there (refused-some x Busy (create_refusal x t tenant (shape_of value_size entries)) (CreateHappens x t tenant (shape_of value_size entries) mergeable (Refused Busy) x)
          (while-busy tenant (new_map_refusal (owned_by x.sharing t tenant) (shape_of value_size entries) (have_in x)) run)),
      tt,
    ))

-- what is known once a value was written
pub record HasUpdated (t : ℕ) (before after : MemoryState) (m key : ℕ) (value : List ℕ) : Type 0 where
  pub allowed : refused_update before t m key value ≡ None
  pub updated : part after t ≡ part_updated (part before t) m key value 0
  pub helped : helper Update (part before t).maps m key value 0 ≡ Some (0, (part after t).maps)
  pub sharing : after.sharing ≡ updated_sharing_as false (part before t) before.sharing t m key 0
  pub kept : HasKept t before after m

-- an update keeps the number of maps
length-updated : (maps : FlatMaps) (m key : ℕ) (value : List ℕ) → length (maps_updated maps m key value 0) ≡ length maps
unfolding maps_updated
length-updated maps m key value = length-set maps m (option_map (map_updated key value 0) (map_at maps m))

-- and the shape of the map
updated_shapes : (maps : FlatMaps) (m key : ℕ) (value : List ℕ) (shape : Shape) → HasShape maps m shape → HasShape (maps_updated maps m key value 0) m shape
unfolding maps_updated
updated_shapes maps m key value shape had = set_shape maps m (map_updated key value 0) shape (updated_shape key value) had

-- a value that is written
pub update-done : (t : ℕ) (old : TenantView) (before after : MemoryState) (m key : ℕ) (value : List ℕ) → is_some old.run ≡ false
    → HasUpdated t before after m key value → IsServed t old before (HostUpdate t m key value) Done old after
update-done t old before after m key value idle made x tenant there stands holds =
    let none : IsNone tenant.run = is_some-run old.programs old.run tenant.run stands.run ∙ idle in
    let owned : part before t ≡ owned_by x.sharing t tenant = part_stands before x t tenant holds there in
    let next : Tenant = record tenant { maps = maps_updated tenant.maps m key value 0 } in
    let became = made.updated ∙ ap (λ o. part_updated o m key value 0) owned in
    let is : part after t ≡ owned_by after.sharing t next = still_idle after t x.sharing tenant next.maps none (ap (λ (o : TenantPart). o.maps) became) (ap (λ (o : TenantPart). o.reserve) became) (ap (λ (o : TenantPart). o.running) became) in
    let eight : length next.maps ≡ 8 = length-updated tenant.maps m key value ∙ stands.fulfils.maps.eight in
    let flat : AreFlatMaps next.maps = subst (λ (o : TenantPart). AreFlatMaps o.maps) is (made.kept.flat (ap (λ (o : TenantPart). length o.maps) is ∙ eight)) in
    let others : (j : ℕ) → j ≢ m → map_at next.maps j ≡ map_at tenant.maps j = subst (λ o. AreMapsKeptBut m o (owned_by after.sharing t next)) owned (subst (λ o. AreMapsKeptBut m (part before t) o) is made.kept.other_maps) in
    let have : (shapes : List (Option Shape)) → HaveShapes shapes tenant.maps → HaveShapes shapes next.maps =
    λ shapes. shapes_kept shapes tenant.maps next.maps m others (λ s had. updated_shapes tenant.maps m key value s had) in
    let sharing : Sharing = updated_sharing_as false (owned_by x.sharing t tenant) x.sharing t m key 0 in
    let shares : after.sharing ≡ sharing =
    made.sharing ∙ ap (λ o. updated_sharing_as false o before.sharing t m key 0) owned ∙ ap (λ s. updated_sharing_as false (owned_by x.sharing t tenant) s t m key 0) holds.sharing in
    let allowed : host_update_refusal x t tenant m key value ≡ None =
    while-idle tenant (update_refusal (owned_by x.sharing t tenant) m key value (have_in x)) None none (value-refusal old before x t tenant there stands holds m key value None made.allowed) in
    let helped : helper Update tenant.maps m key value 0 ≡ Some (0, next.maps) =
    subst (λ (o : TenantPart). helper Update o.maps m key value 0 ≡ Some (0, next.maps)) owned (subst (λ (o : TenantPart). helper Update (part before t).maps m key value 0 ≡ Some (0, o.maps)) is made.helped) in (
      next,
      sharing,
      with_maps old tenant next.maps none stands flat have,
      changed_stands before after x t tenant next sharing after.sharing holds there (ap length made.kept.settings.tenants) made.kept.settings.frames made.kept.reads eight is made.kept.others shares,
      OfTenant-there x t Done (changed_system x t next sharing) _ tenant there (refused-none x (changed_system x t next sharing) Done (host_update_refusal x t tenant m key value) (UpdateHappens x t tenant m key value Done (changed_system x t next sharing)) allowed (next.maps, helped, (refl, refl))),
      tt,
    )

-- a value that isn't written
pub update-refused : (t : ℕ) (old : TenantView) (memory : MemoryState) (m key : ℕ) (value : List ℕ) (f : Fault) → is_some old.run ≡ false
    → refused_update memory t m key value ≡ Some f → IsServed t old memory (HostUpdate t m key value) (Refused f) old memory
update-refused t old memory m key value f idle refuses =
    served-same t old memory (HostUpdate t m key value) (Refused f) (λ x tenant there stands holds.
    let none : IsNone tenant.run = is_some-run old.programs old.run tenant.run stands.run ∙ idle in
    let first : host_update_refusal x t tenant m key value ≡ Some f =
    while-idle tenant (update_refusal (owned_by x.sharing t tenant) m key value (have_in x)) (Some f) none (value-refusal old memory x t tenant there stands holds m key value (Some f) refuses) in
    (OfTenant-there x t (Refused f) x _ tenant there (refused-some x f (host_update_refusal x t tenant m key value) (UpdateHappens x t tenant m key value (Refused f) x) first), tt))

-- a value that isn't written while a run is open
pub update-busy : (t : ℕ) (old : TenantView) (memory : MemoryState) (m key : ℕ) (value : List ℕ) → is_some old.run ≡ true → IsServed t old memory (HostUpdate t m key value) (Refused Busy) old memory
update-busy t old memory m key value busy =
    served-same t old memory (HostUpdate t m key value) (Refused Busy) (λ x tenant there stands holds.
    let run : IsSome tenant.run = is_some-run old.programs old.run tenant.run stands.run ∙ busy in (
      OfTenant-there x t (Refused Busy) x _ tenant there (refused-some x Busy (host_update_refusal x t tenant m key value) (UpdateHappens x t tenant m key value (Refused Busy) x)
          (while-busy tenant (update_refusal (owned_by x.sharing t tenant) m key value (have_in x)) run)),
      tt,
    ))

-- a value that is read
pub lookup-is : (t : ℕ) (old : TenantView) (memory : MemoryState) (m key : ℕ) (bytes : List ℕ) → refused_lookup memory t m key ≡ None → IsValue (part memory t) m key bytes
    → IsAnswered t old memory (HostLookup t m key) (Value bytes)
lookup-is t old memory m key bytes allowed value x tenant there stands holds =
    let none = element-refusal old memory x t tenant there stands holds m key None allowed in
    let here = subst (λ o. IsValue o m key bytes) (part_stands memory x t tenant holds there) value in
    (OfTenant-there x t (Value bytes) x _ tenant there (refused-none x x (Value bytes) (lookup_refusal (owned_by x.sharing t tenant) m key) (LookupHappens x t tenant m key (Value bytes) x) none (inr (bytes, here, (refl, refl)))), tt)

pub lookup-answered : (t : ℕ) (old : TenantView) (memory : MemoryState) (m key : ℕ) (bytes : List ℕ) → refused_lookup memory t m key ≡ None → IsValue (part memory t) m key bytes
    → IsServed t old memory (HostLookup t m key) (Value bytes) old memory
lookup-answered t old memory m key bytes allowed value =
    served-same t old memory (HostLookup t m key) (Value bytes) (lookup-is t old memory m key bytes allowed value)

-- a value that isn't read
pub lookup-is_not : (t : ℕ) (old : TenantView) (memory : MemoryState) (m key : ℕ) (f : Fault) → refused_lookup memory t m key ≡ Some f → IsAnswered t old memory (HostLookup t m key) (Refused f)
lookup-is_not t old memory m key f refuses x tenant there stands holds =
    let first = element-refusal old memory x t tenant there stands holds m key (Some f) refuses in
    (OfTenant-there x t (Refused f) x _ tenant there (refused-some x f (lookup_refusal (owned_by x.sharing t tenant) m key) (LookupHappens x t tenant m key (Refused f) x) first), tt)

pub lookup-refused : (t : ℕ) (old : TenantView) (memory : MemoryState) (m key : ℕ) (f : Fault) → (refused_lookup memory t m key ≡ Some f) ⊎ ((f ≡ OutOfMemory) × (refused_lookup memory t m key ≡ None))
    → IsServed t old memory (HostLookup t m key) (Refused f) old memory
lookup-refused t old memory m key f (inl refuses) =
    served-same t old memory (HostLookup t m key) (Refused f) (lookup-is_not t old memory m key f refuses)
lookup-refused t old memory m key f (inr (lacks, allowed)) =
    served-same t old memory (HostLookup t m key) (Refused f) (λ x tenant there stands holds.
    let none = element-refusal old memory x t tenant there stands holds m key None allowed in
    (OfTenant-there x t (Refused f) x _ tenant there (refused-none x x (Refused f) (lookup_refusal (owned_by x.sharing t tenant) m key) (LookupHappens x t tenant m key (Refused f) x) none (inl (ap Refused lacks, refl))), tt))

-- what a lookup answers that copies the value
pub lookup-copied : (t : ℕ) (old : TenantView) (memory : MemoryState) (m key : ℕ) (result : Result ℕ Fault) (bytes became : List ℕ) → OnOk result (refused_lookup memory t m key ≡ None)
    → IfOk result (λ size. IsValueIn (part memory t) m key size bytes became) → IfErr result (λ f. refused_lookup memory t m key ≡ Some f) → OnErr result (became ≡ bytes)
    → (reply : Reply) × IsCopied reply result bytes became × IsAnswered t old memory (HostLookup t m key) reply
lookup-copied t old memory m key (Ok size) bytes became allowed value refused kept =
    let (read, is_value, sized, is) = value in
    (Value read, (sized, is), lookup-is t old memory m key read allowed is_value)
lookup-copied t old memory m key (Err f) bytes became allowed value refused kept = (Refused f, (refl, kept), lookup-is_not t old memory m key f refused)
