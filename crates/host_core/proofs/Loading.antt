-- What the load of a program does to a tenant and to each system that it stands in.
use Rattle.std.proofs.Common.{◌≡◌, ℕ, zero, suc, ◌-◌, ◌%◌, nat_le, ◌==◌, ◌&&◌, Bool, true, false, List, [], ◌∷◌, ◌++◌, length, map, replicate, set, slice_index_or, inl, inr, Option, Some, None, is_some, is_none, IfSome, IsSomeAnd, sym, ap, refl, ◌∙◌, subst, eq-eqb, arith}
use Rattle.std.specs.List.{position}
use Rattle.std.specs.Option.{option_map}
use Rattle.std.proofs.lemmas.Bool.{le-leb}
use Rattle.std.proofs.lemmas.Bool.Decides.{nat_tests}
use Rattle.std.proofs.lemmas.List.{length-set}
use Rattle.std.proofs.lemmas.List.Elements.{All-set}
use Rattle.host_types.specs.declared.fault.Fault.{Fault}
use Rattle.host_types.specs.declared.fault.Fault.TheVariants.{Busy, TooManyPrograms, BadContext}
use Rattle.host_types.specs.declared.shape.Shape.{Shape}
use Rattle.host_types.specs.Memory.{FlatMap, map_at}
use Rattle.host_types.specs.Sharing.{Sharing}
use Rattle.host_types.specs.Tenant.{TenantPart}
use Rattle.bpf_decode.specs.Text.{IsWellFormed}
use Rattle.page_table.specs.Reads.{ReadsAs}
use Rattle.page_table.specs.State.{MemoryState, part}
use Rattle.verifier.specs.Named.{named_shapes}
use Rattle.verifier.specs.Subject.{Subject, IsContextSize, padded}
use Rattle.verifier.specs.Table.{IsTightTable, IsRefusal}
use Rattle.verifier.specs.Verified.{Accepted, IsVerified}
use Rattle.verifier.proofs.NamedMaps.{asked_shape}
use Rattle.interp.specs.Fits.{HaveShapes}
use Rattle.host_calls.specs.Programs.{IsVerdict, shapes_of, subject_of}
use Rattle.host_calls.proofs.ShapesRead.{shape_of_map}
use Rattle.host_types.specs.declared.event.Event.TheVariants.{Load}
use Rattle.host_core.specs.declared.reply.Reply.TheVariants.{Program, Refused}
use Rattle.host_core.specs.declared.tenant.OpenRun.{OpenRun as KeptRun}
use Rattle.host_core.specs.World.{OpenRun, Tenant, System, free_program, owned_by}
use Rattle.host_core.specs.Happens.{LoadHappens, load_refusal, is_context_size, changed_system}
use Rattle.host_core.specs.HostView.{TenantView, StandsForAnyRun, StandsForTenant, IsServed}
use Rattle.host_core.proofs.Indices.{first_free-map, map-set}
use Rattle.host_core.proofs.Worlds.{OfTenant-there, RefusedOr-refused, RefusedOr-else}
use Rattle.host_core.proofs.Systems.{part_stands, changed_stands}
use Rattle.host_core.proofs.Serving.{is_some-run, served-same}

-- after a list nothing is there
padded-at : (shapes : List (Option Shape)) (m : ℕ) → slice_index_or (padded shapes) m None ≡ slice_index_or shapes m None
padded-at shapes m = following shapes (8 - length shapes) m
  where
    nowhere : (n m : ℕ) → slice_index_or (replicate {A = Option Shape} n None) m None ≡ None
    nowhere zero m = refl
    nowhere (suc n) zero = refl
    nowhere (suc n) (suc m) = nowhere n m

    following : (shapes : List (Option Shape)) (n m : ℕ) → slice_index_or (shapes ++ replicate n None) m None ≡ slice_index_or shapes m None
    following [] n m = nowhere n m
    following (shape ∷ shapes) n zero = refl
    following (shape ∷ shapes) n (suc m) = following shapes n m

-- a map of a shape
shaped : (found : Option FlatMap) (shape : Shape) → option_map (λ (flat : FlatMap). flat.shape) found ≡ Some shape → IsSomeAnd found (λ (flat : FlatMap). flat.shape ≡ shape)
shaped None shape e = absurd (cc)
shaped (Some flat) shape e = cc

-- a tenant has the maps that a program names which is verified with their shapes
have_named : (owned : TenantPart) (text : List ℕ) (size : ℕ) → HaveShapes (named_shapes (subject_of owned text size)) owned.maps
have_named owned text size m = by (slice_index_or (named_shapes (subject_of owned text size)) m None) refl
  where
    by : (found : Option Shape) → slice_index_or (named_shapes (subject_of owned text size)) m None ≡ found → IfSome found (λ shape. IsSomeAnd (map_at owned.maps m) (λ (flat : FlatMap). flat.shape ≡ shape))
    by None e = tt
    by (Some shape) e =
        let there : slice_index_or (padded (shapes_of owned.maps)) m None ≡ Some shape = asked_shape (subject_of owned text size) m shape e in
        let shaped_so : option_map (λ (flat : FlatMap). flat.shape) (map_at owned.maps m) ≡ Some shape = sym (shape_of_map owned.maps m) ∙ sym (padded-at (shapes_of owned.maps) m) ∙ there in
        shaped (map_at owned.maps m) shape shaped_so

-- the first of the indices where a host keeps no program
abbrev pub first_free_of : TenantView → Option ℕ
first_free_of kept = position (λ (index : Option Accepted). is_none index) kept.programs

-- what a lent list of the indices says of them
pub lent-free : (kept : TenantView) (lent : List (Option Accepted)) (first : Option ℕ) → lent ≡ kept.programs → first ≡ position (λ (index : Option Accepted). is_none index) lent → first_free_of kept ≡ first
lent-free kept lent first same says = ap (λ programs. position (λ (index : Option Accepted). is_none index) programs) (sym same) ∙ sym says

-- the same index is the first that is free
free_program-kept : (kept : TenantView) (tenant : Tenant) → StandsForTenant kept tenant → free_program tenant ≡ first_free_of kept
free_program-kept kept tenant stands =
    ap (λ programs. position (λ (index : Option Subject). is_none index) programs) stands.programs ∙ first_free-map (λ (v : Accepted). v.subject) kept.programs

-- a size that a context may have passes the test
pub size-fits : (size : ℕ) → IsContextSize size → is_context_size size ≡ true
size-fits size fits =
    let most : nat_le size 256 ≡ true = le-leb size 256 fits.most in
    let words : (size % 8 == 0) ≡ true = eq-eqb (size % 8) 0 fits.words in
    rw (most, words) refl

-- and another doesn't
pub size-odd : (size : ℕ) → (IsContextSize size → ⊥) → is_context_size size ≡ false
size-odd size odd = chosen (nat_le size 256) (size % 8 == 0) refl refl
  where
    chosen : (a b : Bool) → nat_le size 256 ≡ a → (size % 8 == 0) ≡ b → (a && b) ≡ false
    chosen true true most words = absurd (odd (record { most = grind (arith, nat_tests, most); words = grind (arith, nat_tests, words) }))
    chosen true false most words = refl
    chosen false b most words = refl

-- a load while a run is open
load_refusal-busy : (tenant : Tenant) (size : ℕ) → is_some tenant.run ≡ true → load_refusal tenant size ≡ Some Busy
load_refusal-busy tenant size busy = rw busy refl

-- a load of a ninth program
load_refusal-full : (tenant : Tenant) (size : ℕ) → is_some tenant.run ≡ false → free_program tenant ≡ None → load_refusal tenant size ≡ Some TooManyPrograms
load_refusal-full tenant size idle full = rw (idle, full) refl

-- a load for contexts of no such size
load_refusal-size : (tenant : Tenant) (size k : ℕ) → is_some tenant.run ≡ false → free_program tenant ≡ Some k → is_context_size size ≡ false → load_refusal tenant size ≡ Some BadContext
load_refusal-size tenant size k idle room odd = rw (idle, room, odd) refl

-- a load that nothing forbids
load_refusal-none : (tenant : Tenant) (size k : ℕ) → is_some tenant.run ≡ false → free_program tenant ≡ Some k → is_context_size size ≡ true → load_refusal tenant size ≡ None
load_refusal-none tenant size k idle room fits = rw (idle, room, fits) refl

-- no open run, whatever the programs are
pub run-closed : (programs more : List (Option Accepted)) (kept : Option KeptRun) (r : Option OpenRun) → is_some kept ≡ false → StandsForAnyRun programs kept r → StandsForAnyRun more kept r
run-closed programs more None None idle stands = tt
run-closed programs more None (Some r) idle stands = absurd stands
run-closed programs more (Some kept) r idle stands = absurd (cc)

module _ (t : ℕ) (old : TenantView) (memory : MemoryState) (text : List ℕ) (size : ℕ) where
  -- a load that is refused at once
  load-refused : (f : Fault) → ((tenant : Tenant) → StandsForTenant old tenant → load_refusal tenant size ≡ Some f) → IsServed t old memory (Load t text size) (Refused f) old memory
  load-refused f seen =
      served-same t old memory (Load t text size) (Refused f) (λ x tenant there stands holds.
      (OfTenant-there x t (Refused f) x _ tenant there (RefusedOr-refused (load_refusal tenant size) x (Refused f) x _ f (seen tenant stands) (refl, refl)), tt))

  -- a load while a run is open
  pub load-busy : is_some old.run ≡ true → IsServed t old memory (Load t text size) (Refused Busy) old memory
  load-busy busy = load-refused Busy (λ tenant stands. load_refusal-busy tenant size (is_some-run old.programs old.run tenant.run stands.run ∙ busy))

  module _ (idle : is_some old.run ≡ false) where
    none-open : (tenant : Tenant) → StandsForTenant old tenant → is_some tenant.run ≡ false
    none-open tenant stands = is_some-run old.programs old.run tenant.run stands.run ∙ idle

    -- a load of a ninth program
    pub load-full : first_free_of old ≡ None → IsServed t old memory (Load t text size) (Refused TooManyPrograms) old memory
    load-full full =
        load-refused TooManyPrograms (λ tenant stands.
        load_refusal-full tenant size (none-open tenant stands) (free_program-kept old tenant stands ∙ full))

    module _ (k : ℕ) (room : first_free_of old ≡ Some k) where
      room-left : (tenant : Tenant) → StandsForTenant old tenant → free_program tenant ≡ Some k
      room-left tenant stands = free_program-kept old tenant stands ∙ room

      -- a load for contexts of no such size
      pub load-size : (IsContextSize size → ⊥) → IsServed t old memory (Load t text size) (Refused BadContext) old memory
      load-size odd = load-refused BadContext (λ tenant stands. load_refusal-size tenant size k (none-open tenant stands) (room-left tenant stands) (size-odd size odd))

      module _ (fits : IsContextSize size) where
        -- a load that nothing forbids
        allowed : (tenant : Tenant) → StandsForTenant old tenant → load_refusal tenant size ≡ None
        allowed tenant stands = load_refusal-none tenant size k (none-open tenant stands) (room-left tenant stands) (size-fits size fits)

        -- a load that changes nothing, and that nothing forbids
        load-tried : (f : Fault) → ((x : System) (tenant : Tenant) → part memory t ≡ owned_by x.sharing t tenant
            → LoadHappens x t tenant (subject_of (owned_by x.sharing t tenant) text size) (Refused f) x)
            → IsServed t old memory (Load t text size) (Refused f) old memory
        load-tried f happens =
            served-same t old memory (Load t text size) (Refused f) (λ x tenant there stands holds.
            let owned = part_stands memory x t tenant holds there in
            (OfTenant-there x t (Refused f) x _ tenant there (RefusedOr-else (load_refusal tenant size) x (Refused f) x _ (allowed tenant stands) (happens x tenant owned)), tt))

        -- a text that isn't accepted
        pub load-verdict : (f : Fault) → IsVerdict (subject_of (part memory t) text size) f → IsServed t old memory (Load t text size) (Refused f) old memory
        load-verdict f (inl (lacks, well)) = load-tried f (λ x tenant owned. LoadHappens.out_of_memory well (ap Refused lacks, refl))
        load-verdict f (inr (refusal, is, inl malformed)) = load-tried f (λ x tenant owned. LoadHappens.malformed refusal malformed (ap Refused is, refl))
        load-verdict f (inr (refusal, is, inr (well, unlawful))) =
            load-tried f (λ x tenant owned. LoadHappens.unlawful well refusal (subst (λ o. IsRefusal (subject_of o text size) refusal) owned unlawful) (ap Refused is, refl))

        -- a tenant with one more program
        loaded_stands : (v : Accepted) (seen : Sharing) (tenant : Tenant) → part memory t ≡ owned_by seen t tenant → v.subject ≡ subject_of (part memory t) text size → IsVerified v → StandsForTenant old tenant
            → StandsForTenant (record old { programs = set old.programs k (Some v) }) (record tenant { programs = set tenant.programs k (Some (subject_of (owned_by seen t tenant) text size)) })
        loaded_stands v seen tenant owned is verified stands =
            let p : Subject = subject_of (owned_by seen t tenant) text size in
            let same : p ≡ v.subject = sym (is ∙ ap (λ o. subject_of o text size) owned) in
            let Fitting : Accepted → Type 0 = λ a. HaveShapes (named_shapes a.subject) tenant.maps in
            let have : Fitting v = subst (λ (q : Subject). HaveShapes (named_shapes q) tenant.maps) same (have_named (owned_by seen t tenant) text size) in
            let subjects : List (Option Accepted) → List (Option Subject) = map (option_map (λ (a : Accepted). a.subject)) in
            let listed : set (subjects old.programs) k (Some p) ≡ subjects (set old.programs k (Some v)) =
            ap (λ q. set (subjects old.programs) k (Some q)) same ∙ sym (map-set (option_map (λ (a : Accepted). a.subject)) old.programs k (Some v)) in
            record {
              programs = ap (λ programs. set programs k (Some p)) stands.programs ∙ listed;
              verified = All-set (λ index. IfSome index IsVerified) old.programs k (Some v) verified stands.verified;
              shapes = All-set (λ index. IfSome index Fitting) old.programs k (Some v) have stands.shapes;
              run = run-closed old.programs (set old.programs k (Some v)) old.run tenant.run idle stands.run;
              fulfils = record { maps = stands.fulfils.maps; eight = length-set tenant.programs k (Some p) ∙ stands.fulfils.eight; run = stands.fulfils.run; same = stands.fulfils.same };
            }

        -- a text that is accepted
        pub load-accepted : (v : Accepted) → v.subject ≡ subject_of (part memory t) text size → IsWellFormed text → IsVerified v → ReadsAs memory
            → IsServed t old memory (Load t text size) (Program k) (record old { programs = set old.programs k (Some v) }) memory
        load-accepted v is well verified reads x tenant there stands holds =
            let owned : part memory t ≡ owned_by x.sharing t tenant = part_stands memory x t tenant holds there in
            let p : Subject = subject_of (owned_by x.sharing t tenant) text size in
            let same : p ≡ v.subject = sym (is ∙ ap (λ o. subject_of o text size) owned) in
            let next : Tenant = record tenant { programs = set tenant.programs k (Some p) } in
            let reply = Program k in
            let x' : System = changed_system x t next x.sharing in
            let tight : IsTightTable p v.table = subst (λ q. IsTightTable q v.table) (sym same) verified.tight in
            let happens : LoadHappens x t tenant p reply x' = LoadHappens.loaded well v.table tight k (room-left tenant stands) (refl, refl) in (
              next,
              x.sharing,
              loaded_stands v x.sharing tenant owned is verified stands,
              changed_stands memory memory x t tenant next x.sharing x.sharing holds there refl refl reads stands.fulfils.maps.eight owned (λ j other. refl) holds.sharing,
              OfTenant-there x t reply x' _ tenant there (RefusedOr-else (load_refusal tenant size) x reply x' _ (allowed tenant stands) happens),
              tt,
            )
