-- Where there are enough frames, no call is refused for lack of them.
use Rattle.std.proofs.Common.{◌≡◌, ◌∙◌, inl, inr, ℕ, zero, suc, ◌*◌, ◌<◌, ◌≤◌, ◌%◌, ◌==◌, nat_lt, Bool, true, false, if◌then◌else◌, List, [], ◌∷◌, ◌++◌, replicate, Option, Some, None, is_some, IfSome, MatchOption, refl, sym, ap, subst, arith, mul-pos}
use Rattle.std.specs.List.{slice_get}
use Rattle.std.proofs.lemmas.List.Sums.{sum_by-cons}
use Rattle.std.proofs.lemmas.Bool.Decides.{nat_tests}
use Rattle.host_types.specs.declared.event.Event.{Event}
use Rattle.host_types.specs.declared.event.Event.TheVariants.{CreateMap, Load, Begin, Step, Visit, HostUpdate, HostLookup, Set, Unmerge, Counters, Unload, DropMap}
use Rattle.host_types.specs.declared.fault.Fault.{Fault}
use Rattle.host_types.specs.declared.fault.Fault.TheVariants as fault
use Rattle.host_types.specs.declared.options.Opt.{Opt}
use Rattle.host_types.specs.declared.shape.Shape.{Shape}
use Rattle.host_types.specs.Helpers.{update_charge}
use Rattle.host_types.specs.Memory.{FlatMap, FlatMaps, map_at}
use Rattle.host_types.specs.Shapes.{stride_of}
use Rattle.host_types.specs.Sharing.{Sharing}
use Rattle.host_types.specs.Tenant.{IsFlatMap}
use Rattle.host_types.specs.Unmerging.{RefusesSet}
use Rattle.verifier.specs.Subject.{Subject}
use Rattle.interp.specs.Machine.{Outcome, Next, Exits}
use Rattle.page_table.specs.Limits.{page_count, shape_of}
use Rattle.host_calls.specs.Calls.{new_map_refusal, update_refusal, update_refusal_in, lookup_refusal, lookup_refusal_in}
use Rattle.host_core.specs.declared.reply.Reply.{Reply}
use Rattle.host_core.specs.declared.reply.Reply.TheVariants.{Map, Program, Begun, Stepped, Ended, Visited as WasVisited, Done, Value, Refused}
use Rattle.host_core.specs.World.{OpenRun, Tenant, System, accepted_of, owned_by, have_in}
use Rattle.host_core.specs.Happens.{Answers, RefusedOr, OfTenant, Happens, AllHappen, StepsHappen, StepLeads, StepHappens, CreateHappens, LoadHappens, BeginHappens, UpdateHappens, LookupHappens, UnloadHappens, DropHappens, unless_busy, create_refusal, load_refusal, begin_refusal, host_update_refusal, unload_refusal, drop_refusal}
use Rattle.host_calls.specs.Programs.{subject_of}
use Rattle.enough_frames.specs.Frames.{map_pages, pages_in, pages_made, AreEnough, lacks_frames}
use Rattle.enough_frames.proofs.Cases.{of_tenant as any_tenant, refused_or as any_refusal}
use Rattle.enough_frames.proofs.Systems.{Kept, Balances, need-few, have-idle, have-unmerging}

-- the reply is no refusal for lack of frames
abbrev pub Has : Reply → Type 0
Has reply = lacks_frames reply ≡ false

pub answered : (answer reply : Reply) → Has answer → reply ≡ answer → Has reply
answered answer reply h e = ap lacks_frames e ∙ h

-- a refusal whose condition may hold, and what is refused else
or_else : (b : Bool) (g : Fault) (rest : Option Fault) → (b ≡ true → Has (Refused g)) → ((f : Fault) → rest ≡ Some f → Has (Refused f))
    → (f : Fault) → (if b then Some g else rest) ≡ Some f → Has (Refused f)
or_else true g rest here later f e = let same : g ≡ f = cc in subst (λ (h : Fault). Has (Refused h)) same (here refl)
or_else false g rest here later f e = later f e

nothing_more : (f : Fault) → None ≡ Some f → Has (Refused f)
nothing_more f e = absurd (cc)

-- where nothing is refused, the first condition doesn't hold
none_first : (b : Bool) (g : Fault) (rest : Option Fault) → (if b then Some g else rest) ≡ None → b ≡ false
none_first true g rest e = absurd (cc)
none_first false g rest e = refl

no_run : (run : Option OpenRun) → is_some run ≡ false → run ≡ None
no_run None e = refl
no_run (Some r) e = absurd (cc)

-- ---- what happens to a tenant

of_tenant : (x : System) (t : ℕ) (reply : Reply) (x' : System) (Happening : Tenant → Type 0)
    → ((tenant : Tenant) → slice_get x.world t ≡ Some tenant → Happening tenant → Has reply) → OfTenant x t reply x' Happening → Has reply
of_tenant x t reply x' Happening happens h = any_tenant (Has reply) x t reply x' Happening (λ k. answered (Refused fault.BadTenant) reply refl k.0) happens h

refused_or : (refusal : Option Fault) (x : System) (reply : Reply) (x' : System) (Happening : Type 0) → ((f : Fault) → refusal ≡ Some f → Has (Refused f))
    → (refusal ≡ None → Happening → Has reply) → RefusedOr refusal x reply x' Happening → Has reply
refused_or refusal x reply x' Happening refused happens h =
    any_refusal (Has reply) refusal x reply x' Happening (λ f e k. answered (Refused f) reply (refused f e) k.0) happens h

unless_run : (tenant : Tenant) (refusal : Option Fault) → (tenant.run ≡ None → (f : Fault) → refusal ≡ Some f → Has (Refused f))
    → (f : Fault) → unless_busy tenant refusal ≡ Some f → Has (Refused f)
unless_run tenant refusal idle f e = by_run tenant.run refl
  where
    by_run : (run : Option OpenRun) → tenant.run ≡ run → Has (Refused f)
    by_run None none = idle none f (sym (ap (λ (r : Option OpenRun). if is_some r then Some fault.Busy else refusal) none) ∙ e)
    by_run (Some r) some =
        let busy : Some fault.Busy ≡ Some f = sym (ap (λ (o : Option OpenRun). if is_some o then Some fault.Busy else refusal) some) ∙ e in
        or_else true fault.Busy None (λ _. refl) nothing_more f busy

creates : (x : System) (t : ℕ) (shape : Shape) (mergeable : Bool) (reply : Reply) (x' : System) → Balances x → AreEnough x (page_count shape)
    → (tenant : Tenant) → slice_get x.world t ≡ Some tenant
    → RefusedOr (create_refusal x t tenant shape) x reply x' (CreateHappens x t tenant shape mergeable reply x') → Has reply
creates x t shape mergeable reply x' is enough tenant there h =
    refused_or (create_refusal x t tenant shape) x reply x' (CreateHappens x t tenant shape mergeable reply x')
    (unless_run tenant (new_map_refusal (owned_by x.sharing t tenant) shape (have_in x)) (λ idle.
    or_else _ fault.TooManyMaps _ (λ _. refl) (or_else _ fault.BadShape _ (λ _. refl)
    (or_else _ (fault.NoFrames (page_count shape) (have_in x)) _ (λ short. absurd (missing idle short)) nothing_more))))
    (λ _ made. answered (Map made.0) reply refl made.2.0) h
  where
    missing : tenant.run ≡ None → nat_lt (have_in x) (page_count shape) ≡ true → ⊥
    missing idle short =
        let have = have-idle x (page_count shape) t tenant is.kept there idle enough in
        let less : have_in x < page_count shape = grind (arith, nat_tests, short) in
        omega (arith, have, less)

loads : (x : System) (t : ℕ) (tenant : Tenant) (p : Subject) (reply : Reply) (x' : System) → LoadHappens x t tenant p reply x' → Has reply
loads x t tenant p reply x' (LoadHappens.malformed refusal is h) = answered (Refused (fault.Program refusal)) reply refl h.0
loads x t tenant p reply x' (LoadHappens.unlawful well refusal is h) = answered (Refused (fault.Program refusal)) reply refl h.0
loads x t tenant p reply x' (LoadHappens.out_of_memory well h) = answered (Refused fault.OutOfMemory) reply refl h.0
loads x t tenant p reply x' (LoadHappens.loaded well table tight k free h) = answered (Program k) reply refl h.0

begins : (x : System) (t : ℕ) (tenant : Tenant) (k : ℕ) (context : List ℕ) (reply : Reply) (x' : System) → Kept x → AreEnough x 0
    → slice_get x.world t ≡ Some tenant → tenant.run ≡ None → BeginHappens x t tenant k context reply x' → Has reply
begins x t tenant k context reply x' is enough there idle (p, at, inl h) =
    let have = have-idle x 0 t tenant is there idle enough in
    let need = need-few (accepted_of p) (owned_by x.sharing t tenant) 0 in
    let less = h.0 in
    absurd (omega (arith, have, need, less))
begins x t tenant k context reply x' is enough there idle (p, at, inr (has, inl h)) = answered (Refused fault.OutOfMemory) reply refl h.0
begins x t tenant k context reply x' is enough there idle (p, at, inr (has, inr h)) = answered Begun reply refl h.0

pub begun : (x : System) (t k : ℕ) (context : List ℕ) (reply : Reply) (x' : System) → Kept x → AreEnough x 0 → Happens x (Begin t k context) reply x' → Has reply
begun x t k context reply x' is enough h = of_tenant x t reply x' _ (λ tenant there begun.
    refused_or (begin_refusal tenant k context) x reply x' (BeginHappens x t tenant k context reply x')
    (or_else _ fault.Busy _ (λ _. refl) (or_else _ fault.NoProgram _ (λ _. refl) (or_else _ fault.BadContext _ (λ _. refl) nothing_more)))
    (λ none. begins x t tenant k context reply x' is enough there (no_run tenant.run (none_first _ fault.Busy _ none))) begun) h

leads : (x : System) (t : ℕ) (tenant : Tenant) (r : OpenRun) (sharing : Sharing) (outcome : Outcome) (reply : Reply) (x' : System)
    → StepLeads x t tenant r sharing outcome reply x' → Has reply
leads x t tenant r sharing (Next s) reply x' h = answered Stepped reply refl h.0
leads x t tenant r sharing (Exits number maps) reply x' h = answered (Ended number (suc r.steps)) reply refl h.0

pub steps : (x : System) (t : ℕ) (reply : Reply) (x' : System) → Happens x (Step t) reply x' → Has reply
steps x t reply x' h =
    of_tenant x t reply x' (λ (tenant : Tenant). MatchOption tenant.run (Answers x (Refused fault.NoRun) reply x') (λ r. StepHappens x t tenant r reply x'))
    (λ tenant there k. by_run tenant tenant.run k) h
  where
    by_run : (tenant : Tenant) (run : Option OpenRun) → MatchOption run (Answers x (Refused fault.NoRun) reply x') (λ r. StepHappens x t tenant r reply x') → Has reply
    by_run tenant None k = answered (Refused fault.NoRun) reply refl k.0
    by_run tenant (Some r) k = leads x t tenant r _ k.0 reply x' k.2

-- a map that is there has a page
some_pages : (maps : FlatMaps) (m : ℕ) (flat : FlatMap) → map_at maps m ≡ Some flat → map_pages (Some flat) ≤ pages_in maps
some_pages [] m flat e = absurd (cc)
some_pages (slot ∷ maps) zero flat e =
    let split = sum_by-cons map_pages slot maps in
    let same = ap map_pages e in
    omega (arith, split, same)
some_pages (slot ∷ maps) (suc m) flat e =
    let split = sum_by-cons map_pages slot maps in
    let rest = some_pages maps m flat e in
    omega (arith, split, rest)

one_page : (flat : FlatMap) → IsFlatMap flat → 1 ≤ map_pages (Some flat)
one_page flat h =
    let sized = h.shape.sized in
    let counted = h.shape.counted in
    let stride : 0 < stride_of flat.shape = omega (arith, sized) in
    let some : 0 < stride_of flat.shape * flat.shape.entries = grind (arith, mul-pos, stride, counted) in
    omega (arith, some)

charge-two : (shape : Shape) → update_charge shape ≤ 2
charge-two shape = by_test (4096 % stride_of shape == 0)
  where
    by_test : (b : Bool) → (if b then 1 else 2) ≤ 2
    by_test true = omega arith
    by_test false = omega arith

updates : (x : System) (t m key : ℕ) (value : List ℕ) (reply : Reply) (x' : System) → Balances x → AreEnough x 0
    → (tenant : Tenant) → slice_get x.world t ≡ Some tenant
    → RefusedOr (host_update_refusal x t tenant m key value) x reply x' (UpdateHappens x t tenant m key value reply x') → Has reply
updates x t m key value reply x' is enough tenant there h =
    refused_or (host_update_refusal x t tenant m key value) x reply x' (UpdateHappens x t tenant m key value reply x')
    (unless_run tenant (update_refusal (owned_by x.sharing t tenant) m key value (have_in x)) (λ idle f e. by_map idle f (map_at tenant.maps m) refl e))
    (λ _ made. answered Done reply refl made.2.0) h
  where
    missing : tenant.run ≡ None → (flat : FlatMap) → map_at tenant.maps m ≡ Some flat → nat_lt (have_in x) (update_charge flat.shape) ≡ true → ⊥
    missing idle flat at short =
        let have = have-idle x 0 t tenant is.kept there idle enough in
        let less : have_in x < update_charge flat.shape = grind (arith, nat_tests, short) in
        let two = charge-two flat.shape in
        let flat_there : IsFlatMap flat = subst (λ slot. IfSome slot IsFlatMap) at (is.flat t tenant there m) in
        let one = one_page flat flat_there in
        let some = some_pages tenant.maps m flat at in
        omega (arith, have, less, two, one, some)

    by_map : tenant.run ≡ None → (f : Fault) → (slot : Option FlatMap) → map_at tenant.maps m ≡ slot
        → update_refusal_in slot key value (have_in x) ≡ Some f → Has (Refused f)
    by_map idle f None at e = or_else true fault.NoMap None (λ _. refl) nothing_more f e
    by_map idle f (Some flat) at e =
        or_else _ fault.NoElement _ (λ _. refl) (or_else _ fault.BadShape _ (λ _. refl)
        (or_else _ (fault.NoFrames (update_charge flat.shape) (have_in x)) _ (λ short. absurd (missing idle flat at short)) nothing_more)) f e

reads : (x : System) (t m key : ℕ) (reply : Reply) (x' : System) (tenant : Tenant)
    → RefusedOr (lookup_refusal (owned_by x.sharing t tenant) m key) x reply x' (LookupHappens x t tenant m key reply x') → Has reply
reads x t m key reply x' tenant h =
    refused_or (lookup_refusal (owned_by x.sharing t tenant) m key) x reply x' (LookupHappens x t tenant m key reply x')
    (λ f e. by_map f (map_at tenant.maps m) e) (λ _ found. read found) h
  where
    by_map : (f : Fault) (slot : Option FlatMap) → lookup_refusal_in slot key ≡ Some f → Has (Refused f)
    by_map f None e = or_else true fault.NoMap None (λ _. refl) nothing_more f e
    by_map f (Some flat) e = or_else _ fault.NoElement _ (λ _. refl) nothing_more f e

    read : LookupHappens x t tenant m key reply x' → Has reply
    read (inl h) = answered (Refused fault.OutOfMemory) reply refl h.0
    read (inr h) = answered (Value h.0) reply refl h.2.0

sets : (sharing : Sharing) (option : Opt) (value : ℕ) (f : Fault) → RefusesSet sharing option value f → Has (Refused f)
sets sharing option value (fault.NoFrames need have) h = absurd h
sets sharing option value f h = refl

-- ---- any event

pub happens : (x : System) (event : Event) (reply : Reply) (x' : System) → Balances x → AreEnough x (pages_made event) → Happens x event reply x' → Has reply
happens x (CreateMap t value_size entries mergeable) reply x' is enough h =
    of_tenant x t reply x' _ (creates x t (shape_of value_size entries) mergeable reply x' is enough) h
happens x (Load t text size) reply x' is enough h = of_tenant x t reply x' _ (λ tenant there k.
    refused_or (load_refusal tenant size) x reply x' (LoadHappens x t tenant (subject_of (owned_by x.sharing t tenant) text size) reply x')
    (or_else _ fault.Busy _ (λ _. refl) (or_else _ fault.TooManyPrograms _ (λ _. refl) (or_else _ fault.BadContext _ (λ _. refl) nothing_more)))
    (λ _ loaded. loads x t tenant (subject_of (owned_by x.sharing t tenant) text size) reply x' loaded) k) h
happens x (Begin t k context) reply x' is enough h = begun x t k context reply x' is.kept enough h
happens x (Step t) reply x' is enough h = steps x t reply x' h
happens x Visit reply x' is enough h = answered (WasVisited h.0) reply refl h.1.2.0
happens x (HostUpdate t m key value) reply x' is enough h = of_tenant x t reply x' _ (updates x t m key value reply x' is enough) h
happens x (HostLookup t m key) reply x' is enough h = of_tenant x t reply x' _ (λ tenant there k. reads x t m key reply x' tenant k) h
happens x (Unload t k) reply x' is enough h = of_tenant x t reply x' _ (λ tenant there gone.
    refused_or (unload_refusal tenant k) x reply x' (UnloadHappens x t tenant k reply x')
    (or_else _ fault.Busy _ (λ _. refl) (or_else _ fault.NoProgram _ (λ _. refl) nothing_more)) (λ _ left. answered Done reply refl left.0) gone) h
happens x (DropMap t m) reply x' is enough h = of_tenant x t reply x' _ (λ tenant there gone.
    refused_or (drop_refusal tenant m) x reply x' (DropHappens x t tenant m reply x')
    (or_else _ fault.Busy _ (λ _. refl) (or_else _ fault.NoMap _ (λ _. refl) (or_else _ fault.InUse _ (λ _. refl) nothing_more)))
    (λ _ left. answered Done reply refl left.0) gone) h
happens x (Set option value) reply x' is enough (inl (f, refuses, h)) = answered (Refused f) reply (sets x.sharing option value f refuses) h.0
happens x (Set option value) reply x' is enough (inr h) = answered Done reply refl h.2.0
happens x Unmerge reply x' is enough (inl h) =
    let have = have-unmerging x is.kept enough in
    let less = h.0 in
    absurd (omega (arith, have, less))
happens x Unmerge reply x' is enough (inr h) = answered Done reply refl h.1.0
happens x Counters reply x' is enough h = ap lacks_frames h.0

-- the last of some steps
last_step : (n t : ℕ) (x : System) (last : Reply) (x' : System) → AllHappen x (replicate n (Step t) ++ Step t ∷ []) (replicate n Stepped ++ last ∷ []) x' → Has last
last_step zero t x last x' h = steps x t last h.0 h.1
last_step (suc n) t x last x' h = last_step n t h.0 last x' h.4

pub made_steps : (x : System) (t limit : ℕ) (last : Reply) (x' : System) → StepsHappen x t limit (Some last) x' → Has last
made_steps x t limit last x' (events, replies, (n, below, other, all, given), h) =
    last_step n t x last x' (subst (λ (rs : List Reply). AllHappen x (replicate n (Step t) ++ Step t ∷ []) rs x') given
    (subst (λ (es : List Event). AllHappen x es replies x') all h))
