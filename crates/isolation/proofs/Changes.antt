-- What an event leaves: nothing changed, or the reply isn't scarce and no tenant changed but the one that it names.
use Rattle.std.proofs.Common.{◌≡◌, ◌≢◌, ℕ, ◌⊎◌, inl, inr, eqb, Bool, true, false, List, Option, Some, None, MatchOption, sym, ap, refl, ◌∙◌, subst}
use Rattle.std.specs.List.{slice_get}
use Rattle.std.specs.Option.{option_map}
use Rattle.std.proofs.lemmas.Bool.Decides.{eqb_tells}
use Rattle.host_types.specs.declared.fault.Fault.{Fault}
use Rattle.host_types.specs.declared.fault.Fault.TheVariants as fault
use Rattle.host_types.specs.declared.shape.Shape.{Shape}
use Rattle.host_types.specs.Sharing.{Sharing}
use Rattle.page_table.specs.Limits.{shape_of}
use Rattle.verifier.specs.Subject.{Subject}
use Rattle.interp.specs.Machine.{Outcome, Next, Exits}
use Rattle.host_types.specs.declared.event.Event.{Event}
use Rattle.host_types.specs.declared.event.Event.TheVariants.{CreateMap, Load, Begin, Step, Visit, HostUpdate, HostLookup, Set, Unmerge, Counters, Unload, DropMap}
use Rattle.host_core.specs.declared.reply.Reply.{Reply}
use Rattle.host_core.specs.declared.reply.Reply.TheVariants.{Refused}
use Rattle.host_core.specs.World.{Tenant, System, OpenRun}
use Rattle.host_types.specs.Events.{tenant_of}
use Rattle.host_core.specs.Happens.{Happens, Answers, Leaves, Shares, RefusedOr, OfTenant, StepLeads, StepHappens, BeginHappens, CreateHappens, UpdateHappens, LookupHappens, LoadHappens, UnloadHappens, DropHappens, changed_system}
use Rattle.host_core.proofs.Worlds.{slice_get-set-other}
use Rattle.isolation.specs.Tenants.{AgreeOn, seen_by, seen_tenant, names_tenant, is_of, is_scarce}
use Rattle.isolation.specs.Laws.{ScarceChangesNothing}
use Rattle.isolation.proofs.Happenings.{CreateOf, LoadOf, BeginOf, StepOf, UpdateOf, LookupOf, UnloadOf, DropOf}

-- only the tenant with the number changed, if there is a number, and which pages share frames
abbrev ChangedBy : System → Option ℕ → System → Type 0
ChangedBy x None x' = (sharing : Sharing) × (x' ≡ record x { sharing = sharing })
ChangedBy x (Some t) x' = (tenant : Tenant) × ((sharing : Sharing) × (x' ≡ changed_system x t tenant sharing))

abbrev Left : System → Option ℕ → Reply → System → Type 0
Left x named reply x' = (x' ≡ x) ⊎ ((is_scarce reply ≡ false) × ChangedBy x named x')

left : (x x' : System) (t : ℕ) (reply : Reply) (tenant : Tenant) (sharing : Sharing) (answer : Reply) → Leaves x t tenant sharing answer reply x' → is_scarce answer ≡ false → Left x (Some t) reply x'
left x x' t reply tenant sharing answer h plenty = inr (ap is_scarce h.0 ∙ plenty, (tenant, (sharing, h.1)))

shared : (x x' : System) (reply : Reply) (sharing : Sharing) (answer : Reply) → Shares x sharing answer reply x' → is_scarce answer ≡ false → Left x None reply x'
shared x x' reply sharing answer h plenty = inr (ap is_scarce h.0 ∙ plenty, (sharing, h.1))

of_tenant : (x x' : System) (t : ℕ) (reply : Reply) (Happening : System → Tenant → Reply → System → Type 0) → ((tenant : Tenant) → Happening x tenant reply x' → Left x (Some t) reply x') → OfTenant x t reply x' (λ tenant. Happening x tenant reply x') → Left x (Some t) reply x'
of_tenant x x' t reply Happening happens = cases (slice_get x.world t)
  where
    cases : (found : Option Tenant) → MatchOption found (Answers x (Refused fault.BadTenant) reply x') (λ tenant. Happening x tenant reply x') → Left x (Some t) reply x'
    cases None h = inl h.1
    cases (Some tenant) h = happens tenant h

refused_or : (x x' : System) (refusal : Option Fault) (reply : Reply) (named : Option ℕ) (Happening : Type 0) → (Happening → Left x named reply x') → RefusedOr refusal x reply x' Happening → Left x named reply x'
refused_or x x' None reply named Happening happens h = happens h
refused_or x x' (Some f) reply named Happening happens h = inl h.1

create : (x x' : System) (t : ℕ) (shape : Shape) (mergeable : Bool) (reply : Reply) (tenant : Tenant) → CreateHappens x t tenant shape mergeable reply x' → Left x (Some t) reply x'
create x x' t shape mergeable reply tenant h = left x x' t reply _ _ _ h.2 refl

load : (x x' : System) (t : ℕ) (reply : Reply) (tenant : Tenant) (p : Subject) → LoadHappens x t tenant p reply x' → Left x (Some t) reply x'
load x x' t reply tenant p (LoadHappens.malformed refusal is h) = inl h.1
load x x' t reply tenant p (LoadHappens.unlawful well refusal is h) = inl h.1
load x x' t reply tenant p (LoadHappens.out_of_memory well h) = inl h.1
load x x' t reply tenant p (LoadHappens.loaded well table tight k free h) = left x x' t reply _ _ _ h refl

begin : (x x' : System) (t k : ℕ) (context : List ℕ) (reply : Reply) (tenant : Tenant) → BeginHappens x t tenant k context reply x' → Left x (Some t) reply x'
begin x x' t k context reply tenant (p, at, inl h) = inl h.1.1
begin x x' t k context reply tenant (p, at, inr (enough, inl h)) = inl h.1
begin x x' t k context reply tenant (p, at, inr (enough, inr h)) = left x x' t reply _ _ _ h refl

run_step : (x x' : System) (t : ℕ) (reply : Reply) (tenant : Tenant) (r : OpenRun) (sharing : Sharing) (outcome : Outcome) → StepLeads x t tenant r sharing outcome reply x' → Left x (Some t) reply x'
run_step x x' t reply tenant r sharing (Next s) h = left x x' t reply _ _ _ h refl
run_step x x' t reply tenant r sharing (Exits number maps) h = left x x' t reply _ _ _ h refl

one_step : (x x' : System) (t : ℕ) (reply : Reply) (tenant : Tenant) (run : Option OpenRun) → MatchOption run (Answers x (Refused fault.NoRun) reply x') (λ r. StepHappens x t tenant r reply x') → Left x (Some t) reply x'
one_step x x' t reply tenant None h = inl h.1
one_step x x' t reply tenant (Some r) h = run_step x x' t reply tenant r _ h.0 h.2

update : (x x' : System) (t m key : ℕ) (value : List ℕ) (reply : Reply) (tenant : Tenant) → UpdateHappens x t tenant m key value reply x' → Left x (Some t) reply x'
update x x' t m key value reply tenant h = left x x' t reply _ _ _ h.2 refl

lookup : (x x' : System) (t m key : ℕ) (reply : Reply) (tenant : Tenant) → LookupHappens x t tenant m key reply x' → Left x (Some t) reply x'
lookup x x' t m key reply tenant (inl h) = inl h.1
lookup x x' t m key reply tenant (inr h) = inl h.2.1

unload : (x x' : System) (t k : ℕ) (reply : Reply) (tenant : Tenant) → UnloadHappens x t tenant k reply x' → Left x (Some t) reply x'
unload x x' t k reply tenant h = left x x' t reply _ _ _ h refl

drop : (x x' : System) (t m : ℕ) (reply : Reply) (tenant : Tenant) → DropHappens x t tenant m reply x' → Left x (Some t) reply x'
drop x x' t m reply tenant h = left x x' t reply _ _ _ h refl

-- what each event leaves
changes : (x x' : System) (event : Event) (reply : Reply) → Happens x event reply x' → Left x (tenant_of event) reply x'
changes x x' (CreateMap t value_size entries mergeable) reply h =
    of_tenant x x' t reply (CreateOf t (shape_of value_size entries) mergeable) (λ tenant. refused_or x x' _ reply (Some t) _ (create x x' t (shape_of value_size entries) mergeable reply tenant)) h
changes x x' (Load t text size) reply h =
    of_tenant x x' t reply (LoadOf t text size) (λ tenant. refused_or x x' _ reply (Some t) _ (load x x' t reply tenant _)) h
changes x x' (Begin t k context) reply h =
    of_tenant x x' t reply (BeginOf t k context) (λ tenant. refused_or x x' _ reply (Some t) _ (begin x x' t k context reply tenant)) h
changes x x' (Step t) reply h = of_tenant x x' t reply (StepOf t) (λ tenant. one_step x x' t reply tenant tenant.run) h
changes x x' Visit reply h = shared x x' reply _ _ h.1.2 refl
changes x x' (HostUpdate t m key value) reply h = of_tenant x x' t reply (UpdateOf t m key value) (λ tenant. refused_or x x' _ reply (Some t) _ (update x x' t m key value reply tenant)) h
changes x x' (HostLookup t m key) reply h = of_tenant x x' t reply (LookupOf t m key) (λ tenant. refused_or x x' _ reply (Some t) _ (lookup x x' t m key reply tenant)) h
changes x x' (Unload t k) reply h =
    of_tenant x x' t reply (UnloadOf t k) (λ tenant. refused_or x x' _ reply (Some t) _ (unload x x' t k reply tenant)) h
changes x x' (DropMap t m) reply h =
    of_tenant x x' t reply (DropOf t m) (λ tenant. refused_or x x' _ reply (Some t) _ (drop x x' t m reply tenant)) h
changes x x' (Set option value) reply (inl h) = inl h.2.1
changes x x' (Set option value) reply (inr h) = shared x x' reply _ _ h.2 refl
changes x x' Unmerge reply (inl h) = inl h.1.1
changes x x' Unmerge reply (inr h) = shared x x' reply _ _ h.1 refl
changes x x' Counters reply h = inl h.1

-- an event to which the reply is scarce changes nothing
pub scarce_changes_nothing : ScarceChangesNothing
scarce_changes_nothing x x' event reply h scarce = cases (changes x x' event reply h)
  where
    cases : Left x (tenant_of event) reply x' → x' ≡ x
    cases (inl same) = same
    cases (inr changed) = absurd (cc (changed.0, scarce))

-- another tenant sees nothing of a change
unseen : (t : ℕ) (x x' : System) (named : Option ℕ) → names_tenant t named ≡ false → ChangedBy x named x' → AgreeOn t x' x
unseen t x x' None other h = ap (seen_by t) h.1
unseen t x x' (Some u) other h = apart (eqb_tells u t)
  where
    apart : ((eqb u t ≡ true) × (u ≡ t)) ⊎ ((eqb u t ≡ false) × (u ≢ t)) → AgreeOn t x' x
    apart (inl same) = absurd (cc (same.0, other))
    apart (inr differs) = ap (seen_by t) h.1.1 ∙ ap (option_map seen_tenant) (slice_get-set-other x.world u t h.0 (λ e. differs.1 (sym e)))

-- a tenant sees nothing of an event that doesn't name it
pub unnoticed : (t : ℕ) (x x' : System) (event : Event) (reply : Reply) → is_of t event ≡ false → Happens x event reply x' → AgreeOn t x' x
unnoticed t x x' event reply other h = cases (changes x x' event reply h)
  where
    cases : Left x (tenant_of event) reply x' → AgreeOn t x' x
    cases (inl same) = ap (seen_by t) same
    cases (inr changed) = unseen t x x' (tenant_of event) other changed.1
