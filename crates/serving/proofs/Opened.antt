-- What is opened, one command after the other.
use Rattle.std.proofs.Common.{◌≡◌, ◌≢◌, ◌⊎◌, inl, inr, ◌∙◌, ◌<◌, ◌≤◌, ◌+◌, ℕ, zero, suc, List, [], ◌∷◌, ◌++◌, length, get_or, take, drop, map, All, ap, refl, subst, subst₂, sym, Some, None, Result, Ok, Err, IfErr, OnErr, Bool, unwrap_or, arith}
use Rattle.std.specs.Prelude.{IfSome, slice_get}
use Rattle.std.proofs.Math.ListN.{set}
use Rattle.std.proofs.lemmas.List.{get_or-set_other, length-map, length-set, take_all, take_more}
use Rattle.std.proofs.lemmas.Grind.{get_or-set_at}
use Rattle.std.proofs.lemmas.Bool.Decides.{eqb_tells}
use Rattle.std.proofs.lemmas.List.Elements.{All-push}
use Rattle.host_types.specs.declared.fault.Fault.{Fault}
use Rattle.host_types.specs.declared.fault.Fault.TheVariants.{BadOption, BadTenant}
use Rattle.host_types.specs.declared.options.Opt.{Opt}
use Rattle.host_types.specs.OptionTable.{MayBe}
use Rattle.page_table.specs.Limits.{shape_of}
use Rattle.host_calls.specs.Calls.{RefusesNewMap, RefusesUpdate, NamesHave}
use Rattle.tenant_workers.specs.Calls.{memory_left}
use Rattle.host_types.specs.Tenant.{TenantPart}
use Rattle.verifier.specs.Verified.{Accepted}
use Rattle.turn.specs.Seats.{SeatState, own_part}
use Rattle.tenant_workers.specs.declared.plans.TenantPlan.{TenantPlan}
use Rattle.host_types.specs.declared.event.Event.{Event}
use Rattle.host_types.specs.declared.event.Event.TheVariants.{CreateMap, HostUpdate, Set}
use Rattle.host_types.specs.Events.{tenant_of}
use Rattle.host_file.specs.declared.command.Command.TheVariants.{Apply, Finish, Run, Step, Visit}
use Rattle.host_file.specs.declared.command.Command.{Command}
use Rattle.serving.specs.AtFirst.{first_part}
use Rattle.serving.specs.Opened.{AreOpenedFor, HaveOpened, Home, IsGiven, IsNewPlan, IsOpenedFor, IsSettable, IsStopped, RefusesGift, RefusesOpening, first_home, home_of}
use Rattle.serving.proofs.Indices.{at-mapped, each-at, past-mapped, split-at}

-- one more command
opened-more : (t : ℕ) (commands : List Command) (command : Command) (old half new : Home) → AreOpenedFor t commands old half → IsOpenedFor t command half new
    → AreOpenedFor t (commands ++ command ∷ []) old new
opened-more t [] command old half new first one = (new, subst (λ home. IsOpenedFor t command home new) first one, refl)
opened-more t (c ∷ commands) command old half new (between, here, rest) one = (between, here, opened-more t commands command between half new rest one)

-- an index that is there needs no default
within-any : {X : Type 0} (xs : List X) (index : ℕ) (a b : X) → index < length xs → get_or xs index a ≡ get_or xs index b
within-any [] index a b within = absurd (omega (arith, within))
within-any (x ∷ xs) zero a b within = refl
within-any (x ∷ xs) (suc index) a b within = within-any xs index a b (omega (arith, within))

-- what an event does for the tenant at an index, and for the others
opened-one : (event : Event) (plans : List TenantPlan) (index : ℕ) (old plan : TenantPlan) (t : ℕ) (other : TenantPlan) → index < length plans → tenant_of event ≡ Some index
    → IsGiven event (home_of (get_or plans index old)) (home_of plan) → ((t ≡ index) ⊎ (t ≢ index))
    → IsOpenedFor t (Apply event) (home_of (get_or plans t other)) (home_of (get_or (set plans index plan) t other))
opened-one event plans index old plan t other within named given (inl same) =
    let was = ap home_of (within-any plans index old other within ∙ ap (λ i. get_or plans i other) (sym same)) in
    let is = ap home_of (sym (get_or-set_at plans index t plan other same within)) in
    ((λ names. subst₂ (IsGiven event) was is given), (λ others. absurd (others (named ∙ ap (λ i. Some i) (sym same)))))
opened-one event plans index old plan t other within named given (inr differs) =
    ((λ names. absurd (differs (ap (λ o. unwrap_or o 0) (sym names ∙ named)))), (λ others. ap home_of (get_or-set_other plans index t plan other differs)))

runs-one : (plans : List TenantPlan) (index : ℕ) (old plan : TenantPlan) (t : ℕ) (other : TenantPlan) → index < length plans
    → plan.runs.items ≡ (get_or plans index old).runs.items → ((t ≡ index) ⊎ (t ≢ index)) → (get_or (set plans index plan) t other).runs.items ≡ (get_or plans t other).runs.items
runs-one plans index old plan t other within kept (inl same) =
    ap (λ p. p.runs.items) (get_or-set_at plans index t plan other same within) ∙ kept
    ∙ ap (λ p. p.runs.items) (within-any plans index old other within ∙ ap (λ i. get_or plans i other) (sym same))
runs-one plans index old plan t other within kept (inr differs) = ap (λ p. p.runs.items) (get_or-set_other plans index t plan other differs)

chosen : {A B C D : Type 0} → (A × C) ⊎ (B × D) → C ⊎ D
chosen (inl both) = inl both.1
chosen (inr both) = inr both.1

same-or-other : (t index : ℕ) → (t ≡ index) ⊎ (t ≢ index)
same-or-other t index = chosen (eqb_tells t index)

none-some : (t : ℕ) → None ≡ Some t → ⊥
none-some t same = absurd (omega (arith, ap (λ o. unwrap_or o (suc t)) same))

-- an event was done for its tenant
pub opened_given : (event : Event) (plans : List TenantPlan) (index : ℕ) (old plan : TenantPlan) → index < length plans → tenant_of event ≡ Some index
    → plan.runs.items ≡ (get_or plans index old).runs.items → IsGiven event (home_of (get_or plans index old)) (home_of plan)
    → HaveOpened (Apply event ∷ []) plans (set plans index plan)
opened_given event plans index old plan within named kept given = record {
  as_many = length-set plans index plan;
  homes = λ t other there. (home_of (get_or (set plans index plan) t other), opened-one event plans index old plan t other within named given (same-or-other t index), refl);
  runs = λ t other there. runs-one plans index old plan t other within kept (same-or-other t index);
}

-- an event that names no tenant
pub opened_nobody : (event : Event) (plans : List TenantPlan) → tenant_of event ≡ None → HaveOpened (Apply event ∷ []) plans plans
opened_nobody event plans nobody = record {
  as_many = refl;
  homes = λ t other there. (home_of (get_or plans t other), ((λ names. absurd (none-some t (sym nobody ∙ names))), (λ others. refl)), refl);
  runs = λ t other there. refl;
}

-- no command
pub opened-none : (plans : List TenantPlan) → HaveOpened [] plans plans
opened-none plans = record { as_many = refl; homes = λ t plan there. refl; runs = λ t plan there. refl }

-- commands, and one after them
pub opened-next : (commands : List Command) (command : Command) (old half new : List TenantPlan) → HaveOpened commands old half → HaveOpened (command ∷ []) half new
    → HaveOpened (commands ++ command ∷ []) old new
opened-next commands command old half new first one = record {
  as_many = one.as_many ∙ first.as_many;
  homes = λ t plan there.
      let (between, given, same) = one.homes t plan (omega (arith, there, first.as_many)) in
      opened-more t commands command (home_of (get_or old t plan)) (home_of (get_or half t plan)) (home_of (get_or new t plan)) (first.homes t plan there)
      (subst (IsOpenedFor t command (home_of (get_or half t plan))) (sym same) given);
  runs = λ t plan there. one.runs t plan (omega (arith, there, first.as_many)) ∙ first.runs t plan there;
}

-- a command that gives nobody anything
pub opened-nothing : (command : Command) (plans : List TenantPlan) → ((t : ℕ) (home : Home) → IsOpenedFor t command home home) → HaveOpened (command ∷ []) plans plans
opened-nothing command plans none = record {
  as_many = refl;
  homes = λ t plan there. (home_of (get_or plans t plan), none t (home_of (get_or plans t plan)), refl);
  runs = λ t plan there. refl;
}

-- one more of the commands
pub opened-upto : (commands : List Command) (index : ℕ) (command : Command) (old half new : List TenantPlan) → index < length commands → command ≡ get_or commands index command
    → HaveOpened (take index commands) old half → HaveOpened (command ∷ []) half new → HaveOpened (take (index + 1) commands) old new
opened-upto commands index command old half new within is first one =
    subst (λ front. HaveOpened front old new) (ap (λ c. take index commands ++ c ∷ []) is ∙ sym (take_more commands index command within))
    (opened-next (take index commands) command old half new first one)

abbrev home-by : TenantPart → List Accepted → Home
home-by owned programs = record { part = owned; programs = programs }

-- what a new plan's tenant has
pub new-home : (plan : TenantPlan) → IsNewPlan plan → home_of plan ≡ first_home
new-home plan new = ap (λ owned. home-by owned plan.programs.items) new.part ∙ ap (home-by first_part) new.programs

-- what each tenant has when commands were opened, from nothing
pub opened-homes : (commands : List Command) (old new : List TenantPlan) → All IsNewPlan old → HaveOpened commands old new
    → (t : ℕ) → IfSome (slice_get (map home_of new) t) (AreOpenedFor t commands first_home)
opened-homes commands old new fresh opened =
    each-at home_of (λ t. AreOpenedFor t commands first_home) new (λ t plan there.
    let was : t < length old = omega (arith, there, opened.as_many) in
    subst (λ home. AreOpenedFor t commands home (home_of (get_or new t plan))) (new-home (get_or old t plan) (fresh t plan was)) (opened.homes t plan was))

-- the command at an index was refused
pub stopped-at : (commands : List Command) (index : ℕ) (command : Command) (event : Event) (fault : Fault) (old half : List TenantPlan)
    → index < length commands → command ≡ get_or commands index command → command ≡ Apply event → All IsNewPlan old
    → HaveOpened (take index commands) old half → All IsSettable (take index commands) → RefusesOpening (map home_of half) event fault → IsStopped (length old) commands event fault
stopped-at commands index command event fault old half within is names fresh opened settable refuses = record {
  front = take index commands;
  rest = drop (index + 1) commands;
  stands = split-at commands index command within ∙ ap (λ c. take index commands ++ c ∷ drop (index + 1) commands) (sym is ∙ names);
  homes = map home_of half;
  as_many = length-map half home_of ∙ opened.as_many;
  opened = opened-homes (take index commands) old half fresh opened;
  settable = settable;
  refused = refuses;
}

-- why an option isn't set
pub refused_set : {A : Type 0} (result : Result A Fault) (homes : List Home) (opt : Opt) (value : ℕ) → IfErr result (λ fault. (fault ≡ BadOption) × ¬ (MayBe opt value))
    → IfErr result (RefusesOpening homes (Set opt value))
refused_set (Ok a) homes opt value refuses = tt
refused_set (Err fault) homes opt value refuses = refuses

-- why a map isn't made for a tenant, by what its seat found
pub refused_map : {A : Type 0} (result : Result A Fault) (old : Home) (seat : SeatState) (tenant value_size entries : ℕ) (mergeable : Bool) → IfErr result (RefusesNewMap old.part (shape_of value_size entries))
    → IfErr result (NamesHave (memory_left seat)) → OnErr result (own_part seat ≡ old.part)
    → IfErr result (RefusesGift (CreateMap tenant value_size entries mergeable) old)
refused_map (Ok a) old seat tenant value_size entries mergeable refuses printed kept = tt
refused_map (Err fault) old seat tenant value_size entries mergeable refuses printed kept =
    (refuses, (memory_left seat, record { tenant = seat.view.first; known = kept; printed = printed }))

-- why a value isn't written for it
pub refused_update : {A : Type 0} (result : Result A Fault) (old : Home) (seat : SeatState) (tenant map key : ℕ) (value : List ℕ) → IfErr result (RefusesUpdate old.part map key value)
    → IfErr result (NamesHave (memory_left seat)) → OnErr result (own_part seat ≡ old.part) → IfErr result (RefusesGift (HostUpdate tenant map key value) old)
refused_update (Ok a) old seat tenant map key value refuses printed kept = tt
refused_update (Err fault) old seat tenant map key value refuses printed kept =
    (refuses, (memory_left seat, record { tenant = seat.view.first; known = kept; printed = printed }))

-- why an event isn't done for its tenant
pub refused_gift : {A : Type 0} (result : Result A Fault) (event : Event) (plans : List TenantPlan) (index : ℕ) (plan : TenantPlan) → index < length plans → tenant_of event ≡ Some index
    → IfErr result (RefusesGift event (home_of (get_or plans index plan))) → IfErr result (RefusesOpening (map home_of plans) event)
refused_gift (Ok a) event plans index plan within named refuses = tt
refused_gift (Err fault) event plans index plan within named refuses = rw (named, at-mapped home_of plans index plan within) refuses

-- there is no such tenant
pub refused_nobody : (event : Event) (plans : List TenantPlan) (index : ℕ) → length plans ≤ index → tenant_of event ≡ Some index → RefusesOpening (map home_of plans) event BadTenant
refused_nobody event plans index past named = rw (named, past-mapped home_of plans index past) refl

-- all of the commands
pub opened-whole : (commands : List Command) (index : ℕ) (old new : List TenantPlan) → length commands ≤ index → HaveOpened (take index commands) old new → HaveOpened commands old new
opened-whole commands index old new past opened = subst (λ front. HaveOpened front old new) (take_all index commands past) opened

-- a command that applies no event
pub opened-else : (command : Command) (plans : List TenantPlan) → ((event : Event) → command ≡ Apply event → ⊥) → HaveOpened (command ∷ []) plans plans
opened-else (Apply event) plans differs = absurd (differs event refl)
opened-else (Step tenant count) plans differs = opened-nothing (Step tenant count) plans (λ t home. refl)
opened-else (Finish tenant) plans differs = opened-nothing (Finish tenant) plans (λ t home. refl)
opened-else (Run tenant program context) plans differs = opened-nothing (Run tenant program context) plans (λ t home. refl)
opened-else (Visit count) plans differs = opened-nothing (Visit count) plans (λ t home. refl)

-- one more new plan
pub pushed-new : (before after : List TenantPlan) (plan : TenantPlan) → after ≡ before ++ plan ∷ [] → All IsNewPlan before
    → own_part plan.seat ≡ first_part → plan.programs.items ≡ [] → plan.runs.items ≡ [] → All IsNewPlan after
pushed-new before after plan same fresh first none nothing =
    subst (All IsNewPlan) (sym same) (All-push IsNewPlan before plan fresh record { part = first; programs = none; runs = nothing })
