-- What events do to a host and to a system that it stands for.
use Rattle.std.proofs.Common.{◌≡◌, ℕ, ◌<◌, ◌≤◌, List, [], ◌∷◌, ◌++◌, length, get_or, inl, inr, set, Option, Some, None, IfSome, Result, sym, ap, refl, ◌∙◌, subst}
use Rattle.std.specs.List.{slice_get}
use Rattle.std.proofs.lemmas.Option.{slice_get_read}
use Rattle.host_types.specs.declared.fault.Fault.{Fault}
use Rattle.host_types.specs.declared.fault.Fault.TheVariants as fault
use Rattle.host_types.specs.declared.options.Opt.{Opt}
use Rattle.host_types.specs.declared.visited.Visited.{Visited}
use Rattle.host_types.specs.OptionTable.{MayBe}
use Rattle.host_types.specs.Sharing.{Sharing}
use Rattle.host_types.specs.Unmerging.{unmerged, unmerge_need, with_option, MaySet, RefusesSet, RefusesUnmerge}
use Rattle.host_types.specs.Visits.{contents_in, visit}
use Rattle.ksm_counters.specs.Counters.{counters_of}
use Rattle.page_table.specs.Changes.{AreKept, KeepsSettings}
use Rattle.page_table.specs.State.{MemoryState, have_of}
use Rattle.scanner.specs.Unmerged.{HasUnmerged}
use Rattle.host_types.specs.declared.event.Event.{Event}
use Rattle.host_types.specs.declared.event.Event.TheVariants.{CreateMap, Load, Begin, Step, Visit, HostUpdate, HostLookup, Set, Unmerge, Counters, Unload, DropMap}
use Rattle.host_core.specs.declared.reply.Reply.{Reply}
use Rattle.host_core.specs.declared.tenant_event.TenantEvent.{TenantEvent}
use Rattle.host_core.specs.declared.tenant_event.TenantEvent.TheVariants as tenant_event
use Rattle.host_core.specs.declared.reply.Reply.TheVariants.{Visited as WasVisited, Done, Counters as AreCounters, Refused}
use Rattle.host_core.specs.World.{System, all_maps, have_in, IsCovered}
use Rattle.host_core.specs.Happens.{Happens, IsPromised, IsPromisedOf, SetHappens, UnmergeHappens, AllHappen, RunHappens, StepsHappen, changed_system}
use Rattle.host_core.specs.HostView.{TenantView, HostView, StandsForTenant, StandsForMemory, StandsForSystem, IsKept, IsServed, IsAnswered, HasMadeRun, HasMadeSteps, event_of, reply_of}
use Rattle.host_types.specs.Events.{tenant_of}
use Rattle.page_table.specs.Reads.{ReadsAs}
use Rattle.host_core.proofs.Joined.{AllHappen-join}
use Rattle.host_core.proofs.Systems.{have_stands, shares_stands, covered}
use Rattle.host_core.proofs.Worlds.{AllZip-set, AllZip-found, AllZip-missing, OfTenant-missing}

-- what becomes of each system for which a host stands
abbrev pub Leads : HostView → (System → System → Type 0) → HostView → Type 0
Leads old Happening new = (x : System) → StandsForSystem old x → (next : System) × StandsForSystem new next × Happening x next

-- an event happens in each system for which a host stands, and leaves one for which it then stands
abbrev pub Hosts : HostView → Event → Reply → HostView → Type 0
Hosts old event reply new =
    (x : System) → StandsForSystem old x → (next : System) × StandsForSystem new next × Happens x event reply next × IsPromised x event reply next

-- a host that stood for a system still stands for one
pub hosts_on : (old new : HostView) (Happening : System → System → Type 0) → Leads old Happening new → (x : System) × StandsForSystem old x → (x : System) × StandsForSystem new x
hosts_on old new Happening leads (x, stands) = let after = leads x stands in (after.0, after.1)

-- what stands for a system of which only the pages that share frames changed
shared : (tenants : List TenantView) (before after : MemoryState) (x : System) → StandsForSystem (record { tenants = tenants; memory = before }) x → KeepsSettings before after → AreKept before after → after.maps ≡ before.maps
    → StandsForSystem (record { tenants = tenants; memory = after }) (record x { sharing = after.sharing })
shared tenants before after x stands kept parts maps = record {
  memory = shares_stands before after x after.sharing stands.memory kept parts maps refl;
  tenants = stands.tenants;
}

-- a visit
pub hosts-visit : (tenants : List TenantView) (before after : MemoryState) (visited : Visited) → visit (contents_in before.maps) before.sharing ≡ (visited, after.sharing) → KeepsSettings before after → AreKept before after → after.maps ≡ before.maps
    → Hosts (record { tenants = tenants; memory = before }) Visit (WasVisited visited) (record { tenants = tenants; memory = after })
hosts-visit tenants before after visited is kept parts maps x stands =
    let here : visit (contents_in (all_maps x.world)) x.sharing ≡ (visited, after.sharing) =
    ap (λ m. visit (contents_in m) x.sharing) (sym stands.memory.maps) ∙ ap (λ s. visit (contents_in before.maps) s) (sym stands.memory.sharing) ∙ is in
    (record x { sharing = after.sharing }, shared tenants before after x stands kept parts maps, (visited, (after.sharing, here, (refl, refl))), tt)

-- counters that are reported
pub hosts-counters : (tenants : List TenantView) (memory : MemoryState)
    → Hosts (record { tenants = tenants; memory = memory }) Counters (AreCounters (counters_of (length memory.arena) (contents_in memory.maps) memory.sharing)) (record { tenants = tenants; memory = memory })
hosts-counters tenants memory x stands =
    (x, stands, (ap AreCounters (counts x stands.memory), refl), tt)
  where
    counts : (x : System) → StandsForMemory memory x → counters_of (length memory.arena) (contents_in memory.maps) memory.sharing ≡ counters_of x.frames (contents_in (all_maps x.world)) x.sharing
    counts x stood = ap (λ n. counters_of n (contents_in memory.maps) memory.sharing) stood.frames
        ∙ ap (λ m. counters_of x.frames (contents_in m) memory.sharing) stood.maps ∙ ap (λ s. counters_of x.frames (contents_in (all_maps x.world)) s) stood.sharing

-- what a set option does
abbrev pub Sets : Opt → ℕ → Reply → System → System → Type 0
Sets option value reply x next = SetHappens x option value reply next

-- an option that is set
pub leads-set : (tenants : List TenantView) (before after : MemoryState) (option : Opt) (value : ℕ) → MayBe option value → MaySet before.sharing option
    → after ≡ record before { sharing = record before.sharing { options = with_option before.sharing.options option value } } → AreKept before after
    → Leads (record { tenants = tenants; memory = before }) (Sets option value Done) (record { tenants = tenants; memory = after })
leads-set tenants before after option value may_be may_set is parts x stands =
    let kept : KeepsSettings before after = record { tenants = ap (λ m. m.tenants) is; frames = ap (λ m. length m.arena) is } in
    let sharing : after.sharing ≡ record x.sharing { options = with_option x.sharing.options option value } =
    ap (λ m. m.sharing) is ∙ ap (λ (s : Sharing). record s { options = with_option s.options option value }) stands.memory.sharing in (
      record x { sharing = after.sharing },
      shared tenants before after x stands kept parts (ap (λ m. m.maps) is),
      inr (may_be, subst (λ s. MaySet s option) stands.memory.sharing may_set, (refl, ap (λ s. record x { sharing = s }) sharing)),
    )

-- an option that isn't set
pub leads-set_refused : (tenants : List TenantView) (before after : MemoryState) (option : Opt) (value : ℕ) (refusal : Fault) → RefusesSet before.sharing option value refusal → after ≡ before
    → Leads (record { tenants = tenants; memory = before }) (Sets option value (Refused refusal)) (record { tenants = tenants; memory = after })
leads-set_refused tenants before after option value refusal refuses is x stands = (
  x,
  subst (λ m. StandsForSystem (record { tenants = tenants; memory = m }) x) (sym is) stands,
  inl (refusal, subst (λ s. RefusesSet s option value refusal) stands.memory.sharing refuses, (refl, refl)),
)

-- what an unmerging does
abbrev pub Unmerges : Reply → System → System → Type 0
Unmerges reply x next = UnmergeHappens x reply next

-- pages that no longer share frames
pub leads-unmerge : (tenants : List TenantView) (before after : MemoryState) → HasUnmerged before after
    → Leads (record { tenants = tenants; memory = before }) (Unmerges Done) (record { tenants = tenants; memory = after })
leads-unmerge tenants before after did x stands =
    let have = have_stands before x stands.memory in
    let needed : unmerge_need x.sharing ≤ have_in x = subst (λ s. unmerge_need s ≤ have_in x) stands.memory.sharing (subst (λ n. unmerge_need before.sharing ≤ n) have did.enough) in
    let sharing : after.sharing ≡ unmerged x.sharing = did.sharing ∙ ap unmerged stands.memory.sharing in
    (record x { sharing = after.sharing }, shared tenants before after x stands did.settings did.kept did.maps, inr (needed, (refl, ap (λ s. record x { sharing = s }) sharing)))

-- too few frames for that
unmerge_refused : (x : System) (sharing : Sharing) (have : ℕ) (refusal : Fault) → sharing ≡ x.sharing → have ≡ have_in x → RefusesUnmerge sharing have refusal → UnmergeHappens x (Refused refusal) x
unmerge_refused x sharing have (fault.NoFrames need free) is there (needs, says, less) =
    let need_is : need ≡ unmerge_need x.sharing = needs ∙ ap unmerge_need is in
    let answered_is : free ≡ have_in x = says ∙ there in
    inl (rw (sym need_is, sym answered_is) less, (rw (need_is, answered_is) refl, refl))
unmerge_refused x sharing have refusal is there refuses = absurd refuses

pub leads-unmerge_refused : (tenants : List TenantView) (before after : MemoryState) (refusal : Fault) → RefusesUnmerge before.sharing (have_of before) refusal → after ≡ before
    → Leads (record { tenants = tenants; memory = before }) (Unmerges (Refused refusal)) (record { tenants = tenants; memory = after })
leads-unmerge_refused tenants before after refusal refuses is x stands = (
  x,
  subst (λ m. StandsForSystem (record { tenants = tenants; memory = m }) x) (sym is) stands,
  unmerge_refused x before.sharing (have_of before) refusal stands.memory.sharing (have_stands before x stands.memory) refuses,
)

-- an unmerging whose answer is reported
pub hosts-unmerge : (old new : HostView) (event : Event) (reply : Reply) (answer : Result Reply Fault) → event ≡ Unmerge → reply ≡ reply_of answer → Leads old (Unmerges (reply_of answer)) new → Hosts old event reply new
hosts-unmerge old new event reply answer named replied leads x stands =
    let after = leads x stands in
    (after.0, after.1, rw (named, replied) after.2, rw named tt)

-- where the tenant that an event names isn't there
missing_at : (s t : ℕ) (x : System) → ◌≡◌ {A = Option ℕ} (Some s) (Some t) → slice_get x.world t ≡ None → slice_get x.world s ≡ None
missing_at s t x named missing = let same : s ≡ t = cc in rw same missing

-- an event of a tenant that was served
pub hosts-served : (views : List TenantView) (before after : MemoryState) (t : ℕ) (old new : TenantView) (event : Event) (reply : Reply) → slice_get views t ≡ Some old → IsServed t old before event reply new after
    → Hosts (record { tenants = views; memory = before }) event reply (record { tenants = set views t new; memory = after })
hosts-served views before after t old new event reply there served x stands =
    let (tenant, found, stood) = AllZip-found StandsForTenant views x.world t old stands.tenants there in
    let (next, sharing, stands', memory', happens, promised) = served x tenant found stood stands.memory in
    (changed_system x t next sharing, record { memory = memory'; tenants = AllZip-set StandsForTenant views x.world t new next stands.tenants stands' }, happens, promised)

-- the tenant at a number for which there is one
pub tenant_there : (views : List TenantView) (t : ℕ) (old : TenantView) → t < length views → old ≡ get_or views t old → slice_get views t ≡ Some old
tenant_there views t old within is = slice_get_read views (length views) t old refl within is

-- the tenant and the memory of a host stand for a system
pub kept_in : (views : List TenantView) (memory : MemoryState) (t : ℕ) (old : TenantView) → (x : System) × StandsForSystem (record { tenants = views; memory = memory }) x → t < length views → old ≡ get_or views t old → IsKept t old memory
kept_in views memory t old (x, stands) within is =
    let (tenant, found, stood) = AllZip-found StandsForTenant views x.world t old stands.tenants (tenant_there views t old within is) in
    (x, tenant, found, stood, stands.memory)

-- the refusal of an event whose tenant isn't there
no_tenant : (event : Event) (t : ℕ) (x : System) → tenant_of event ≡ Some t → slice_get x.world t ≡ None → Happens x event (Refused fault.BadTenant) x × IsPromised x event (Refused fault.BadTenant) x
no_tenant (CreateMap s value_size entries mergeable) t x named missing = (OfTenant-missing x s _ x _ (missing_at s t x named missing) (refl, refl), tt)
no_tenant (Load s text size) t x named missing = (OfTenant-missing x s _ x _ (missing_at s t x named missing) (refl, refl), tt)
no_tenant (Begin s k context) t x named missing = (OfTenant-missing x s _ x _ (missing_at s t x named missing) (refl, refl), tt)
no_tenant (HostUpdate s m key value) t x named missing = (OfTenant-missing x s _ x _ (missing_at s t x named missing) (refl, refl), tt)
no_tenant (HostLookup s m key) t x named missing = (OfTenant-missing x s _ x _ (missing_at s t x named missing) (refl, refl), tt)
no_tenant (Unload s k) t x named missing = (OfTenant-missing x s _ x _ (missing_at s t x named missing) (refl, refl), tt)
no_tenant (DropMap s m) t x named missing = (OfTenant-missing x s _ x _ (missing_at s t x named missing) (refl, refl), tt)
no_tenant (Step s) t x named missing =
    let none = missing_at s t x named missing in
    (OfTenant-missing x s _ x _ none (refl, refl), subst (λ found. IfSome found (λ tenant. IfSome tenant.run (λ r. IsPromisedOf r s (Refused fault.BadTenant) x.world))) (sym none) tt)
no_tenant Visit t x named missing = absurd (cc)
no_tenant (Set option value) t x named missing = absurd (cc)
no_tenant Unmerge t x named missing = absurd (cc)
no_tenant Counters t x named missing = absurd (cc)

-- the tenant that an event of a tenant names
pub tenant_of-event_of : (t : ℕ) (event : TenantEvent) → tenant_of (event_of t event) ≡ Some t
tenant_of-event_of t (tenant_event.CreateMap value_size entries mergeable) = refl
tenant_of-event_of t (tenant_event.Load text context_size) = refl
tenant_of-event_of t (tenant_event.Begin k context) = refl
tenant_of-event_of t tenant_event.Step = refl
tenant_of-event_of t (tenant_event.Update m key value) = refl
tenant_of-event_of t (tenant_event.Lookup m key) = refl
tenant_of-event_of t (tenant_event.Unload k) = refl
tenant_of-event_of t (tenant_event.DropMap m) = refl

-- an event of no tenant
pub hosts-no_tenant : (views : List TenantView) (memory : MemoryState) (t : ℕ) (event : Event) → tenant_of event ≡ Some t → slice_get views t ≡ None
    → Hosts (record { tenants = views; memory = memory }) event (Refused fault.BadTenant) (record { tenants = views; memory = memory })
hosts-no_tenant views memory t event named missing x stands =
    let both = no_tenant event t x named (AllZip-missing StandsForTenant views x.world t stands.tenants missing) in
    (x, stands, both.0, both.1)

-- an event after which what open runs may need is covered
pub hosts-covered : (old new : HostView) (event : Event) (reply : Reply) → Hosts old event reply new → ReadsAs new.memory
    → (x : System) → StandsForSystem old x → (next : System) × StandsForSystem new next × Happens x event reply next × IsPromised x event reply next × IsCovered next
hosts-covered old new event reply hosts reads x stands =
    let (next, stands', happens, promised) = hosts x stands in
    (next, stands', happens, promised, covered new.memory next reads stands'.memory)

-- an event of which more is known than that it happens
pub hosts-uncovered : (old new : HostView) (event : Event) (reply : Reply)
    → ((x : System) → StandsForSystem old x → (next : System) × StandsForSystem new next × Happens x event reply next × IsPromised x event reply next × IsCovered next)
    → Hosts old event reply new
hosts-uncovered old new event reply leads x stands =
    let (next, stands', happens, promised, covers) = leads x stands in
    (next, stands', happens, promised)

-- what is answered of an event of a tenant that is there, and that changes nothing
pub hosts-answered : (views : List TenantView) (memory : MemoryState) (t : ℕ) (kept : TenantView) (event : Event) (reply : Reply) → slice_get views t ≡ Some kept → IsAnswered t kept memory event reply → ReadsAs memory
    → (x : System) → StandsForSystem (record { tenants = views; memory = memory }) x → Happens x event reply x × IsPromised x event reply x × IsCovered x
hosts-answered views memory t kept event reply there answered reads x stands =
    let (tenant, found, stood) = AllZip-found StandsForTenant views x.world t kept stands.tenants there in
    let (happens, promised) = answered x tenant found stood stands.memory in
    (happens, promised, covered memory x reads stands.memory)

-- what is answered of an event whose tenant isn't there
pub hosts-unanswered : (views : List TenantView) (memory : MemoryState) (t : ℕ) (event : Event) → tenant_of event ≡ Some t → slice_get views t ≡ None → ReadsAs memory
    → (x : System) → StandsForSystem (record { tenants = views; memory = memory }) x → Happens x event (Refused fault.BadTenant) x × IsPromised x event (Refused fault.BadTenant) x × IsCovered x
hosts-unanswered views memory t event named missing reads x stands =
    let (happens, promised) = no_tenant event t x named (AllZip-missing StandsForTenant views x.world t stands.tenants missing) in
    (happens, promised, covered memory x reads stands.memory)

-- one more event
pub AllHappen-push : (x next x' : System) (events : List Event) (replies : List Reply) (event : Event) (reply : Reply) → AllHappen x events replies next → Happens next event reply x' → IsPromised next event reply x' → IsCovered x' → AllHappen x (events ++ event ∷ []) (replies ++ reply ∷ []) x'
AllHappen-push x next x' events replies event reply before happens promised is_covered =
    AllHappen-join x next x' events (event ∷ []) replies (reply ∷ []) before (x', happens, promised, is_covered, refl)

-- what steps of a tenant do to a host
abbrev pub HostMakesSteps : HostView → ℕ → ℕ → Option Reply → HostView → Type 0
HostMakesSteps old t limit last new = (x : System) → StandsForSystem old x → (next : System) × StandsForSystem new next × StepsHappen x t limit last next

-- steps of a tenant that were made
pub host-made : (views : List TenantView) (before after : MemoryState) (t limit : ℕ) (old new : TenantView) (last : Option Reply) → slice_get views t ≡ Some old → HasMadeSteps t old before limit last new after
    → HostMakesSteps (record { tenants = views; memory = before }) t limit last (record { tenants = set views t new; memory = after })
host-made views before after t limit old new last there made x stands =
    let (tenant, found, stood) = AllZip-found StandsForTenant views x.world t old stands.tenants there in
    let (next, sharing, stands', memory', happen) = made x tenant found stood stands.memory in
    (changed_system x t next sharing, record { memory = memory'; tenants = AllZip-set StandsForTenant views x.world t new next stands.tenants stands' }, happen)

-- steps of no tenant
pub host-no_tenant : (views : List TenantView) (memory : MemoryState) (t limit : ℕ) → 0 < limit → ReadsAs memory → slice_get views t ≡ None
    → HostMakesSteps (record { tenants = views; memory = memory }) t limit (Some (Refused fault.BadTenant)) (record { tenants = views; memory = memory })
host-no_tenant views memory t limit some reads missing x stands =
    let both = no_tenant (Step t) t x refl (AllZip-missing StandsForTenant views x.world t stands.tenants missing) in
    (x, stands, (_, _, (0, some, (λ e. cc), refl, refl), (x, both.0, both.1, covered memory x reads stands.memory, refl)))

-- no steps
pub host-none : (view : HostView) (t : ℕ) → HostMakesSteps view t 0 None view
host-none view t x stands = (x, stands, (_, _, (refl, refl), refl))

-- what a whole run of a tenant does to a host
abbrev pub HostRuns : HostView → ℕ → ℕ → List ℕ → Reply → HostView → Type 0
HostRuns old t k context reply new = (x : System) → StandsForSystem old x → (next : System) × StandsForSystem new next × RunHappens x t k context reply next

-- a whole run that was made
pub host-ran : (views : List TenantView) (before after : MemoryState) (t k : ℕ) (context : List ℕ) (old new : TenantView) (reply : Reply) → slice_get views t ≡ Some old → HasMadeRun t old before k context reply new after
    → HostRuns (record { tenants = views; memory = before }) t k context reply (record { tenants = set views t new; memory = after })
host-ran views before after t k context old new reply there made x stands =
    let (tenant, found, stood) = AllZip-found StandsForTenant views x.world t old stands.tenants there in
    let (next, sharing, stands', memory', happen) = made x tenant found stood stands.memory in
    (changed_system x t next sharing, record { memory = memory'; tenants = AllZip-set StandsForTenant views x.world t new next stands.tenants stands' }, happen)

-- a whole run of no tenant
pub host-runs_none : (views : List TenantView) (memory : MemoryState) (t k : ℕ) (context : List ℕ) → ReadsAs memory → slice_get views t ≡ None
    → HostRuns (record { tenants = views; memory = memory }) t k context (Refused fault.BadTenant) (record { tenants = views; memory = memory })
host-runs_none views memory t k context reads missing x stands =
    let both = no_tenant (Begin t k context) t x refl (AllZip-missing StandsForTenant views x.world t stands.tenants missing) in
    (x, stands, inl ((λ e. cc), both.0, both.1, covered memory x reads stands.memory))
