-- What events do (this project's own rules, docs/HOST.md).
use Rattle.std.specs.Prelude.{◌≡◌, ◌≢◌, ℕ, ◌*◌, ◌%◌, ◌<◌, ◌≤◌, nat_le, ◌==◌, ◌&&◌, Bool, not, is_some, is_none, List, [], ◌∷◌, ◌++◌, length, replicate, slice_get, slice_set, ◌⊎◌, if◌then◌else◌, MatchOption, IfSome, IsSomeAnd, Option, Some, None, suc, true, false}
use Rattle.host_types.specs.declared.fault.Fault.{Fault}
use Rattle.host_types.specs.declared.fault.Fault.TheVariants as fault
use Rattle.host_types.specs.declared.fault.Refused.{Refused as Refusal}
use Rattle.host_types.specs.declared.helper.MapHelper.TheVariants.{Update}
use Rattle.host_types.specs.declared.options.Opt.{Opt}
use Rattle.host_types.specs.declared.shape.Shape.{Shape}
use Rattle.host_types.specs.declared.visited.Visited.{Visited}
use Rattle.host_types.specs.Helpers.{helper}
use Rattle.host_types.specs.Memory.{FlatMaps, map_at}
use Rattle.host_types.specs.OptionTable.{MayBe}
use Rattle.host_types.specs.Pages.{map_index_of}
use Rattle.host_types.specs.Pins.{released}
use Rattle.host_types.specs.Sharing.{Sharing}
use Rattle.host_types.specs.Unmerging.{unmerged, unmerge_need, with_option, MaySet, RefusesSet}
use Rattle.host_types.specs.Visits.{contents_in, dropped, visit}
use Rattle.bpf_decode.specs.Text.{IsWellFormed, IsFirstFault, instructions_of}
use Rattle.page_table.specs.Changes.{pages_of_map, zero_map, with_new_pages}
use Rattle.page_table.specs.Limits.{page_count, shape_of}
use Rattle.page_table.specs.State.{free_number}
use Rattle.write_break.specs.Stores.{stored_sharing}
use Rattle.map_helpers.specs.Updates.{updated_sharing_as}
use Rattle.ksm_counters.specs.Counters.{counters_of}
use Rattle.verifier.specs.Subject.{Subject}
use Rattle.verifier.specs.Table.{Table, IsTightTable, IsRefusal}
use Rattle.admission.specs.Reserve.{needed_from}
use Rattle.interp.specs.Machine.{MachineState, Outcome, Next, Exits, step}
use Rattle.interp.specs.Written.{Written, written}
use Rattle.host_calls.specs.Calls.{IsValue, first_refusal, lookup_refusal, new_map_refusal, update_refusal}
use Rattle.host_calls.specs.Programs.{subject_of}
use Rattle.host_types.specs.declared.event.Event.{Event}
use Rattle.host_types.specs.declared.event.Event.TheVariants.{CreateMap, Load, Begin, Step, Visit, HostUpdate, HostLookup, Set, Unmerge, Counters, Unload, DropMap}
use Rattle.host_core.specs.declared.reply.Reply.{Reply}
use Rattle.host_core.specs.declared.reply.Reply.TheVariants.{Map, Program, Begun, Stepped, Ended, Visited as WasVisited, Done, Value, Counters as AreCounters, Refused}
use Rattle.host_core.specs.World.{Leads, OpenRun, Tenant, World, System, program_at, free_program, is_used, begun_run, all_maps, accepted_of, owned_by, have_in, IsCovered}

-- an event was answered so, and changed nothing
abbrev pub Answers : System → Reply → Reply → System → Type 0
Answers x answer reply x' = (reply ≡ answer) × (x' ≡ x)

-- the system with another tenant at a number, and with other pages that share frames
abbrev pub changed_system : System → ℕ → Tenant → Sharing → System
changed_system x t tenant sharing = record x { world = slice_set x.world t tenant; sharing = sharing }

-- an event was answered so, and left one tenant and the pages so, and all other tenants as they were
abbrev pub Leaves : System → ℕ → Tenant → Sharing → Reply → Reply → System → Type 0
Leaves x t tenant sharing answer reply x' = (reply ≡ answer) × (x' ≡ changed_system x t tenant sharing)

-- an event was answered so, and left the pages so, and all tenants as they were
abbrev pub Shares : System → Sharing → Reply → Reply → System → Type 0
Shares x sharing answer reply x' = (reply ≡ answer) × (x' ≡ record x { sharing = sharing })

-- The event is refused where there is a refusal, and else it happens. For example a DropMap of a tenant with an open run:
-- `drop_refusal` is `Some Busy`, so the reply is `Refused Busy` and x' is x; where it is `None`, `DropHappens` says both.
abbrev pub RefusedOr : Option Fault → System → Reply → System → Type 0 → Type 0
RefusedOr (Some refusal) x reply x' Happening = Answers x (Refused refusal) reply x'
RefusedOr None x reply x' Happening = Happening

-- the event is refused for a reason that holds, or it happens
abbrev pub RefusesOr : (Fault → Type 0) → System → Reply → System → Type 0 → Type 0
RefusesOr Refuses x reply x' Happening = ((f : Fault) × Refuses f × Answers x (Refused f) reply x') ⊎ Happening

-- a tenant, if it is there, to which something happens
abbrev pub OfTenant : System → ℕ → Reply → System → (Tenant → Type 0) → Type 0
OfTenant x t reply x' Happening = MatchOption (slice_get x.world t) (Answers x (Refused fault.BadTenant) reply x') Happening

-- memory may run out in place of what else would happen
abbrev pub MayLackMemory : System → Reply → System → Type 0 → Type 0
MayLackMemory x reply x' Happening = Answers x (Refused fault.OutOfMemory) reply x' ⊎ Happening

-- The event is refused just where it needs more frames than may be had. For example an Unmerge that needs 5: where 4 may be had
-- the reply is `Refused (NoFrames 5 4)` and x' is x; where 5 or more may be had, all pages are unmerged.
abbrev pub MayLackFrames : System → ℕ → Reply → System → Type 0 → Type 0
MayLackFrames x need reply x' Happening =
    ((have_in x < need) × Answers x (Refused (fault.NoFrames need (have_in x))) reply x') ⊎ ((need ≤ have_in x) × Happening)

-- a size that a context may have
abbrev pub is_context_size : ℕ → Bool
is_context_size size = nat_le size 256 && size % 8 == 0

-- what is refused of a load before its text is looked at
abbrev pub load_refusal : Tenant → ℕ → Option Fault
load_refusal tenant size = first_refusal (
    (is_some tenant.run, fault.Busy)
    ∷ (is_none (free_program tenant), fault.TooManyPrograms)
    ∷ (not (is_context_size size), fault.BadContext) ∷ [])

-- A text is loaded to the tenant's first free entry if it is well formed and has a tight table in which no
-- rule is broken. Else the refusal is that of the text. Memory may run out only for a text that is well formed.
pub data LoadHappens (x : System) (t : ℕ) (tenant : Tenant) (p : Subject) (reply : Reply) (x' : System) : Type 0 where
  malformed : (refusal : Refusal) → IsFirstFault p.text refusal → Answers x (Refused (fault.Program refusal)) reply x' → LoadHappens x t tenant p reply x'
  unlawful : IsWellFormed p.text → (refusal : Refusal) → IsRefusal p refusal → Answers x (Refused (fault.Program refusal)) reply x' → LoadHappens x t tenant p reply x'
  out_of_memory : IsWellFormed p.text → Answers x (Refused fault.OutOfMemory) reply x' → LoadHappens x t tenant p reply x'
  loaded : IsWellFormed p.text → (table : Table) → IsTightTable p table → (k : ℕ) → free_program tenant ≡ Some k
      → Leaves x t (record tenant { programs = slice_set tenant.programs k (Some p) }) x.sharing (Program k) reply x' → LoadHappens x t tenant p reply x'

-- what is refused of a run that is to begin
abbrev pub begin_refusal : Tenant → ℕ → List ℕ → Option Fault
begin_refusal tenant k context = first_refusal (
    (is_some tenant.run, fault.Busy)
    ∷ (is_none (program_at tenant k), fault.NoProgram)
    ∷ (not (has_size (program_at tenant k)), fault.BadContext) ∷ [])
  where
    has_size : Option Subject → Bool
    has_size (Some p) = length context == p.context_size
    has_size None = false

-- a run begins on a context and the tenant's maps, where there are frames for all that it may need; only there
-- memory may run out
abbrev pub BeginHappens : System → ℕ → Tenant → ℕ → List ℕ → Reply → System → Type 0
BeginHappens x t tenant k context reply x' =
    (p : Subject) × (program_at tenant k ≡ Some p)
    × MayLackFrames x (needed_from (accepted_of p) (owned_by x.sharing t tenant) 0) reply x' (MayLackMemory x reply x' (
    Leaves x t (record tenant { run = Some (begun_run p context tenant.maps) }) x.sharing Begun reply x'))

-- the pages that share frames once a tenant's open run wrote bytes of a map: each page that one of them lies in is broken,
-- and is pinned if it was taken out
abbrev pub sharing_after : Sharing → ℕ → Option Written → Sharing
sharing_after sharing t None = sharing
sharing_after sharing t (Some w) = stored_sharing true sharing t w.map w.at w.size

-- An open run makes one step of the standard: the tenant's maps are those after it. At the end of the run none of its
-- tenant's pages is pinned any more. A fault has no case.
abbrev pub StepLeads : System → ℕ → Tenant → OpenRun → Sharing → Outcome → Reply → System → Type 0
StepLeads x t tenant r sharing (Next s) reply x' =
    Leaves x t (record tenant { maps = s.memory.maps; run = Some (record r { state = s; steps = suc r.steps }) }) sharing Stepped reply x'
StepLeads x t tenant r sharing (Exits number maps) reply x' =
    Leaves x t (record tenant { maps = maps; run = None }) (released sharing t) (Ended number (suc r.steps)) reply x'

abbrev pub StepHappens : System → ℕ → Tenant → OpenRun → Reply → System → Type 0
StepHappens x t tenant r reply x' =
    (outcome : Outcome) × (step r.program.text r.state ≡ Some outcome)
    × StepLeads x t tenant r (sharing_after x.sharing t (written r.program.text r.state)) outcome reply x'

-- what is refused while a tenant's run is open, and else what is refused of a call
abbrev pub unless_busy : Tenant → Option Fault → Option Fault
unless_busy tenant refusal = if is_some tenant.run then Some fault.Busy else refusal

-- what is refused of a new map
abbrev pub create_refusal : System → ℕ → Tenant → Shape → Option Fault
create_refusal x t tenant shape = unless_busy tenant (new_map_refusal (owned_by x.sharing t tenant) shape (have_in x))

-- a map of zeros is made at the tenant's first free number, its pages never visited
abbrev pub CreateHappens : System → ℕ → Tenant → Shape → Bool → Reply → System → Type 0
CreateHappens x t tenant shape mergeable reply x' =
    (m : ℕ) × (free_number (owned_by x.sharing t tenant) ≡ Some m)
    × Leaves x t (record tenant { maps = slice_set tenant.maps m (Some (zero_map shape)) })
    (with_new_pages x.sharing (map_index_of t m * 256) (page_count shape) mergeable) (Map m) reply x'

-- what is refused of a value that is to be written
abbrev pub host_update_refusal : System → ℕ → Tenant → ℕ → ℕ → List ℕ → Option Fault
host_update_refusal x t tenant m key value = unless_busy tenant (update_refusal (owned_by x.sharing t tenant) m key value (have_in x))

-- a value is written as the helper does it without a flag; no page is pinned
abbrev pub UpdateHappens : System → ℕ → Tenant → ℕ → ℕ → List ℕ → Reply → System → Type 0
UpdateHappens x t tenant m key value reply x' =
    (maps : FlatMaps) × (helper Update tenant.maps m key value 0 ≡ Some (0, maps))
    × Leaves x t (record tenant { maps = maps }) (updated_sharing_as false (owned_by x.sharing t tenant) x.sharing t m key 0) Done reply x'

-- a value is read; memory may run out
abbrev pub LookupHappens : System → ℕ → Tenant → ℕ → ℕ → Reply → System → Type 0
LookupHappens x t tenant m key reply x' = MayLackMemory x reply x' (
    (bytes : List ℕ) × IsValue (owned_by x.sharing t tenant) m key bytes × Answers x (Value bytes) reply x')

-- what is refused of a program that is to be unloaded
abbrev pub unload_refusal : Tenant → ℕ → Option Fault
unload_refusal tenant k = first_refusal (
    (is_some tenant.run, fault.Busy)
    ∷ (is_none (program_at tenant k), fault.NoProgram) ∷ [])

-- a program is no longer at its index
abbrev pub UnloadHappens : System → ℕ → Tenant → ℕ → Reply → System → Type 0
UnloadHappens x t tenant k reply x' = Leaves x t (record tenant { programs = slice_set tenant.programs k None }) x.sharing Done reply x'

-- what is refused of a map that is to be dropped
abbrev pub drop_refusal : Tenant → ℕ → Option Fault
drop_refusal tenant m = first_refusal (
    (is_some tenant.run, fault.Busy)
    ∷ (is_none (map_at tenant.maps m), fault.NoMap)
    ∷ (is_used tenant m, fault.InUse) ∷ [])

-- a map is no longer there, and its pages share no frame, wait for none and aren't pinned
abbrev pub DropHappens : System → ℕ → Tenant → ℕ → Reply → System → Type 0
DropHappens x t tenant m reply x' =
    Leaves x t (record tenant { maps = slice_set tenant.maps m None })
    (dropped x.sharing (map_index_of t m * 256) (pages_of_map (owned_by x.sharing t tenant) m)) Done reply x'

-- one visit of the scanner: no tenant changes
abbrev pub VisitHappens : System → Reply → System → Type 0
VisitHappens x reply x' =
    (visited : Visited) × ((sharing : Sharing) × (visit (contents_in (all_maps x.world)) x.sharing ≡ (visited, sharing))
    × Shares x sharing (WasVisited visited) reply x')

-- an option is set, or may not be set
abbrev pub SetHappens : System → Opt → ℕ → Reply → System → Type 0
SetHappens x option value reply x' = RefusesOr (RefusesSet x.sharing option value) x reply x' (
    MayBe option value × MaySet x.sharing option
    × Shares x (record x.sharing { options = with_option x.sharing.options option value }) Done reply x')

-- each page that shares a frame gets one of its own, where there are as many
abbrev pub UnmergeHappens : System → Reply → System → Type 0
UnmergeHappens x reply x' = MayLackFrames x (unmerge_need x.sharing) reply x' (Shares x (unmerged x.sharing) Done reply x')

-- An event in a system, its reply, and the system afterwards.
abbrev pub Happens : System → Event → Reply → System → Type 0
Happens x (CreateMap t value_size entries mergeable) reply x' = OfTenant x t reply x' (λ tenant.
    RefusedOr (create_refusal x t tenant (shape_of value_size entries)) x reply x' (
    CreateHappens x t tenant (shape_of value_size entries) mergeable reply x'))
Happens x (Load t text size) reply x' = OfTenant x t reply x' (λ tenant.
    RefusedOr (load_refusal tenant size) x reply x' (LoadHappens x t tenant (subject_of (owned_by x.sharing t tenant) text size) reply x'))
Happens x (Begin t k context) reply x' = OfTenant x t reply x' (λ tenant.
    RefusedOr (begin_refusal tenant k context) x reply x' (BeginHappens x t tenant k context reply x'))
Happens x (Step t) reply x' = OfTenant x t reply x' (λ tenant.
    MatchOption tenant.run (Answers x (Refused fault.NoRun) reply x') (λ r. StepHappens x t tenant r reply x'))
Happens x Visit reply x' = VisitHappens x reply x'
Happens x (HostUpdate t m key value) reply x' = OfTenant x t reply x' (λ tenant.
    RefusedOr (host_update_refusal x t tenant m key value) x reply x' (UpdateHappens x t tenant m key value reply x'))
Happens x (HostLookup t m key) reply x' = OfTenant x t reply x' (λ tenant.
    RefusedOr (lookup_refusal (owned_by x.sharing t tenant) m key) x reply x' (LookupHappens x t tenant m key reply x'))
Happens x (Unload t k) reply x' = OfTenant x t reply x' (λ tenant.
    RefusedOr (unload_refusal tenant k) x reply x' (UnloadHappens x t tenant k reply x'))
Happens x (DropMap t m) reply x' = OfTenant x t reply x' (λ tenant.
    RefusedOr (drop_refusal tenant m) x reply x' (DropHappens x t tenant m reply x'))
Happens x (Set option value) reply x' = SetHappens x option value reply x'
Happens x Unmerge reply x' = UnmergeHappens x reply x'
Happens x Counters reply x' = Answers x (AreCounters (counters_of x.frames (contents_in (all_maps x.world)) x.sharing)) reply x'

-- What is promised of a reply. A step of an open run isn't refused; until the end the run is at the state
-- that the standard reaches from its beginning, after fewer steps than the program has instructions; and
-- at the end the number and the maps are those of the standard's exit, after no more steps than that.
abbrev pub IsPromisedOf : OpenRun → ℕ → Reply → World → Type 0
IsPromisedOf r t Stepped w' = (s : MachineState) × Leads r.program.text r.beginning (suc r.steps) (Next s)
    × (suc r.steps < instructions_of r.program.text)
    × IsSomeAnd (slice_get w' t) (λ tenant. tenant.maps ≡ s.memory.maps)
IsPromisedOf r t (Ended number steps) w' = (maps : FlatMaps) × Leads r.program.text r.beginning steps (Exits number maps)
    × (steps ≤ instructions_of r.program.text)
    × IsSomeAnd (slice_get w' t) (λ tenant. tenant.maps ≡ maps)
IsPromisedOf r t reply w' = ⊥

-- the promise for each step of an open run; of other events nothing more is said than that they happen
abbrev pub IsPromised : System → Event → Reply → System → Type 0
IsPromised x (Step t) reply x' = IfSome (slice_get x.world t) (λ tenant. IfSome tenant.run (λ r. IsPromisedOf r t reply x'.world))
IsPromised x event reply x' = Unit {0}

-- events in their order, with their replies: each happens and keeps the promise, and at each moment all
-- open runs together need no more frames than are free
abbrev pub AllHappen : System → List Event → List Reply → System → Type 0
AllHappen x [] [] x' = x' ≡ x
AllHappen x (event ∷ events) (reply ∷ replies) x' =
    (next : System) × Happens x event reply next × IsPromised x event reply next × IsCovered next × AllHappen next events replies x'
AllHappen x [] (reply ∷ replies) x' = ⊥
AllHappen x (event ∷ events) [] x' = ⊥

-- Events that are steps of a tenant, up to a limit, and their replies: each is Stepped, but for the last where
-- that is another, with which the run ended or which is a refusal.
abbrev pub AreSteps : ℕ → ℕ → Option Reply → List Event → List Reply → Type 0
AreSteps t limit None events replies = (events ≡ replicate limit (Step t)) × (replies ≡ replicate limit Stepped)
AreSteps t limit (Some last) events replies =
    (n : ℕ) × (n < limit) × (last ≢ Stepped)
    × (events ≡ replicate n (Step t) ++ Step t ∷ []) × (replies ≡ replicate n Stepped ++ last ∷ [])

-- steps of a tenant happen, up to a limit
abbrev pub StepsHappen : System → ℕ → ℕ → Option Reply → System → Type 0
StepsHappen x t limit last x' =
    (events : List Event) × (replies : List Reply) × AreSteps t limit last events replies × AllHappen x events replies x'

-- A whole run of a program on a context, from its beginning to its end. Where it isn't begun, that is the reply; else the reply is that
-- to its last step. A run makes fewer than 2^32 steps.
abbrev pub RunHappens : System → ℕ → ℕ → List ℕ → Reply → System → Type 0
RunHappens x t k context reply x' =
    ((reply ≢ Begun) × Happens x (Begin t k context) reply x' × IsPromised x (Begin t k context) reply x' × IsCovered x')
    ⊎ ((begun : System) × (Happens x (Begin t k context) Begun begun × IsPromised x (Begin t k context) Begun begun × IsCovered begun)
    × StepsHappen begun t 4294967296 (Some reply) x')

-- two lists of events that happen one after the other happen as one list
abbrev pub JoinHappens : Type 0
JoinHappens =
    (x next x' : System) (events more : List Event) (replies further : List Reply)
    → AllHappen x events replies next → AllHappen next more further x'
    → AllHappen x (events ++ more) (replies ++ further) x'

-- a joined list of events happens as its two parts, one after the other
abbrev pub SplitHappens : Type 0
SplitHappens =
    (x x' : System) (events more : List Event) (replies : List Reply) → AllHappen x (events ++ more) replies x'
    → ((next : System) × ((first : List Reply) × ((second : List Reply) × (replies ≡ first ++ second)
    × AllHappen x events first next × AllHappen next more second x')))
