-- Steps of a tenant's open run, one and many, and the Step events of a system that they are.
use Rattle.std.proofs.Common.{◌≡◌, ℕ, zero, suc, ◌+◌, ◌<◌, ◌≤◌, ◌==◌, Bool, true, false, if◌then◌else◌, List, [], ◌∷◌, ◌++◌, replicate, set, sum_by, get_or, Option, Some, None, is_some, IfSome, IsSomeAnd, MatchOption, sym, ap, refl, ◌∙◌, subst, arith, add-one, add-zero, add-suc}
use Rattle.std.specs.List.{slice_get}
use Rattle.std.specs.Option.{option_map}
use Rattle.std.proofs.lemmas.List.{replicate_more}
use Rattle.std.proofs.lemmas.Option.{IfSome_then}
use Rattle.host_types.specs.declared.fault.Fault.TheVariants as fault
use Rattle.host_types.specs.declared.shape.Shape.{Shape}
use Rattle.host_types.specs.Helpers.{update_answer, element_at, map_updated, maps_updated}
use Rattle.host_types.specs.Bytes.{with_part}
use Rattle.host_types.specs.Memory.{FlatMap, FlatMaps, map_at, ◌>>=◌}
use Rattle.host_types.specs.Pins.{released}
use Rattle.host_types.specs.Sharing.{Sharing}
use Rattle.host_types.specs.Tenant.{TenantPart}
use Rattle.bpf_decode.specs.declared.operation.Operation.{Operation}
use Rattle.bpf_decode.specs.declared.operation.Operation.TheVariants.{Alu, Load, Store, LoadImmediate, Jump, Branch, Call, Exit}
use Rattle.bpf_decode.specs.Text.{instructions_of, instructions_before, insn_at}
use Rattle.page_table.specs.declared.tenant.Tenant.{Tenant as Recorded}
use Rattle.page_table.specs.Changes.{OtherTenantsUnchanged}
use Rattle.page_table.specs.Reads.{ReadsAs}
use Rattle.page_table.specs.State.{MemoryState, part}
use Rattle.verifier.specs.Named.{named_shapes}
use Rattle.admission.specs.Reserve.{needed_from}
use Rattle.verifier.specs.Verified.{Accepted, IsVerified}
use Rattle.interp.specs.declared.need.Need.{Need}
use Rattle.interp.specs.declared.need.Need.TheVariants.{Private, Ended as NeedEnded, Load as AskLoad, Store as AskStore, Lookup as AskLookup, Update as AskUpdate, Delete as AskDelete}
use Rattle.interp.specs.Fits.{HaveShapes}
use Rattle.interp.specs.Machine.{MachineState, Outcome, Next, Exits, operation_at, step, step_by, step_store, step_call, fallen}
use Rattle.interp.specs.Needs.{map_stored, maps_after}
use Rattle.interp.specs.StandsFor.{Running, StandsFor}
use Rattle.interp.specs.Written.{written, written_by_operation}
use Rattle.tenant_runs.specs.Fulfilment.{KeepsSizes}
use Rattle.host_types.specs.declared.event.Event.{Event}
use Rattle.host_types.specs.declared.event.Event.TheVariants.{Step}
use Rattle.host_core.specs.declared.reply.Reply.{Reply}
use Rattle.host_core.specs.declared.reply.Reply.TheVariants.{Stepped, Ended, Refused}
use Rattle.host_core.specs.declared.tenant.OpenRun.{OpenRun as KeptRun}
use Rattle.host_core.specs.World.{Beginning, started, found_open, Leads, OpenRun, Tenant, System, IsTenant, IsOpenRun, IsCovered, accepted_of, pins_of, reserve_of, reserved_in, owned_by}
use Rattle.host_core.specs.Happens.{Answers, StepHappens, Happens, IsPromised, IsPromisedOf, AllHappen, StepsHappen, changed_system, sharing_after}
use Rattle.host_core.specs.HostView.{TenantView, EachProgram, StandsForRun, StandsForAnyRun, StandsForTenant, StandsForMemory, IsKept, HasMadeSteps, steps_of}
use Rattle.host_core.specs.Batches.{IsUnderWayAt, KeepsPins, needed_in, HasAdvanced, HasDone, AreMade, AreMadeFrom, IsOn, IsAnswered, IsEnded, went_on, answered, ended, part_in, reserved_of}
use Rattle.host_core.proofs.Worlds.{slice_get-set, OfTenant-there, changed_system-same, changed_system-twice}
use Rattle.host_core.proofs.Memories.{owned-idle}
use Rattle.host_core.proofs.Systems.{part_stands, reserved_stands, covered, covered-step, changed_stands}
use Rattle.host_core.proofs.Joined.{AllHappen-join}
use Rattle.host_core.proofs.Indices.{all-at}
use Rattle.host_core.proofs.Advances.{some_instruction}
use Rattle.host_core.proofs.Opening.{accepted-tight}

-- the system's open run, where one is kept
pub run-found : (programs : List (Option Accepted)) (kept : KeptRun) (r : Option OpenRun) → StandsForAnyRun programs (Some kept) r → (found : OpenRun) × (r ≡ Some found) × StandsForRun programs kept found
run-found programs kept None h = absurd h
run-found programs kept (Some r) h = (r, refl, h)

-- no open run, where none is kept
pub run-missing : (programs : List (Option Accepted)) (r : Option OpenRun) → StandsForAnyRun programs None r → r ≡ None
run-missing programs None h = refl
run-missing programs (Some r) h = absurd h

-- each program that is kept was verified
pub verified-at : (programs : List (Option Accepted)) (k : ℕ) (v : Accepted) → EachProgram IsVerified programs → slice_get programs k ≡ Some (Some v) → IsVerified v
verified-at programs k v all found = all-at IsVerified programs k v all found

-- an exit writes to no map
exit_writes : (text : List ℕ) (s : MachineState) (number : ℕ) (maps : FlatMaps) → step text s ≡ Some (Exits number maps) → written text s ≡ None
unfolding step written step_by written_by_operation
exit_writes text s number maps e = found (operation_at text s.slot) e
  where
    goes_on : (o : Option MachineState) → (o >>= λ t. Some (fallen text t)) ≡ Some (Exits number maps) → ⊥
    goes_on None e = cc
    goes_on (Some t) e = cc

    by : (operation : Operation) → step_by text operation s ≡ Some (Exits number maps) → written_by_operation text operation s ≡ None
    by (Store size source) e = absurd (goes_on (step_store size source (insn_at text s.slot) s) e)
    by Call e = absurd (goes_on (step_call (insn_at text s.slot) s) e)
    by (Alu code width source) e = refl
    by (Load size extension) e = refl
    by LoadImmediate e = refl
    by (Jump distance) e = refl
    by (Branch comparison width source) e = refl
    by Exit e = refl

    found : (o : Option Operation) → (o >>= λ operation. step_by text operation s) ≡ Some (Exits number maps) → (o >>= λ operation. written_by_operation text operation s) ≡ None
    found None e = refl
    found (Some operation) e = by operation e

-- the shape of a map, if it is there
abbrev shape_in : FlatMaps → ℕ → Option Shape
shape_in maps m = option_map (λ (flat : FlatMap). flat.shape) (map_at maps m)

-- a map that is there changed to one of its shape
set_shapes : (maps : FlatMaps) (m j : ℕ) (f : FlatMap → FlatMap) → ((flat : FlatMap) → (f flat).shape ≡ flat.shape) → shape_in (set maps m (option_map f (map_at maps m))) j ≡ shape_in maps j
set_shapes [] m j f same = refl
set_shapes (None ∷ maps) zero zero f same = refl
set_shapes (Some flat ∷ maps) zero zero f same = ap Some (same flat)
set_shapes (x ∷ maps) zero (suc j) f same = refl
set_shapes (x ∷ maps) (suc m) zero f same = refl
set_shapes (x ∷ maps) (suc m) (suc j) f same = set_shapes maps m j f same

-- an update keeps a map's shape
updated_shape : (key flags : ℕ) (value : List ℕ) (flat : FlatMap) → (map_updated key value flags flat).shape ≡ flat.shape
unfolding map_updated
updated_shape key flags value flat = chosen (update_answer flat.shape key flags == 0)
  where
    chosen : (b : Bool) → (if b then record flat { bytes = with_part flat.bytes (element_at flat.shape key) value } else flat).shape ≡ flat.shape
    chosen true = refl
    chosen false = refl

-- what is asked keeps the shapes of maps
after_shapes : (need : Need) (value : List ℕ) (maps : FlatMaps) (j : ℕ) → shape_in (maps_after need value maps) j ≡ shape_in maps j
unfolding maps_updated
after_shapes Private value maps j = refl
after_shapes (NeedEnded number) value maps j = refl
after_shapes (AskLoad m at size) value maps j = refl
after_shapes (AskLookup m key) value maps j = refl
after_shapes (AskDelete m key) value maps j = refl
after_shapes (AskStore m at size number) value maps j = set_shapes maps m j (map_stored at size number) (λ flat. refl)
after_shapes (AskUpdate m key flags) value maps j = set_shapes maps m j (map_updated key value flags) (updated_shape key flags value)

-- maps of the same shapes serve the same programs
have_alike : (shapes : List (Option Shape)) (maps later : FlatMaps) → ((j : ℕ) → shape_in later j ≡ shape_in maps j) → HaveShapes shapes maps → HaveShapes shapes later
have_alike shapes maps later same have m = by (get_or shapes m None) (map_at maps m) (map_at later m) (same m) (have m)
  where
    by : (o : Option Shape) (a b : Option FlatMap) → option_map (λ (flat : FlatMap). flat.shape) b ≡ option_map (λ (flat : FlatMap). flat.shape) a
        → IfSome o (λ shape. IsSomeAnd a (λ flat. flat.shape ≡ shape)) → IfSome o (λ shape. IsSomeAnd b (λ flat. flat.shape ≡ shape))
    by None a b e h = tt
    by (Some shape) None b e h = absurd h
    by (Some shape) (Some x) None e h = absurd cc
    by (Some shape) (Some x) (Some y) e h = let alike : y.shape ≡ x.shape = cc in alike ∙ h

all_have_alike : (programs : List (Option Accepted)) (maps later : FlatMaps) → ((j : ℕ) → shape_in later j ≡ shape_in maps j) → EachProgram (λ accepted. HaveShapes (named_shapes accepted.subject) maps) programs → EachProgram (λ accepted. HaveShapes (named_shapes accepted.subject) later) programs
all_have_alike programs maps later same all k d less = IfSome_then (get_or programs k d) (all k d less) (λ v. have_alike (named_shapes v.subject) maps later same)

-- what happens at a step of an open run, and what is promised of it
step-open : (x : System) (t : ℕ) (tenant : Tenant) (r : OpenRun) (reply : Reply) (x' : System) → slice_get x.world t ≡ Some tenant → tenant.run ≡ Some r → StepHappens x t tenant r reply x' → IsPromisedOf r t reply x'.world
    → Happens x (Step t) reply x' × IsPromised x (Step t) reply x'
step-open x t tenant r reply x' there is_open happens promised = (
  OfTenant-there x t reply x' _ tenant there
      (subst (λ found. MatchOption found (Answers x (Refused fault.NoRun) reply x') (λ open_run. StepHappens x t tenant open_run reply x')) (sym is_open) happens),
  subst (λ found. IfSome found (λ one. IfSome one.run (λ open_run. IsPromisedOf open_run t reply x'.world))) (sym there)
      (subst (λ found. IfSome found (λ open_run. IsPromisedOf open_run t reply x'.world)) (sym is_open) promised),
)

-- an open run at a later state
abbrev run_at : OpenRun → ℕ → MachineState → OpenRun
run_at r steps u = record r { state = u; steps = steps }

-- its tenant, which has the maps of that state
abbrev tenant_at : Tenant → OpenRun → ℕ → MachineState → Tenant
tenant_at tenant r steps u = record tenant { maps = u.memory.maps; run = Some (run_at r steps u) }

-- the tenant whose run has ended
abbrev tenant_after : Tenant → FlatMaps → Tenant
tenant_after tenant maps = record tenant { maps = maps; run = None }

-- one step more
led-more : (text : List ℕ) (beginning : Beginning) (steps : ℕ) (s : MachineState) (outcome : Outcome) → Leads text beginning steps (Next s) → step text s ≡ Some outcome → Leads text beginning (suc steps) outcome
led-more text (started context maps) steps s outcome led makes = (s, led, makes)
led-more text (found_open from before) steps s outcome (since, whole, led) makes = (suc since, omega (arith, whole), (s, led, makes))

-- a step after which an open run goes on
step-on : (x : System) (t : ℕ) (tenant : Tenant) (r : OpenRun) (u : MachineState) (sharing : Sharing) → slice_get x.world t ≡ Some tenant → tenant.run ≡ Some r → Leads r.program.text r.beginning r.steps (Next r.state)
    → step r.program.text r.state ≡ Some (Next u) → sharing ≡ sharing_after x.sharing t (written r.program.text r.state) → suc r.steps < instructions_of r.program.text
    → Happens x (Step t) Stepped (changed_system x t (tenant_at tenant r (suc r.steps) u) sharing) × IsPromised x (Step t) Stepped (changed_system x t (tenant_at tenant r (suc r.steps) u) sharing)
step-on x t tenant r u sharing there is_open reached makes shares few =
    let next = tenant_at tenant r (suc r.steps) u in
    step-open x t tenant r Stepped (changed_system x t next sharing) there is_open
    (Next u, makes, (refl, ap (changed_system x t next) shares))
    (u, led-more r.program.text r.beginning r.steps r.state (Next u) reached makes, few, subst (λ o. IsSomeAnd o (λ one. one.maps ≡ u.memory.maps)) (sym (slice_get-set x.world t tenant next there)) refl)

-- a step with which an open run ends, and with it its pins
step-last : (x : System) (t : ℕ) (tenant : Tenant) (r : OpenRun) (number : ℕ) (maps : FlatMaps) (sharing : Sharing) → slice_get x.world t ≡ Some tenant → tenant.run ≡ Some r → Leads r.program.text r.beginning r.steps (Next r.state)
    → step r.program.text r.state ≡ Some (Exits number maps) → sharing ≡ released x.sharing t → suc r.steps ≤ instructions_of r.program.text
    → Happens x (Step t) (Ended number (suc r.steps)) (changed_system x t (tenant_after tenant maps) sharing) × IsPromised x (Step t) (Ended number (suc r.steps)) (changed_system x t (tenant_after tenant maps) sharing)
step-last x t tenant r number maps sharing there is_open reached makes ends few =
    let next = tenant_after tenant maps in
    let shares : sharing ≡ released (sharing_after x.sharing t (written r.program.text r.state)) t =
    ends ∙ ap (λ w. released (sharing_after x.sharing t w) t) (sym (exit_writes r.program.text r.state number maps makes)) in
    step-open x t tenant r (Ended number (suc r.steps)) (changed_system x t next sharing) there is_open
    (Exits number maps, makes, (refl, ap (changed_system x t next) shares))
    (maps, led-more r.program.text r.beginning r.steps r.state (Exits number maps) reached makes, few, subst (λ o. IsSomeAnd o (λ one. one.maps ≡ maps)) (sym (slice_get-set x.world t tenant next there)) refl)

-- one more event
AllHappen-push : (x next x' : System) (events : List Event) (replies : List Reply) (event : Event) (reply : Reply) → AllHappen x events replies next → Happens next event reply x' × IsPromised next event reply x' → IsCovered x'
    → AllHappen x (events ++ event ∷ []) (replies ++ reply ∷ []) x'
AllHappen-push x next x' events replies event reply before (happens, promised) covers =
    AllHappen-join x next x' events (event ∷ []) replies (reply ∷ []) before (x', happens, promised, covers, refl)

-- one more event like those before it
push-same : (x next x' : System) (n : ℕ) (event : Event) (reply : Reply) → AllHappen x (replicate n event) (replicate n reply) next → Happens next event reply x' × IsPromised next event reply x' → IsCovered x'
    → AllHappen x (replicate (suc n) event) (replicate (suc n) reply) x'
push-same x next x' n event reply before one covers =
    let all = AllHappen-push x next x' (replicate n event) (replicate n reply) event reply before one covers in
    let events = replicate_more n event ∙ ap (λ k. replicate k event) (add-one n) in
    let replies = replicate_more n reply ∙ ap (λ k. replicate k reply) (add-one n) in
    subst (λ es. AllHappen x es (replicate (suc n) reply) x') events (subst (λ rs. AllHappen x (replicate n event ++ event ∷ []) rs x') replies all)

-- a tenant that is where its run is
tenant_at-same : (tenant : Tenant) (r : OpenRun) (u : MachineState) → tenant.run ≡ Some r → tenant.maps ≡ r.state.memory.maps → u ≡ r.state → tenant_at tenant r (r.steps + 0) u ≡ tenant
tenant_at-same tenant r u is_open maps same =
    let with_both : FlatMaps → Option OpenRun → Tenant = λ m o. record { maps = m; programs = tenant.programs; run = o } in
    let whole : with_both r.state.memory.maps (Some r) ≡ tenant = ap (λ m. with_both m (Some r)) (sym maps) ∙ ap (with_both tenant.maps) (sym is_open) in
    rw (same, add-zero r.steps) whole

-- steps, and where they lead
steps-on : (x : System) (t : ℕ) (tenant : Tenant) (r : OpenRun) (n : ℕ) (u : MachineState) (sharing : Sharing) → slice_get x.world t ≡ Some tenant → tenant.run ≡ Some r → tenant.maps ≡ r.state.memory.maps
    → Leads r.program.text r.beginning r.steps (Next r.state) → AreMade (accepted_of r.program) t (reserved_in x) (owned_by x.sharing t tenant).reserve x.frames r.state x.sharing n u sharing → r.steps + n < instructions_of r.program.text
    → AllHappen x (replicate n (Step t)) (replicate n Stepped) (changed_system x t (tenant_at tenant r (r.steps + n) u) sharing) × Leads r.program.text r.beginning (r.steps + n) (Next u) × ((j : ℕ) → shape_in u.memory.maps j ≡ shape_in tenant.maps j)
    × KeepsPins t x.sharing sharing
steps-on x t tenant r zero u sharing there is_open maps reached (here, kept) few =
    let same = tenant_at-same tenant r u is_open maps here in
    let still : changed_system x t (tenant_at tenant r (r.steps + 0) u) sharing ≡ x = ap (λ one. changed_system x t one sharing) same ∙ ap (changed_system x t tenant) kept ∙ changed_system-same x t tenant there in
    (still, rw (add-zero r.steps, here) reached, λ j. ap (λ (state : MachineState). shape_in state.memory.maps j) here ∙ ap (λ m. shape_in m j) (sym maps), λ k other. ap (λ s. pins_of s k) kept)
steps-on x t tenant r (suc n) u sharing there is_open maps reached (v, between, made, last) few =
    let (before, come, shapes, pins) = steps-on x t tenant r n v between there is_open maps reached made (omega (arith, few)) in
    let here = tenant_at tenant r (r.steps + n) v in
    let next = tenant_at tenant r (suc (r.steps + n)) u in
    let one = step-on (changed_system x t here between) t here (run_at r (r.steps + n) v) u sharing (slice_get-set x.world t tenant here there) refl come last.makes last.shares (omega (arith, few)) in
    let twice = changed_system-twice x t here next between sharing in
    let kept : KeepsPins t x.sharing sharing = λ k other. last.others k other ∙ pins k other in
    let covers = subst IsCovered (sym twice) (covered-step x t tenant next sharing there kept last.enough) in
    let all = push-same x (changed_system x t here between) (changed_system (changed_system x t here between) t next sharing) n (Step t) Stepped before one covers in (
      rw (add-suc r.steps n) (subst (λ y. AllHappen x (replicate (suc n) (Step t)) (replicate (suc n) Stepped) y) twice all),
      rw (add-suc r.steps n) (led-more r.program.text r.beginning (r.steps + n) v (Next u) come last.makes),
      λ j. ap (λ m. shape_in m j) last.maps ∙ after_shapes last.need last.value v.memory.maps j ∙ shapes j,
      kept,
    )

-- steps from a memory are steps from the system for which it stands
made-moved : (v p : Accepted) (t all all' mine mine' frames frames' : ℕ) (s : MachineState) (before before' : Sharing) (n : ℕ) (u : MachineState) (after : Sharing) → v ≡ p → all ≡ all' → mine ≡ mine' → frames ≡ frames' → before ≡ before'
    → AreMade v t all mine frames s before n u after → AreMade p t all' mine' frames' s before' n u after
made-moved v p t all all' mine mine' frames frames' s before before' n u after program many own framed shared made =
    subst (λ q. AreMade q t all' mine' frames' s before' n u after) program (
    subst (λ k. AreMade v t k mine' frames' s before' n u after) many (
    subst (λ k. AreMade v t all k frames' s before' n u after) own (
    subst (λ k. AreMade v t all mine k s before' n u after) framed (
    subst (λ sharing. AreMade v t all mine frames s sharing n u after) shared made))))

-- the maps of a tenant are those of its run
maps_of_run : (tenant : Tenant) (r : OpenRun) → IsTenant tenant → tenant.run ≡ Some r → tenant.maps ≡ r.state.memory.maps
maps_of_run tenant r fulfils is_open = subst (λ o. IfSome o (λ one. tenant.maps ≡ one.state.memory.maps)) is_open fulfils.same

-- its run is one of the standard's
run_reached : (tenant : Tenant) (r : OpenRun) → IsTenant tenant → tenant.run ≡ Some r → IsOpenRun r
run_reached tenant r fulfils is_open = subst (λ o. IfSome o IsOpenRun) is_open fulfils.run

-- a kept run's program is the system's
program-same : (programs : List (Option Accepted)) (kept : KeptRun) (r : OpenRun) → EachProgram IsVerified programs → (run : StandsForRun programs kept r) → accepted_of r.program ≡ run.accepted
program-same programs kept r all run = ap accepted_of run.program ∙ accepted-tight run.accepted (verified-at programs kept.program run.accepted all run.numbered)

-- the open run of a kept tenant is under way
pub under-way : (programs : List (Option Accepted)) (kept : KeptRun) (t : ℕ) (memory : MemoryState) (x : System) (tenant : Tenant) (r : OpenRun) → slice_get x.world t ≡ Some tenant
    → StandsForTenant (record { programs = programs; run = Some kept }) tenant → StandsForMemory memory x → tenant.run ≡ Some r → (run : StandsForRun programs kept r)
    → IsUnderWayAt programs kept run.accepted r.state (part memory t)
under-way programs kept t memory x tenant r there stood stands is_open run =
    let owned : part memory t ≡ owned_by x.sharing t tenant = part_stands memory x t tenant stands there in
    let maps : (part memory t).maps ≡ r.state.memory.maps = ap (λ (o : TenantPart). o.maps) owned ∙ maps_of_run tenant r stood.fulfils is_open in
    let same = program-same programs kept r stood.verified run in
    record {
      numbered = run.numbered;
      stands = run.state;
      maps = maps;
      running = ap (λ (o : TenantPart). o.running) owned ∙ ap is_some is_open;
      reserve = ap (λ (o : TenantPart). o.reserve) owned
          ∙ ap (reserve_of (pins_of x.sharing t) tenant.maps) is_open
          ∙ ap (λ v. needed_from v (record { maps = tenant.maps; reserve = 0; running = true; pins = pins_of x.sharing t }) r.state.slot) same
          ∙ sym (ap (λ o. needed_from run.accepted o r.state.slot) owned);
    }

-- a kept run is under way somewhere
pub under-way-kept : (programs : List (Option Accepted)) (kept : KeptRun) (t : ℕ) (memory : MemoryState) → IsKept t (record { programs = programs; run = Some kept }) memory
    → (v : Accepted) × (s : MachineState) × IsUnderWayAt programs kept v s (part memory t)
under-way-kept programs kept t memory (x, tenant, there, stood, stands) =
    let (r, is_open, run) = run-found programs kept tenant.run stood.run in
    (run.accepted, r.state, under-way programs kept t memory x tenant r there stood stands is_open run)

-- in a system steps happen, up to a limit, and leave a tenant and pages for which tenant and memory stand now
abbrev pub MadeSteps : System → ℕ → ℕ → Option Reply → TenantView → MemoryState → Type 0
MadeSteps x t limit last new later =
    (next : Tenant) × (sharing : Sharing) × StandsForTenant new next × StandsForMemory later (changed_system x t next sharing) × StepsHappen x t limit last (changed_system x t next sharing)

-- steps of no run
pub made-no_run : (kept : TenantView) (t limit : ℕ) (memory : MemoryState) → kept.run ≡ None → 0 < limit → ReadsAs memory → HasMadeSteps t kept memory limit (Some (Refused fault.NoRun)) kept memory
made-no_run kept t limit memory closed some reads x tenant there s stands =
    let x' = changed_system x t tenant x.sharing in
    let same = changed_system-same x t tenant there in
    let missing : tenant.run ≡ None = run-missing kept.programs tenant.run (subst (λ r. StandsForAnyRun kept.programs r tenant.run) closed s.run) in
    let refused = Refused fault.NoRun in
    let answers : Answers x refused refused x' = (refl, same) in
    let happens = OfTenant-there x t refused x' (λ one. MatchOption one.run (Answers x refused refused x') (λ r. StepHappens x t one r refused x')) tenant there
    (subst (λ r. MatchOption r (Answers x refused refused x') (λ open_run. StepHappens x t tenant open_run refused x')) (sym missing) answers) in
    let promised = subst (λ found. IfSome found (λ one. IfSome one.run (λ r. IsPromisedOf r t refused x'.world))) (sym there)
    (subst (λ found. IfSome found (λ r. IsPromisedOf r t refused x'.world)) (sym missing) tt) in
    let covers = subst IsCovered (sym same) (covered memory x reads stands) in
    let stands' = subst (StandsForMemory memory) (sym same) stands in
    (tenant, x.sharing, s, stands', (Step t ∷ [], refused ∷ [], (0, some, (λ e. cc), refl, refl), (x', happens, promised, covers, refl)))

-- the tenant after steps that its run goes on from
stood-on : (programs : List (Option Accepted)) (kept after : KeptRun) (tenant : Tenant) (r : OpenRun) (n : ℕ) (u : MachineState)
    → StandsForTenant (record { programs = programs; run = Some kept }) tenant → (run : StandsForRun programs kept r) → after.program ≡ kept.program → StandsFor run.accepted after.run u
    → ((j : ℕ) → shape_in u.memory.maps j ≡ shape_in tenant.maps j) → after.run.steps ≡ n → Leads r.program.text r.beginning n (Next u)
    → StandsForTenant (record { programs = programs; run = Some after }) (tenant_at tenant r n u)
stood-on programs kept after tenant r n u stood run same_program stands shapes counted reached =
    let here : after.run.steps ≤ instructions_before run.accepted.subject.text u.slot = subst (λ slot. after.run.steps ≤ instructions_before run.accepted.subject.text slot) stands.slot stands.steps in
    let below : n ≤ instructions_before r.program.text u.slot = subst (λ q. n ≤ instructions_before q.text u.slot) (sym run.program) (omega (arith, here, counted)) in
    record {
      programs = stood.programs;
      verified = stood.verified;
      shapes = all_have_alike programs tenant.maps u.memory.maps shapes stood.shapes;
      run = record { accepted = run.accepted; numbered = ap (slice_get programs) same_program ∙ run.numbered; program = run.program; state = stands; steps = counted };
      fulfils = record { maps = stands.state.maps; eight = stood.fulfils.eight; run = record { reached = reached; steps = below }; same = refl };
    }

-- what belongs to it
owned-on : (tenant : Tenant) (r : OpenRun) (v : Accepted) (n t : ℕ) (sharing : Sharing) (u : MachineState) → accepted_of r.program ≡ v → part_in v t sharing u ≡ owned_by sharing t (tenant_at tenant r n u)
owned-on tenant r v n t sharing u same = ap (λ p. part_in p t sharing u) (sym same)

-- what is reserved for an open run
mine-open : (sharing : Sharing) (t : ℕ) (tenant : Tenant) (r : OpenRun) → tenant.run ≡ Some r → tenant.maps ≡ r.state.memory.maps → (owned_by sharing t tenant).reserve ≡ needed_in (accepted_of r.program) t sharing r.state
mine-open sharing t tenant r is_open maps =
    ap (reserve_of (pins_of sharing t) tenant.maps) is_open ∙ ap (λ m. reserve_of (pins_of sharing t) m (Some r)) maps

-- the steps of a kept run in its system
made-in : (programs : List (Option Accepted)) (kept : KeptRun) (t n : ℕ) (before : MemoryState) (x : System) (tenant : Tenant) (r : OpenRun) (u : MachineState) (after : Sharing)
    → StandsForTenant (record { programs = programs; run = Some kept }) tenant → StandsForMemory before x → tenant.run ≡ Some r → (run : StandsForRun programs kept r)
    → AreMadeFrom run.accepted r.state n t before u after → AreMade (accepted_of r.program) t (reserved_in x) (owned_by x.sharing t tenant).reserve x.frames r.state x.sharing n u after
made-in programs kept t n before x tenant r u after stood stands is_open run made =
    let v = run.accepted in
    let same = program-same programs kept r stood.verified run in
    let all : reserved_of before ≡ reserved_in x = ap (λ tenants. sum_by (λ (one : Recorded). one.reserve) tenants) stands.recorded ∙ reserved_stands x.sharing 0 x.world in
    let mine : needed_in v t before.sharing r.state ≡ (owned_by x.sharing t tenant).reserve =
    ap (λ s. needed_in v t s r.state) stands.sharing ∙ ap (λ q. needed_in q t x.sharing r.state) (sym same) ∙ sym (mine-open x.sharing t tenant r is_open (maps_of_run tenant r stood.fulfils is_open)) in
    made-moved v (accepted_of r.program) t (reserved_of before) (reserved_in x) (needed_in v t before.sharing r.state) (owned_by x.sharing t tenant).reserve _ x.frames r.state before.sharing x.sharing n u after (sym same) all mine stands.frames stands.sharing made

-- Steps of a kept run in a system in which its tenant stands, and a later memory in which the others stand as they did.
module _ (programs : List (Option Accepted)) (kept : KeptRun) (t n : ℕ) (before later : MemoryState) (x : System) (tenant : Tenant) (r : OpenRun)
    (there : slice_get x.world t ≡ Some tenant) (stood : StandsForTenant (record { programs = programs; run = Some kept }) tenant) (stands : StandsForMemory before x) (is_open : tenant.run ≡ Some r)
    (run : StandsForRun programs kept r) (reads' : ReadsAs later) (others : OtherTenantsUnchanged t before later) (sizes : KeepsSizes before later) where
  -- the run goes on
  module _ (after : KeptRun) (same_program : after.program ≡ kept.program) (made : after.run.steps ≡ kept.run.steps + n) where
    -- steps that ask nothing of its maps
    made-goes_on : IsOn run.accepted r.state n t before after.run later → MadeSteps x t n None (record { programs = programs; run = Some after }) later
    made-goes_on did =
        let u = did.next in
        let v = run.accepted in
        let same = program-same programs kept r stood.verified run in
        let verified = verified-at programs kept.program v stood.verified run.numbered in
        let maps = maps_of_run tenant r stood.fulfils is_open in
        let counted : after.run.steps ≡ r.steps + n = made ∙ ap (λ k. k + n) run.steps in
        let most = some_instruction v after.run u verified did.stands in
        let few : r.steps + n < instructions_of r.program.text = subst (λ q. r.steps + n < instructions_of q.text) (sym run.program) (omega (arith, most, counted)) in
        let led = made-in programs kept t n before x tenant r u later.sharing stood stands is_open run did.reached in
        let (happen, come, shapes, pins) = steps-on x t tenant r n u later.sharing there is_open maps (run_reached tenant r stood.fulfils is_open).reached led few in
        let next = tenant_at tenant r (r.steps + n) u in
        let stood' = stood-on programs kept after tenant r (r.steps + n) u stood run same_program did.stands shapes counted come in
        let stands' = changed_stands before later x t tenant next later.sharing later.sharing stands there sizes.tenants sizes.frames reads' did.stands.state.maps.eight (did.owned ∙ owned-on tenant r v (r.steps + n) t later.sharing u same) others refl in
        (next, later.sharing, stood', stands', (replicate n (Step t), replicate n Stepped, (refl, refl), happen))

    -- steps, and one more that asks something of the tenant's maps
    made-answered : IsAnswered run.accepted r.state n t before after.run later → MadeSteps x t n None (record { programs = programs; run = Some after }) later
    made-answered did =
        let m = did.made in
        let h = did.here in
        let u = did.next in
        let v = run.accepted in
        let last = did.last in
        let same = program-same programs kept r stood.verified run in
        let verified = verified-at programs kept.program v stood.verified run.numbered in
        let maps = maps_of_run tenant r stood.fulfils is_open in
        let counted : after.run.steps ≡ suc (r.steps + m) = let stepped = run.steps in omega (arith, made, last, stepped) in
        let most = some_instruction v after.run u verified did.stands in
        let few : suc (r.steps + m) < instructions_of r.program.text = subst (λ q. suc (r.steps + m) < instructions_of q.text) (sym run.program) (omega (arith, most, counted)) in
        let led = made-in programs kept t m before x tenant r h did.between stood stands is_open run did.reached in
        let (happen, come, shaped, pins) = steps-on x t tenant r m h did.between there is_open maps (run_reached tenant r stood.fulfils is_open).reached led (omega (arith, few)) in
        let makes = subst (λ q. step q.text h ≡ Some (Next u)) (sym run.program) did.makes in
        let middle = tenant_at tenant r (r.steps + m) h in
        let next = tenant_at tenant r (suc (r.steps + m)) u in
        let sharing = sharing_after did.between t (written r.program.text h) in
        let shares : later.sharing ≡ sharing = did.sharing ∙ ap (λ q. sharing_after did.between t (written q.text h)) (sym run.program) in
        let one = step-on (changed_system x t middle did.between) t middle (run_at r (r.steps + m) h) u sharing (slice_get-set x.world t tenant middle there) refl come makes refl few in
        let twice = changed_system-twice x t middle next did.between sharing in
        let shapes : (j : ℕ) → shape_in u.memory.maps j ≡ shape_in tenant.maps j = λ j. ap (λ m. shape_in m j) did.writes ∙ after_shapes did.need did.value h.memory.maps j ∙ shaped j in
        let stood' = stood-on programs kept after tenant r (suc (r.steps + m)) u stood run same_program did.stands shapes counted (led-more r.program.text r.beginning (r.steps + m) h (Next u) come makes) in
        let stands' = changed_stands before later x t tenant next sharing later.sharing stands there sizes.tenants sizes.frames reads' did.stands.state.maps.eight (did.owned ∙ owned-on tenant r v (suc (r.steps + m)) t later.sharing u same) others shares in
        let covers = subst IsCovered (sym twice) (covered later (changed_system x t next sharing) reads' stands') in
        let all = push-same x (changed_system x t middle did.between) (changed_system (changed_system x t middle did.between) t next sharing) m (Step t) Stepped happen one covers in
        let all' = subst (λ y. AllHappen x (replicate (suc m) (Step t)) (replicate (suc m) Stepped) y) twice all in
        (next, sharing, stood', stands', (replicate n (Step t), replicate n Stepped, (refl, refl), subst (λ k. AllHappen x (replicate k (Step t)) (replicate k Stepped) (changed_system x t next sharing)) (sym last) all'))

    made-on : HasDone run.accepted r.state n t before after.run later None → MadeSteps x t n None (record { programs = programs; run = Some after }) later
    made-on (went_on did) = made-goes_on did
    made-on (answered did) = made-answered did

  -- steps, and one more with which the run ends
  module _ (run_after : Running) (steps : ℕ) (made : run_after.steps ≡ kept.run.steps + n) (same_steps : steps ≡ run_after.steps) where
    made-ended : (number : ℕ) → IsEnded run.accepted r.state n t number before run_after later → MadeSteps x t n (Some (Ended number steps)) (record { programs = programs; run = None }) later
    made-ended number did =
        let m = did.made in
        let h = did.here in
        let v = run.accepted in
        let last = did.last in
        let final = h.memory.maps in
        let maps = maps_of_run tenant r stood.fulfils is_open in
        let counted : run_after.steps ≡ suc (r.steps + m) = let stepped = run.steps in omega (arith, made, last, stepped) in
        let few' = did.few in
        let few : suc (r.steps + m) ≤ instructions_of r.program.text = subst (λ q. suc (r.steps + m) ≤ instructions_of q.text) (sym run.program) (omega (arith, few', counted)) in
        let sharing = later.sharing in
        let between = did.between in
        let led = made-in programs kept t m before x tenant r h between stood stands is_open run did.reached in
        let (happen, come, shapes, pins) = steps-on x t tenant r m h between there is_open maps (run_reached tenant r stood.fulfils is_open).reached led (omega (arith, few)) in
        let makes = subst (λ q. step q.text h ≡ Some (Exits number final)) (sym run.program) did.makes in
        let middle = tenant_at tenant r (r.steps + m) h in
        let next = tenant_after tenant final in
        let one = step-last (changed_system x t middle between) t middle (run_at r (r.steps + m) h) number final sharing (slice_get-set x.world t tenant middle there) refl come makes did.sharing few in
        let twice = changed_system-twice x t middle next between sharing in
        let stood' : StandsForTenant (record { programs = programs; run = None }) next = record {
          programs = stood.programs;
          verified = stood.verified;
          shapes = all_have_alike programs tenant.maps final shapes stood.shapes;
          run = tt;
          fulfils = record { maps = did.flat; eight = stood.fulfils.eight; run = tt; same = tt };
        } in
        let owned = owned-idle later t next refl (ap (λ (o : TenantPart). o.maps) did.owned) (ap (λ (o : TenantPart). o.reserve) did.owned) (ap (λ (o : TenantPart). o.running) did.owned) in
        let stands' = changed_stands before later x t tenant next sharing sharing stands there sizes.tenants sizes.frames reads' stood'.fulfils.maps.eight owned others refl in
        let covers = subst IsCovered (sym twice) (covered later (changed_system x t next sharing) reads' stands') in
        let all = AllHappen-push x (changed_system x t middle between) (changed_system (changed_system x t middle between) t next sharing) (replicate m (Step t)) (replicate m Stepped) (Step t) (Ended number (suc (r.steps + m))) happen one covers in
        let all' = subst (λ y. AllHappen x (replicate m (Step t) ++ Step t ∷ []) (replicate m Stepped ++ Ended number (suc (r.steps + m)) ∷ []) y) twice all in
        let says : suc (r.steps + m) ≡ steps = sym counted ∙ sym same_steps in
        let happened = subst (λ k. AllHappen x (replicate m (Step t) ++ Step t ∷ []) (replicate m Stepped ++ Ended number k ∷ []) (changed_system x t next sharing)) says all' in
        (next, sharing, stood', stands', (replicate m (Step t) ++ Step t ∷ [], replicate m Stepped ++ Ended number steps ∷ [], (m, omega (arith, last), (λ e. cc), refl, refl), happened))

    made-off : (number : ℕ) → HasDone run.accepted r.state n t before run_after later (Some number) → MadeSteps x t n (Some (Ended number steps)) (record { programs = programs; run = None }) later
    made-off number (ended k did) = made-ended k did

-- steps that were made in one go, after which a kept run goes on
pub made-steps : (programs : List (Option Accepted)) (kept after : KeptRun) (t limit steps : ℕ) (before later : MemoryState)
    → ReadsAs before → ReadsAs later → OtherTenantsUnchanged t before later → KeepsSizes before later → after.program ≡ kept.program → kept.run.steps + steps ≡ after.run.steps
    → ((v : Accepted) (s : MachineState) → IsUnderWayAt programs kept v s (part before t) → HasAdvanced v s t limit kept.run before None after.run later)
    → HasMadeSteps t (record { programs = programs; run = Some kept }) before steps None (record { programs = programs; run = Some after }) later
made-steps programs kept after t limit steps before later reads reads' others sizes same_program counted advanced x tenant there stood stands =
    let (r, is_open, run) = run-found programs kept tenant.run stood.run in
    let (n, some, few, made, done) = advanced run.accepted r.state (under-way programs kept t before x tenant r there stood stands is_open run) in
    let whole : n ≡ steps = omega (arith, made, counted) in
    subst (λ k. MadeSteps x t k None (record { programs = programs; run = Some after }) later) whole
    (made-on programs kept t n before later x tenant r there stood stands is_open run reads' others sizes after same_program made done)

-- steps that were made in one go, with the last of which it ended
pub made-last_step : (programs : List (Option Accepted)) (kept : KeptRun) (run_after : Running) (t limit number made total : ℕ) (before later : MemoryState)
    → ReadsAs before → ReadsAs later → OtherTenantsUnchanged t before later → KeepsSizes before later → kept.run.steps + made ≡ run_after.steps → total ≡ run_after.steps
    → ((v : Accepted) (s : MachineState) → IsUnderWayAt programs kept v s (part before t) → HasAdvanced v s t limit kept.run before (Some number) run_after later)
    → HasMadeSteps t (record { programs = programs; run = Some kept }) before made (Some (Ended number total)) (record { programs = programs; run = None }) later
made-last_step programs kept run_after t limit number made total before later reads reads' others sizes counted same_steps advanced x tenant there stood stands =
    let (r, is_open, run) = run-found programs kept tenant.run stood.run in
    let (n, some, few, stepped, done) = advanced run.accepted r.state (under-way programs kept t before x tenant r there stood stands is_open run) in
    let whole : n ≡ made = omega (arith, stepped, counted) in
    subst (λ k. MadeSteps x t k (Some (Ended number total)) (record { programs = programs; run = None }) later) whole
    (made-off programs kept t n before later x tenant r there stood stands is_open run reads' others sizes run_after total stepped same_steps number done)

-- a kept run that advanced made one step at least, and no more than its limit
pub advanced-some : (programs : List (Option Accepted)) (kept : KeptRun) (after : Running) (t limit : ℕ) (last : Option ℕ) (before later : MemoryState)
    → IsKept t (record { programs = programs; run = Some kept }) before
    → ((v : Accepted) (s : MachineState) → IsUnderWayAt programs kept v s (part before t) → HasAdvanced v s t limit kept.run before last after later)
    → (kept.run.steps < after.steps) × (after.steps ≤ kept.run.steps + limit)
advanced-some programs kept after t limit last before later is advanced =
    let (v, s, under) = under-way-kept programs kept t before is in
    let (n, some, few, made, done) = advanced v s under in
    (omega (arith, some, made), omega (arith, few, made))

-- a tenant as it is seen, with its open run
pub kept-open : (kept : TenantView) (programs : List (Option Accepted)) (run : Option KeptRun) (open_run : KeptRun) (t : ℕ) (memory : MemoryState) → record { programs = programs; run = run } ≡ kept → run ≡ Some open_run
    → IsKept t kept memory → IsKept t (record { programs = programs; run = Some open_run }) memory
kept-open kept programs run open_run t memory seen is_open is =
    subst (λ r. IsKept t (record { programs = programs; run = r }) memory) is_open (subst (λ old. IsKept t old memory) (sym seen) is)

pub made-open : (kept new : TenantView) (programs : List (Option Accepted)) (run : Option KeptRun) (open_run : KeptRun) (t steps : ℕ) (last : Option Reply) (before later : MemoryState) → record { programs = programs; run = run } ≡ kept → run ≡ Some open_run
    → HasMadeSteps t (record { programs = programs; run = Some open_run }) before steps last new later → HasMadeSteps t kept before steps last new later
made-open kept new programs run open_run t steps last before later seen is_open made =
    subst (λ old. HasMadeSteps t old before steps last new later) seen (subst (λ r. HasMadeSteps t (record { programs = programs; run = r }) before steps last new later) (sym is_open) made)

-- how many steps it made
pub steps-open : (kept : TenantView) (programs : List (Option Accepted)) (run : Option KeptRun) (open_run : KeptRun) → record { programs = programs; run = run } ≡ kept → run ≡ Some open_run → steps_of kept.run ≡ open_run.run.steps
steps-open kept programs run open_run seen is_open = ap (λ (old : TenantView). steps_of old.run) (sym seen) ∙ ap steps_of is_open
