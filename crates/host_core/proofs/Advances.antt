-- What an open run does in one go, by what it asked in the end.
use Rattle.std.proofs.Common.{◌≡◌, ℕ, zero, suc, ◌+◌, ◌<◌, ◌≤◌, min, ◌==◌, inl, inr, Bool, true, false, if◌then◌else◌, List, [], length, replicate, sum_by, get_or, Option, Some, None, sym, ap, refl, ◌∙◌, subst, arith}
use Rattle.std.specs.List.{slice_get}
use Rattle.std.proofs.lemmas.Option.{get_or_from_slice_get}
use Rattle.host_types.specs.Helpers.{update_answer, element_at}
use Rattle.host_types.specs.Memory.{FlatMap, FlatMaps, map_at}
use Rattle.host_types.specs.Pins.{released as pins_released}
use Rattle.host_types.specs.Sharing.{Sharing, frames_free}
use Rattle.host_types.specs.Tenant.{TenantPart}
use Rattle.bpf_decode.specs.Text.{instructions_of, instructions_before}
use Rattle.page_table.specs.declared.tenant.Tenant.{Tenant as Recorded}
use Rattle.page_table.specs.Changes.{with_reserve, with_record, without_run, KeepsSettings}
use Rattle.page_table.specs.Reads.{ReadsAs}
use Rattle.page_table.specs.State.{MemoryState, part, have_of, free_of}
use Rattle.write_break.specs.Stores.{stored_sharing}
use Rattle.map_helpers.specs.Updates.{sharing_in}
use Rattle.verifier.specs.Reserve.{reserve_from}
use Rattle.verifier.specs.Writes.{writes_from}
use Rattle.verifier.specs.Verified.{Accepted, IsVerified}
use Rattle.admission.specs.Reserve.{needed_by, needed_from}
use Rattle.admission.proofs.Falling.{needed_falls}
use Rattle.bpf_decode.specs.Opcodes.{byte_count}
use Rattle.interp.specs.declared.need.Need.{Need}
use Rattle.interp.specs.declared.need.Need.TheVariants.{Private, Ended, Load, Store, Lookup, Update, Delete}
use Rattle.interp.specs.Machine.{MachineState, Next, step}
use Rattle.interp.specs.Needs.{map_of, answer_of, maps_after}
use Rattle.interp.specs.OnMaps.{HasRoom, IsRoomy, StandsOn, IsFulfilled, ReachesOn, FollowsOn}
use Rattle.interp.specs.StandsFor.{Running, StandsFor, Asks, value_of}
use Rattle.interp.specs.Written.{written, written_by}
use Rattle.tenant_runs.specs.Fulfilment.{sharing_fulfilled}
use Rattle.tenant_runs.specs.Storing.{maps_of_part, HasStoreFrames, HasStored}
use Rattle.tenant_runs.specs.UnderWay.{IsUnderWay, IsAsking, part_with_have}
use Rattle.tenant_runs.proofs.OnMaps.{Keeps, steps_keep}
use Rattle.tenant_runs.proofs.Roomy.{answered_slot}
use Rattle.host_core.specs.declared.tenant.OpenRun.{OpenRun as KeptRun}
use Rattle.host_core.specs.World.{pins_of}
use Rattle.host_core.specs.Happens.{sharing_after}
pub use Rattle.host_core.specs.Batches.{IsStarted}
use Rattle.host_core.specs.Batches.{IsUnderWayAt, HasAdvanced, AreMade, AreMadeFrom, KeepsPins, IsAnswered, went_on, answered, ended, needed_in, part_in, reserved_of}
use Rattle.host_core.proofs.Instructions.{instructions_before-within}

-- the program that was taken is the one that stands at the index
pub program_is : (programs : List (Option Accepted)) (k : ℕ) (taken : Option Accepted) (program v : Accepted) → taken ≡ get_or programs k taken → taken ≡ Some program → slice_get programs k ≡ Some (Some v) → program ≡ v
program_is programs k taken program v read is numbered =
    let found : taken ≡ Some v = read ∙ get_or_from_slice_get programs k (Some v) taken numbered in
    cc

-- a run that stands for a state has an instruction before it, so that its program has one
pub some_instruction : (v : Accepted) (run : Running) (s : MachineState) → IsVerified v → StandsFor v run s → run.steps < instructions_of v.subject.text
some_instruction v run s verified stands =
    let within = instructions_before-within v.subject.text s.slot (verified.lawful.instructions s.slot stands.description stands.found) in
    let few = subst (λ slot. run.steps ≤ instructions_before v.subject.text slot) stands.slot stands.steps in
    omega (arith, within, few)

-- what a memory's part of a tenant is pinned by
pins_of_part : (memory : MemoryState) (t : ℕ) → (part memory t).pins ≡ pins_of memory.sharing t
unfolding part
pins_of_part memory t = refl

-- what an open run may need that stands for a state, by the tenant's part
pub needed_of_part : (v : Accepted) (t : ℕ) (memory : MemoryState) (s : MachineState) → (part memory t).maps ≡ s.memory.maps → needed_from v (part memory t) s.slot ≡ needed_in v t memory.sharing s
needed_of_part v t memory s maps =
    ap (λ (m : FlatMaps). needed_from v (record { maps = m; reserve = 0; running = true; pins = (part memory t).pins }) s.slot) maps
    ∙ ap (λ (pins : List Bool). needed_from v (record { maps = s.memory.maps; reserve = 0; running = true; pins = pins }) s.slot) (pins_of_part memory t)

pub started : (programs : List (Option Accepted)) (kept : KeptRun) (v : Accepted) (s : MachineState) (t : ℕ) (before released : MemoryState) → IsUnderWayAt programs kept v s (part before t) → ReadsAs before → ReadsAs released
    → part released t ≡ with_reserve 0 (part before t) → have_of released + 0 ≡ have_of before + (part before t).reserve → released ≡ with_record before t 0 → IsStarted v t s before released
started programs kept v s t before released under reads reads' recorded have all =
    let maps : maps_of_part t released ≡ s.memory.maps = ap (λ (owned : TenantPart). owned.maps) recorded ∙ under.maps in
    let sharing : released.sharing ≡ before.sharing = ap (λ (memory : MemoryState). memory.sharing) all in
    let frames : length released.arena ≡ length before.arena = ap (λ (memory : MemoryState). length memory.arena) all in
    let free : free_of released ≡ free_of before = ap (λ (memory : MemoryState). free_of memory) all in
    let most = reads.reserved in
    let least = reads'.reserved in
    let own : (part before t).reserve ≡ needed_in v t before.sharing s = under.reserve ∙ needed_of_part v t before s under.maps in
    let running : (part released t).running ≡ true = ap (λ (owned : TenantPart). owned.running) recorded ∙ under.running in
    record {
      sharing = sharing;
      frames = frames;
      eight = ap length maps ∙ under.stands.state.maps.eight;
      all = omega (arith, have, most, least, free, own);
      reads = reads';
      roomy = record {
        maps = maps;
        room = λ less fewer few among.
            let same : needed_by less fewer (part released t) ≡ needed_by less fewer (part before t) = ap (needed_by less fewer) recorded in
            let falls : needed_by less fewer (part before t) ≤ needed_from v (part before t) s.slot = needed_falls (reserve_from v s.slot) less (writes_from v s.slot) fewer (part before t) few among in
            let reserve = under.reserve in
            record { running = running; frames = omega (arith, same, falls, reserve, have) };
      };
    }

-- what steps that are fulfilled make of a memory
record IsChained (v : Accepted) (t all mine : ℕ) (s : MachineState) (first : MemoryState) (n : ℕ) (u : MachineState) (memory : MemoryState) : Type 0 where
  made : AreMade v t all mine (length first.arena) s first.sharing n u memory.sharing
  maps : maps_of_part t memory ≡ u.memory.maps
  room : HasRoom (HasStoreFrames t) memory (reserve_from v u.slot) (writes_from v u.slot)
  reads : ReadsAs memory
  settings : KeepsSettings first memory

-- as many frames are free as are reserved for the others and the rest of the run may need
enough_free : (all mine least : ℕ) (first memory : MemoryState) → all ≡ reserved_of first + mine → KeepsSettings first memory → ReadsAs memory → least ≤ have_of memory → all + least ≤ frames_free (length first.arena) memory.sharing + mine
enough_free all mine least first memory whole settings reads room =
    let most = reads.reserved in
    let reserved : reserved_of memory ≡ reserved_of first = ap (λ tenants. sum_by (λ (tenant : Recorded). tenant.reserve) tenants) settings.tenants in
    let free : free_of memory ≡ frames_free (length first.arena) memory.sharing = ap (λ k. frames_free k memory.sharing) settings.frames in
    omega (arith, whole, most, reserved, free, room)

-- what the rest of the run may need may be had
room_had : (v : Accepted) (t : ℕ) (u : MachineState) (memory : MemoryState) → maps_of_part t memory ≡ u.memory.maps → HasRoom (HasStoreFrames t) memory (reserve_from v u.slot) (writes_from v u.slot) → needed_in v t memory.sharing u ≤ have_of memory
room_had v t u memory maps room =
    let has = room (reserve_from v u.slot) (writes_from v u.slot) (omega arith) (λ m writes. writes) in
    let frames = has.frames in
    let same = needed_of_part v t memory u maps in
    omega (arith, frames, same)

-- one step more of such a chain, by what it asks and what the memory is after it
linked : (v : Accepted) (t all mine : ℕ) (s : MachineState) (first : MemoryState) (n : ℕ) (w u : MachineState) (between memory : MemoryState) → all ≡ reserved_of first + mine
    → IsChained v t all mine s first n w between → step v.subject.text w ≡ Some (Next u) → (need : Need) → u.memory.maps ≡ maps_after need [] w.memory.maps
    → memory.sharing ≡ sharing_after between.sharing t (written v.subject.text w) → KeepsPins t between.sharing memory.sharing → maps_of_part t memory ≡ u.memory.maps
    → HasRoom (HasStoreFrames t) memory (reserve_from v u.slot) (writes_from v u.slot) → ReadsAs memory → KeepsSettings first memory → IsChained v t all mine s first (suc n) u memory
linked v t all mine s first n w u between memory whole before makes need changes shares others maps room reads settings =
    let enough = enough_free all mine (needed_in v t memory.sharing u) first memory whole settings reads (room_had v t u memory maps room) in
    record {
      made = (w, between.sharing, before.made, record { makes = makes; need = need; value = []; maps = changes; shares = shares; others = others; enough = enough });
      maps = maps;
      room = room;
      reads = reads;
      settings = settings;
    }

chained : (v : Accepted) (t all mine : ℕ) (s : MachineState) (first : MemoryState) (n : ℕ) (u : MachineState) (memory : MemoryState) → ReadsAs first → all ≡ reserved_of first + mine → IsRoomy (maps_of_part t) (HasStoreFrames t) v s first
    → ReachesOn (HasStored t) v s first n u memory → IsChained v t all mine s first n u memory
chained v t all mine s first zero u memory reads whole roomy (here, same) =
    rw (here, same) record { made = (refl, refl); maps = roomy.maps; room = roomy.room; reads = reads; settings = record { tenants = refl; frames = refl } }
chained v t all mine s first (suc n) u memory reads whole roomy (w, between, reaches, makes, found_open) = by (chained v t all mine s first n w between reads whole roomy reaches) found_open
  where
    by : IsChained v t all mine s first n w between → IsFulfilled (HasStored t) v w between u memory → IsChained v t all mine s first (suc n) u memory
    by before (inl private) =
        let same = private.same in
        let fewer = private.less in
        let less = fewer.reserve in
        let room : HasRoom (HasStoreFrames t) memory (reserve_from v u.slot) (writes_from v u.slot) =
        rw same (λ some few small among. before.room some few (omega (arith, small, less)) (λ m is. fewer.fewer m (among m is))) in
        linked v t all mine s first n w u between memory whole before makes Private private.maps
        (ap (λ (m : MemoryState). m.sharing) same ∙ ap (sharing_after between.sharing t) (sym private.quiet)) (λ k other. ap (λ (m : MemoryState). pins_of m.sharing k) same)
        (rw same (before.maps ∙ sym private.maps)) room (rw same before.reads) (rw same before.settings)
    by before (inr stores) =
        let stored = stores.stored in
        let charged = stores.charged in
        let has = before.room (1 + reserve_from v u.slot) (writes_from v w.slot) charged (λ m is. is) in
        let need = Store stores.map stores.at stores.size stores.number in
        let shares = stored.sharing ∙ ap (λ (b : Bool). stored_sharing b between.sharing t stores.map stores.at (byte_count stores.size)) has.running
        ∙ ap (sharing_after between.sharing t) (sym stores.writes) in
        let others : KeepsPins t between.sharing memory.sharing = λ k other. sym (pins_of_part memory k) ∙ ap (λ (owned : TenantPart). owned.pins) (stored.others k other) ∙ pins_of_part between k in
        let maps = ap (λ (owned : TenantPart). owned.maps) stored.owned ∙ ap (maps_after need []) before.maps ∙ sym stores.maps in
        let room : HasRoom (HasStoreFrames t) memory (reserve_from v u.slot) (writes_from v u.slot) =
        λ some few small among. stored.room some (writes_from v w.slot) few stores.among (λ m is. stores.fewer m (among m is))
        (before.room (1 + some) (writes_from v w.slot) (omega (arith, small, charged)) (λ m is. is)) in
        linked v t all mine s first n w u between memory whole before makes need stores.maps shares others maps room stored.reads
        (record { tenants = stored.settings.tenants ∙ before.settings.tenants; frames = stored.settings.frames ∙ before.settings.frames })

-- so they are steps from the memory with what was reserved
made_from : (v : Accepted) (s : MachineState) (n t : ℕ) (before released : MemoryState) (u : MachineState) (memory : MemoryState) → IsStarted v t s before released → ReachesOn (HasStored t) v s released n u memory → AreMadeFrom v s n t before u memory.sharing
made_from v s n t before released u memory start reaches =
    let mine : ℕ = needed_in v t before.sharing s in
    let whole = chained v t (reserved_of before) mine s released n u memory start.reads start.all start.roomy reaches in
    let framed = subst (λ k. AreMade v t (reserved_of before) mine k s released.sharing n u memory.sharing) start.frames whole.made in
    subst (λ sharing. AreMade v t (reserved_of before) mine (length before.arena) s sharing n u memory.sharing) start.sharing framed

-- the run stands where it starts
pub stands_at : (programs : List (Option Accepted)) (kept : KeptRun) (v : Accepted) (s : MachineState) (t : ℕ) (before released : MemoryState) → IsUnderWayAt programs kept v s (part before t) → IsStarted v t s before released → StandsOn (maps_of_part t) (HasStoreFrames t) v kept.run s released
stands_at programs kept v s t before released under start = record { stands = under.stands; roomy = start.roomy }

-- a tenant still has eight entries for maps
still_eight : (v : Accepted) (t : ℕ) (s : MachineState) (before released : MemoryState) (n : ℕ) (u : MachineState) (memory : MemoryState) → IsStarted v t s before released → ReachesOn (HasStored t) v s released n u memory → length (part memory t).maps ≡ 8
still_eight v t s before released n u memory start reaches = (steps_keep v t s released n u memory reaches).maps ∙ start.eight

-- what is asked of a run that neither goes on nor ends
pub record IsAskedAt (v : Accepted) (t : ℕ) (s : MachineState) (n : ℕ) (need : Need) (run : Running) (released memory : MemoryState) : Type 0 where
  pub made : ℕ
  pub here : MachineState
  pub last : n ≡ suc made
  pub reached : ReachesOn (HasStored t) v s released made here memory
  pub roomy : IsRoomy (maps_of_part t) (HasStoreFrames t) v here memory
  pub asks : Asks v here need run

asked_by : (v : Accepted) (t : ℕ) (s : MachineState) (n : ℕ) (need : Need) (run : Running) (released memory : MemoryState) → (made : ℕ) × (here : MachineState) × (n ≡ suc made) × ReachesOn (HasStored t) v s released made here memory
    × IsRoomy (maps_of_part t) (HasStoreFrames t) v here memory × Asks v here need run → IsAskedAt v t s n need run released memory
asked_by v t s n need run released memory (made, here, last, reached, roomy, asks) = record { made = made; here = here; last = last; reached = reached; roomy = roomy; asks = asks }

pub asked_at : (v : Accepted) (t : ℕ) (s : MachineState) (n : ℕ) (need : Need) (run : Running) (released memory : MemoryState) → (need ≡ Private → ⊥) → ((number : ℕ) → need ≡ Ended number → ⊥)
    → FollowsOn (maps_of_part t) (HasStoreFrames t) (HasStored t) v s released n need run memory → IsAskedAt v t s n need run released memory
asked_at v t s n Private run released memory some going follows = absurd (some refl)
asked_at v t s n (Ended number) run released memory some going follows = absurd (going number refl)
asked_at v t s n (Load m at size) run released memory some going follows = absurd follows
asked_at v t s n (Store m at size number) run released memory some going follows = absurd follows
asked_at v t s n (Lookup m key) run released memory some going follows = absurd follows
asked_at v t s n (Update m key flags) run released memory some going follows = asked_by v t s n (Update m key flags) run released memory follows
asked_at v t s n (Delete m key) run released memory some going follows = asked_by v t s n (Delete m key) run released memory follows

-- so it is an update or a deletion
pub asks_to_change : (v : Accepted) (t : ℕ) (s : MachineState) (n : ℕ) (need : Need) (run : Running) (released memory : MemoryState) → (need ≡ Private → ⊥) → ((number : ℕ) → need ≡ Ended number → ⊥)
    → ((m key flags : ℕ) → need ≡ Update m key flags → ⊥) → ((m key : ℕ) → need ≡ Delete m key → ⊥)
    → FollowsOn (maps_of_part t) (HasStoreFrames t) (HasStored t) v s released n need run memory → ⊥
asks_to_change v t s n Private run released memory some going update delete follows = some refl
asks_to_change v t s n (Ended number) run released memory some going update delete follows = going number refl
asks_to_change v t s n (Load m at size) run released memory some going update delete follows = follows
asks_to_change v t s n (Store m at size number) run released memory some going update delete follows = follows
asks_to_change v t s n (Lookup m key) run released memory some going update delete follows = follows
asks_to_change v t s n (Update m key flags) run released memory some going update delete follows = update m key flags refl
asks_to_change v t s n (Delete m key) run released memory some going update delete follows = delete m key refl

-- it asks of its tenant's part
pub asking_at : (v : Accepted) (t : ℕ) (s : MachineState) (n : ℕ) (need : Need) (run : Running) (before released memory : MemoryState) → IsStarted v t s before released → (asked : IsAskedAt v t s n need run released memory) → IsAsking v asked.here need run (part_with_have memory t)
asking_at v t s n need run before released memory start asked =
    let has = asked.roomy.room (reserve_from v asked.here.slot) (writes_from v asked.here.slot) (omega arith) (λ m writes. writes) in
    let frames = has.frames in
    record {
      asks = asked.asks;
      eight = still_eight v t s before released asked.made asked.here memory start asked.reached;
      maps = asked.roomy.maps;
      running = has.running;
      reserve = omega (arith, frames);
    }

-- what is kept until it asks, goes on or ends
pub kept_on : (v : Accepted) (t : ℕ) (s : MachineState) (n : ℕ) (need : Need) (run : Running) (before released memory : MemoryState) → IsStarted v t s before released → FollowsOn (maps_of_part t) (HasStoreFrames t) (HasStored t) v s released n need run memory
    → Keeps t released memory × (length (part memory t).maps ≡ 8)
kept_on v t s n Private run before released memory start (next, reaches, on) = (steps_keep v t s released n next memory reaches, still_eight v t s before released n next memory start reaches)
kept_on v t s n (Ended number) run before released memory start (made, here, last, reaches, same, makes, flat, few) = (steps_keep v t s released made here memory reaches, still_eight v t s before released made here memory start reaches)
kept_on v t s n (Load m at size) run before released memory start follows = absurd follows
kept_on v t s n (Store m at size number) run before released memory start follows = absurd follows
kept_on v t s n (Lookup m key) run before released memory start follows = absurd follows
kept_on v t s n (Update m key flags) run before released memory start (made, here, last, reaches, roomy, asks) = (steps_keep v t s released made here memory reaches, still_eight v t s before released made here memory start reaches)
kept_on v t s n (Delete m key) run before released memory start (made, here, last, reaches, roomy, asks) = (steps_keep v t s released made here memory reaches, still_eight v t s before released made here memory start reaches)

-- what the rest of a run may need may be had
pub private_room : (v : Accepted) (t : ℕ) (s : MachineState) (n : ℕ) (run : Running) (released memory : MemoryState) → FollowsOn (maps_of_part t) (HasStoreFrames t) (HasStored t) v s released n Private run memory → needed_from v (part memory t) run.slot ≤ have_of memory
private_room v t s n run released memory (next, reaches, on) =
    let has = on.roomy.room (reserve_from v next.slot) (writes_from v next.slot) (omega arith) (λ m writes. writes) in
    rw on.stands.slot has.frames

-- the part of a tenant for whose run just what it may need is reserved
pub part_recorded : (v : Accepted) (t : ℕ) (next : MachineState) (after : MemoryState) → (part after t).maps ≡ next.memory.maps → (part after t).running ≡ true → (part after t).reserve ≡ needed_from v (part after t) next.slot → part after t ≡ part_in v t after.sharing next
part_recorded v t next after maps running reserve =
    let own : (part after t).reserve ≡ needed_in v t after.sharing next = reserve ∙ needed_of_part v t after next maps in
    ap (λ m. record { maps = m; reserve = (part after t).reserve; running = (part after t).running; pins = (part after t).pins }) maps
    ∙ ap (λ n. record { maps = next.memory.maps; reserve = n; running = (part after t).running; pins = (part after t).pins }) own
    ∙ ap (λ b. record { maps = next.memory.maps; reserve = needed_in v t after.sharing next; running = b; pins = (part after t).pins }) running
    ∙ ap (λ pins. record { maps = next.memory.maps; reserve = needed_in v t after.sharing next; running = true; pins = pins }) (pins_of_part after t)

-- steps after which just what is left of the run is reserved
pub private_advanced : (programs : List (Option Accepted)) (kept : KeptRun) (v : Accepted) (s : MachineState) (t limit many : ℕ) (run : Running) (before released memory after : MemoryState)
    → IsUnderWayAt programs kept v s (part before t) → IsStarted v t s before released → IsVerified v → 0 < limit → many ≡ min (instructions_of v.subject.text) limit
    → (n : ℕ) × FollowsOn (maps_of_part t) (HasStoreFrames t) (HasStored t) v s released n Private run memory × (run.steps ≡ kept.run.steps + n) → run.steps ≡ kept.run.steps + many
    → part after t ≡ with_reserve (needed_from v (part memory t) run.slot) (part memory t) → after.sharing ≡ memory.sharing
    → HasAdvanced v s t limit kept.run before None run after
private_advanced programs kept v s t limit many run before released memory after under start verified some least (n, (next, reaches, on), made) whole recorded sharing =
    let more = some_instruction v kept.run s verified under.stands in
    let has = on.roomy.room (reserve_from v next.slot) (writes_from v next.slot) (omega arith) (λ m writes. writes) in
    let reserve : (part after t).reserve ≡ needed_from v (part after t) next.slot =
    ap (λ (o : TenantPart). o.reserve) recorded ∙ ap (needed_from v (part memory t)) on.stands.slot ∙ sym (ap (λ o. needed_from v o next.slot) recorded) in
    let owned : part after t ≡ part_in v t after.sharing next =
    part_recorded v t next after (ap (λ (o : TenantPart). o.maps) recorded ∙ on.roomy.maps) (ap (λ (o : TenantPart). o.running) recorded ∙ has.running) reserve in
    let reached = subst (AreMadeFrom v s n t before next) (sym sharing) (made_from v s n t before released next memory start reaches) in (
      n,
      omega (arith, made, whole, least, more, some),
      omega (arith, made, whole, least),
      made,
      went_on (record { next = next; reached = reached; stands = on.stands; owned = owned }),
    )

-- steps with the last of which the run ends
pub ended_advanced : (programs : List (Option Accepted)) (kept : KeptRun) (v : Accepted) (s : MachineState) (t limit many number : ℕ) (run : Running) (before released memory after : MemoryState)
    → IsStarted v t s before released → many ≡ min (instructions_of v.subject.text) limit
    → (n : ℕ) × FollowsOn (maps_of_part t) (HasStoreFrames t) (HasStored t) v s released n (Ended number) run memory × (run.steps ≡ kept.run.steps + n) → run.steps ≤ kept.run.steps + many
    → part after t ≡ without_run (part memory t) → after.sharing ≡ pins_released memory.sharing t
    → HasAdvanced v s t limit kept.run before (Some number) run after
ended_advanced programs kept v s t limit many number run before released memory after start least (n, (made, here, last, reaches, same, makes, flat, few), counted) most recorded sharing =
    let owned : part after t ≡ without_run (part_in v t memory.sharing here) = recorded ∙ ap (λ m. record { maps = m; reserve = 0; running = false; pins = replicate 2048 false }) same in
    let reached = made_from v s made t before released here memory start reaches in (
      n,
      omega (arith, last),
      omega (arith, counted, most, least),
      counted,
      ended number (record { made = made; last = last; here = here; between = memory.sharing; reached = reached; makes = makes; flat = flat; few = few; owned = owned; sharing = sharing }),
    )

-- the pages of an update are those of its value, where it writes one
update_shares : (sharing : Sharing) (t m key flags : ℕ) (flat : FlatMap) (b : Bool)
    → (if b then stored_sharing true sharing t m (element_at flat.shape key) flat.shape.value_size else sharing)
    ≡ sharing_after sharing t (if b then Some (record { map = m; at = element_at flat.shape key; size = flat.shape.value_size }) else None)
update_shares sharing t m key flags flat true = refl
update_shares sharing t m key flags flat false = refl

-- the pages that are broken are those of the bytes that are written, by an open run
pub shares_alike : (owned : TenantPart) (sharing : Sharing) (t : ℕ) (need : Need) (flat : FlatMap) → owned.running ≡ true → map_at owned.maps (map_of need) ≡ Some flat → sharing_fulfilled owned sharing t need ≡ sharing_after sharing t (written_by need flat)
unfolding sharing_in
shares_alike owned sharing t Private flat running there = refl
shares_alike owned sharing t (Ended number) flat running there = refl
shares_alike owned sharing t (Load m at size) flat running there = refl
shares_alike owned sharing t (Store m at size number) flat running there = ap (λ (b : Bool). stored_sharing b sharing t m at (byte_count size)) running
shares_alike owned sharing t (Lookup m key) flat running there = refl
shares_alike owned sharing t (Delete m key) flat running there = refl
shares_alike owned sharing t (Update m key flags) flat running there = rw (there, running) (update_shares sharing t m key flags flat (update_answer flat.shape key flags == 0))

-- what is asked in the last of some steps is answered, and the run goes on
pub answer_made : (v : Accepted) (s here : MachineState) (t n made : ℕ) (need : Need) (run after_run : Running) (before memory after : MemoryState)
    → n ≡ suc made → AreMadeFrom v s made t before here memory.sharing → (asks : Asks v here need run) → IsAsking v here need run (part_with_have memory t)
    → ((u : MachineState) → IsAsking v u need run (part_with_have memory t) → (next : MachineState) × (step v.subject.text u ≡ Some (Next next)) × IsUnderWay v after_run next (part after t))
    → (part after t).reserve ≡ needed_from v (part after t) run.slot → after.sharing ≡ sharing_fulfilled (part memory t) memory.sharing t need
    → IsAnswered v s n t before after_run after
answer_made v s here t n made need run after_run before memory after last reached asks asking goes reserve sharing =
    let (next, makes, way) = goes here asking in
    let alike : Some (Next next) ≡ Some (Next asks.next) = sym makes ∙ asks.makes in
    let same : next ≡ asks.next = cc in
    let slot : run.slot ≡ next.slot = sym (answered_slot run.awaited run (answer_of need asks.flat)) ∙ asks.stands.slot ∙ ap (λ (u : MachineState). u.slot) (sym same) in
    let owned : part after t ≡ part_in v t after.sharing next = part_recorded v t next after way.maps way.running (reserve ∙ ap (needed_from v (part after t)) slot) in
    let there : map_at (part memory t).maps (map_of need) ≡ Some asks.flat = ap (λ maps. map_at maps (map_of need)) asking.maps ∙ asks.there in
    record {
      made = made;
      last = last;
      here = here;
      between = memory.sharing;
      reached = reached;
      next = next;
      makes = makes;
      need = need;
      value = value_of run;
      writes = ap (λ (u : MachineState). u.memory.maps) same ∙ asks.maps;
      stands = way.stands;
      owned = owned;
      sharing = sharing ∙ shares_alike (part memory t) memory.sharing t need asks.flat asking.running there ∙ ap (sharing_after memory.sharing t) (sym asks.writes);
    }

-- steps, and one more that asks, with its answer
pub asked_advanced : (kept : KeptRun) (v : Accepted) (s : MachineState) (t limit many : ℕ) (need : Need) (run after_run : Running) (before released memory after : MemoryState)
    → IsStarted v t s before released → many ≡ min (instructions_of v.subject.text) limit
    → (need ≡ Private → ⊥) → ((number : ℕ) → need ≡ Ended number → ⊥)
    → (n : ℕ) × FollowsOn (maps_of_part t) (HasStoreFrames t) (HasStored t) v s released n need run memory × (run.steps ≡ kept.run.steps + n) → run.steps ≤ kept.run.steps + many
    → ((here : MachineState) → IsAsking v here need run (part_with_have memory t) → (next : MachineState) × (step v.subject.text here ≡ Some (Next next)) × IsUnderWay v after_run next (part after t))
    → (part after t).reserve ≡ needed_from v (part after t) run.slot → after_run.steps ≡ run.steps → after.sharing ≡ sharing_fulfilled (part memory t) memory.sharing t need
    → HasAdvanced v s t limit kept.run before None after_run after
asked_advanced kept v s t limit many need run after_run before released memory after start least some going (n, follows, counted) most goes reserve steps sharing =
    let asked = asked_at v t s n need run released memory some going follows in
    let reached = made_from v s asked.made t before released asked.here memory start asked.reached in
    let last = asked.last in (
      n,
      omega (arith, last),
      omega (arith, counted, most, least),
      steps ∙ counted,
      answered (answer_made v s asked.here t n asked.made need run after_run before memory after last reached asked.asks (asking_at v t s n need run before released memory start asked) goes reserve sharing),
    )
