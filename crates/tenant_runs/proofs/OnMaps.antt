-- A run that goes on while its loads and stores are fulfilled, from one thing that it asks beside them to the next.
use Rattle.std.proofs.Common.{◌≡◌, ◌≤◌, ◌+◌, inl, inr, ℕ, zero, suc, true, length, refl, ap, ◌∙◌, arith}
use Rattle.std.proofs.lemmas.List.{length-set}
use Rattle.host_types.specs.Tenant.{TenantPart}
use Rattle.bpf_decode.specs.declared.operation.Size.{Size}
use Rattle.bpf_decode.specs.Text.{instructions_of}
use Rattle.page_table.specs.State.{MemoryState, part, have_of}
use Rattle.page_table.specs.Changes.{OtherTenantsUnchanged, with_reserve}
use Rattle.admission.specs.Reserve.{needed_by, needed_from}
use Rattle.admission.proofs.Falling.{needed_falls}
use Rattle.verifier.specs.Reserve.{reserve_from}
use Rattle.verifier.specs.Verified.{Accepted}
use Rattle.verifier.specs.Writes.{writes_from}
use Rattle.interp.specs.declared.need.Need.{Need}
use Rattle.interp.specs.declared.need.Need.TheVariants.{Private, Ended, Load, Store, Lookup, Update, Delete}
use Rattle.interp.specs.Machine.{MachineState, Next, Exits}
use Rattle.interp.specs.Runs.{Reaches}
use Rattle.interp.specs.StandsFor.{Running, Asks}
use Rattle.interp.specs.OnMaps.{IsRoomy, StandsOn, IsFulfilled, ReachesOn, FollowsOn}
use Rattle.tenant_runs.specs.Fulfilment.{KeepsSizes}
use Rattle.tenant_runs.specs.Storing.{maps_of_part, HasStoreFrames, HasStored}
use Rattle.tenant_runs.specs.UnderWay.{IsUnderWay, part_with_have}
use Rattle.tenant_runs.proofs.Rooms.{keeps_after}
use Rattle.tenant_runs.proofs.Finishing.{IsAskedOn, IsFollowed, reaches_on}

-- a run that is under way, once all that is reserved for it may be had
pub stands_on : (v : Accepted) (tenant : ℕ) (run : Running) (s : MachineState) (old new : MemoryState) → IsUnderWay v run s (part_with_have old tenant) → part new tenant ≡ with_reserve 0 (part old tenant)
    → have_of new + 0 ≡ have_of old + (part old tenant).reserve → StandsOn (maps_of_part tenant) (HasStoreFrames tenant) v run s new
stands_on v tenant run s old new way recorded have =
    let kept : maps_of_part tenant new ≡ maps_of_part tenant old = ap (λ (owned : TenantPart). owned.maps) recorded in
    let enough : needed_from v (part old tenant) run.slot ≤ have_of old + (part old tenant).reserve = way.reserve in
    let reserved : needed_from v (part old tenant) s.slot ≤ have_of old + (part old tenant).reserve = rw way.stands.slot at enough in
    let running : (part new tenant).running ≡ true = ap (λ (owned : TenantPart). owned.running) recorded ∙ way.running in
    record {
      stands = way.stands;
      roomy = record {
        maps = kept ∙ way.maps;
        room = λ less fewer few among.
            let same : needed_by less fewer (part new tenant) ≡ needed_by less fewer (part old tenant) = ap (needed_by less fewer) recorded in
            let falls : needed_by less fewer (part old tenant) ≤ needed_from v (part old tenant) s.slot = needed_falls (reserve_from v s.slot) less (writes_from v s.slot) fewer (part old tenant) few among in
            record { running = running; frames = omega (arith, same, falls, reserved, have) };
      };
    }

-- what steps on a tenant's maps keep
pub record Keeps (tenant : ℕ) (old new : MemoryState) : Type 0 where
  pub others : OtherTenantsUnchanged tenant old new
  pub sizes : KeepsSizes old new
  pub maps : length (part new tenant).maps ≡ length (part old tenant).maps

keeps_itself : (tenant : ℕ) (memory : MemoryState) → Keeps tenant memory memory
keeps_itself tenant memory = record { others = λ t other. refl; sizes = record { tenants = refl; frames = refl }; maps = refl }

stored_keeps : (tenant : ℕ) (old new : MemoryState) (m at : ℕ) (size : Size) (number : ℕ) → HasStored tenant old m at size number new → Keeps tenant old new
stored_keeps tenant old new m at size number stored = record {
  others = stored.others;
  sizes = keeps_after old old new (record { tenants = refl; frames = refl }) stored.settings;
  maps = ap (λ (owned : TenantPart). length owned.maps) stored.owned ∙ length-set (part old tenant).maps m _;
}

fulfilled_keeps : (v : Accepted) (tenant : ℕ) (s t : MachineState) (old new : MemoryState) → IsFulfilled (HasStored tenant) v s old t new → Keeps tenant old new
fulfilled_keeps v tenant s t old new (inl private) = rw private.same (keeps_itself tenant old)
fulfilled_keeps v tenant s t old new (inr made) = stored_keeps tenant old new made.map made.at made.size made.number made.stored

pub steps_keep : (v : Accepted) (tenant : ℕ) (s : MachineState) (old : MemoryState) (n : ℕ) (t : MachineState) (new : MemoryState) → ReachesOn (HasStored tenant) v s old n t new → Keeps tenant old new
steps_keep v tenant s old zero t new (same, kept) = rw kept (keeps_itself tenant old)
steps_keep v tenant s old (suc n) t new (u, between, reaches, makes, fulfilled) =
    let first = steps_keep v tenant s old n u between reaches in
    let later = fulfilled_keeps v tenant u t between new fulfilled in
    record {
      others = λ w other. later.others w other ∙ first.others w other;
      sizes = record { tenants = later.sizes.tenants ∙ first.sizes.tenants; frames = later.sizes.frames ∙ first.sizes.frames };
      maps = later.maps ∙ first.maps;
    }

-- they are steps
pub steps_reach : (v : Accepted) (tenant : ℕ) (s : MachineState) (old : MemoryState) (n : ℕ) (t : MachineState) (new : MemoryState) → ReachesOn (HasStored tenant) v s old n t new → Reaches v.subject.text s n (Next t)
steps_reach v tenant s old zero t new (same, kept) = ap Next same
steps_reach v tenant s old (suc n) t new (u, between, reaches, makes, fulfilled) = (u, steps_reach v tenant s old n u between reaches, makes)

no_less : {need have : ℕ} (reserve : ℕ) → need ≤ have → need ≤ have + reserve
no_less reserve enough = omega (arith, enough)

-- what a run asks after such steps, and what they kept
pub record IsAskedLater (v : Accepted) (tenant : ℕ) (s : MachineState) (n : ℕ) (need : Need) (run : Running) (old new : MemoryState) : Type 0 where
  pub asked : IsAskedOn v s n need run (part_with_have new tenant)
  pub keeps : Keeps tenant old new

asked_by : (v : Accepted) (tenant : ℕ) (s : MachineState) (n : ℕ) (need : Need) (run : Running) (old new : MemoryState) → (made : ℕ) × (t : MachineState) × (n ≡ suc made) × ReachesOn (HasStored tenant) v s old made t new
    × IsRoomy (maps_of_part tenant) (HasStoreFrames tenant) v t new × Asks v t need run → length (part old tenant).maps ≡ 8 → IsAskedLater v tenant s n need run old new
asked_by v tenant s n need run old new (made, t, count, reaches, roomy, asks) eight =
    let keeps = steps_keep v tenant s old made t new reaches in
    let has = roomy.room (reserve_from v t.slot) (writes_from v t.slot) (omega arith) (λ m writes. writes) in
    record {
      asked = record {
        before = made;
        state = t;
        count = count;
        reaches = steps_reach v tenant s old made t new reaches;
        asking = record { asks = asks; eight = keeps.maps ∙ eight; maps = roomy.maps; running = has.running; reserve = no_less (part new tenant).reserve has.frames };
      };
      keeps = keeps;
    }

pub asked_later : (v : Accepted) (tenant : ℕ) (s : MachineState) (n : ℕ) (need : Need) (run : Running) (old new : MemoryState) → (need ≡ Private → ⊥) → ((number : ℕ) → need ≡ Ended number → ⊥)
    → FollowsOn (maps_of_part tenant) (HasStoreFrames tenant) (HasStored tenant) v s old n need run new → length (part old tenant).maps ≡ 8 → IsAskedLater v tenant s n need run old new
asked_later v tenant s n Private run old new some going follows eight = absurd (some refl)
asked_later v tenant s n (Ended number) run old new some going follows eight = absurd (going number refl)
asked_later v tenant s n (Load m at size) run old new some going follows eight = absurd follows
asked_later v tenant s n (Store m at size number) run old new some going follows eight = absurd follows
asked_later v tenant s n (Lookup m key) run old new some going follows eight = absurd follows
asked_later v tenant s n (Update m key flags) run old new some going follows eight = asked_by v tenant s n (Update m key flags) run old new follows eight
asked_later v tenant s n (Delete m key) run old new some going follows eight = asked_by v tenant s n (Delete m key) run old new follows eight

-- the last steps
pub record IsEndedLater (v : Accepted) (tenant : ℕ) (s : MachineState) (number : ℕ) (start after : Running) (old new : MemoryState) : Type 0 where
  pub count : ℕ
  pub reaches : Reaches v.subject.text s count (Exits number (part new tenant).maps)
  pub steps : after.steps ≡ start.steps + count
  pub few : after.steps ≤ instructions_of v.subject.text
  pub keeps : Keeps tenant old new

pub ended_later : (v : Accepted) (tenant : ℕ) (start run after : Running) (s : MachineState) (number n : ℕ) (owned : TenantPart) (old new : MemoryState) → (followed : IsFollowed v start run s owned)
    → FollowsOn (maps_of_part tenant) (HasStoreFrames tenant) (HasStored tenant) v followed.state old n (Ended number) after new → after.steps ≡ run.steps + n → IsEndedLater v tenant s number start after old new
ended_later v tenant start run after s number n owned old new followed (made, t, count, reaches, same, makes, flat, few) more =
    let counted = followed.steps in
    record {
      count = followed.count + n;
      reaches = reaches_on v.subject.text s followed.state followed.count n (Exits number (part new tenant).maps) followed.reaches (rw (count, same) (t, steps_reach v tenant followed.state old made t new reaches, makes));
      steps = omega (arith, more, counted);
      few = few;
      keeps = steps_keep v tenant followed.state old made t new reaches;
    }

-- the tenant of a run under way has eight entries for maps, also once all that is reserved may be had
pub eight_there : (v : Accepted) (tenant : ℕ) (run : Running) (s : MachineState) (memory : MemoryState) → IsUnderWay v run s (part_with_have memory tenant) → length (part memory tenant).maps ≡ 8
eight_there v tenant run s memory way = rw way.maps way.stands.state.maps.eight

pub eight_still : (tenant : ℕ) (old new : MemoryState) → length (part old tenant).maps ≡ 8 → part new tenant ≡ with_reserve 0 (part old tenant) → length (part new tenant).maps ≡ 8
eight_still tenant old new eight recorded = ap (λ (owned : TenantPart). length owned.maps) recorded ∙ eight
