-- A run that a worker drives, from one step to the next.
use Rattle.std.proofs.Common.{◌≡◌, ◌≤◌, ◌<◌, ◌+◌, ℕ, List, zero, suc, Some, refl, sym, ap, ◌∙◌, arith}
use Rattle.host_types.specs.Tenant.{TenantPart}
use Rattle.bpf_decode.specs.Text.{instructions_of}
use Rattle.verifier.specs.Reserve.{reserve_from}
use Rattle.verifier.specs.Writes.{writes_from}
use Rattle.admission.specs.Reserve.{needed_from}
use Rattle.admission.proofs.Falling.{needed_falls}
use Rattle.verifier.specs.Verified.{Accepted, IsVerified}
use Rattle.interp.specs.declared.need.Need.{Need}
use Rattle.interp.specs.declared.need.Need.TheVariants.{Private, Ended, Load, Store, Lookup, Update, Delete}
use Rattle.interp.specs.Machine.{MachineState, Next, Exits, step}
use Rattle.interp.specs.Runs.{Reaches}
use Rattle.interp.specs.StandsFor.{Running, StandsFor, IsBegun, Asks, IsNoMore, ReachesQuietly, Follows, FollowsSteps}
use Rattle.tenant_runs.specs.UnderWay.{IsUnderWay, IsAsking}
use Rattle.turn.specs.Seats.{SeatState}
use Rattle.tenant_workers.specs.Calls.{IsSameSeat, resting_with}
use Rattle.tenant_runs.proofs.Finishing.{IsFollowed, IsAskedOn, reaches_on, followed_on, steps_below}

-- the same seat of the same seat
pub same_on : (first middle last : SeatState) → IsSameSeat first middle → IsSameSeat middle last → IsSameSeat first last
same_on first middle last same later = later ∙ ap (λ (seat : SeatState). resting_with seat last.view.seen last.view.turns) same

-- what a driven run keeps, of what it was with its tenant's part at first
pub record IsDriven (v : Accepted) (start : Running) (owned : TenantPart) (run : Running) (now : TenantPart) : Type 0 where
  pub verified : IsVerified v
  pub some : (s : MachineState) × IsUnderWay v start s owned
  pub followed : (s : MachineState) → IsUnderWay v start s owned → IsFollowed v start run s now

-- steps that write to no map are steps
reached_quietly : (v : Accepted) (s : MachineState) (n : ℕ) (t : MachineState) → ReachesQuietly v s n t → Reaches v.subject.text s n (Next t)
reached_quietly v s zero t same = ap Next same
reached_quietly v s (suc n) t (u, before, makes, quiet, less) = (u, reached_quietly v s n u before, makes)

-- steps in private
pub private_on : (v : Accepted) (start run after : Running) (s : MachineState) (n : ℕ) (now : TenantPart) → (followed : IsFollowed v start run s now) → FollowsSteps v followed.state n Private after → after.steps ≡ run.steps + n
    → IsFollowed v start after s now
private_on v start run after s n now followed (t, reaches, maps, less, stands) more =
    let reserve : needed_from v now followed.state.slot ≤ now.reserve = rw followed.under_way.stands.slot at followed.under_way.reserve in
    let falls : needed_from v now t.slot ≤ needed_from v now followed.state.slot =
    needed_falls (reserve_from v followed.state.slot) (reserve_from v t.slot) (writes_from v followed.state.slot) (writes_from v t.slot) now less.reserve less.fewer in
    let slot : after.slot ≡ t.slot = stands.slot in
    record {
      state = t;
      count = followed.count + n;
      reaches = reaches_on v.subject.text s followed.state followed.count n (Next t) followed.reaches (reached_quietly v followed.state n t reaches);
      steps = omega (arith, more, followed.steps);
      under_way = record {
        stands = stands;
        maps = followed.under_way.maps ∙ sym maps;
        running = followed.under_way.running;
        reserve = rw slot (omega (arith, falls, reserve));
      };
    }

-- what a run asks after steps in private
asked_by : (v : Accepted) (run after : Running) (s t : MachineState) (need : Need) (now : TenantPart) (n before : ℕ) → IsUnderWay v run s now → n ≡ suc before → ReachesQuietly v s before t
    → t.memory.maps ≡ s.memory.maps → IsNoMore v s t → Asks v t need after → IsAskedOn v s n need after now
asked_by v run after s t need now n before under_way count reaches maps less asks =
    let reserve : needed_from v now s.slot ≤ now.reserve = rw under_way.stands.slot at under_way.reserve in
    let falls : needed_from v now t.slot ≤ needed_from v now s.slot =
    needed_falls (reserve_from v s.slot) (reserve_from v t.slot) (writes_from v s.slot) (writes_from v t.slot) now less.reserve less.fewer in
    record {
      before = before;
      state = t;
      count = count;
      reaches = reached_quietly v s before t reaches;
      asking = record {
        asks = asks;
        eight = rw under_way.maps under_way.stands.state.maps.eight;
        maps = under_way.maps ∙ sym maps;
        running = under_way.running;
        reserve = omega (arith, falls, reserve);
      };
    }

pub asked_now : (v : Accepted) (run after : Running) (s : MachineState) (need : Need) (now : TenantPart) (n : ℕ) → IsUnderWay v run s now → (need ≡ Private → ⊥) → ((number : ℕ) → need ≡ Ended number → ⊥)
    → FollowsSteps v s n need after → IsAskedOn v s n need after now
asked_now v run after s Private now n under_way some going follows = absurd (some refl)
asked_now v run after s (Ended number) now n under_way some going follows = absurd (going number refl)
asked_now v run after s (Load m at size) now n under_way some going (before, t, count, reaches, maps, less, asks) = asked_by v run after s t (Load m at size) now n before under_way count reaches maps less asks
asked_now v run after s (Store m at size number) now n under_way some going (before, t, count, reaches, maps, less, asks) = asked_by v run after s t (Store m at size number) now n before under_way count reaches maps less asks
asked_now v run after s (Lookup m key) now n under_way some going (before, t, count, reaches, maps, less, asks) = asked_by v run after s t (Lookup m key) now n before under_way count reaches maps less asks
asked_now v run after s (Update m key flags) now n under_way some going (before, t, count, reaches, maps, less, asks) = asked_by v run after s t (Update m key flags) now n before under_way count reaches maps less asks
asked_now v run after s (Delete m key) now n under_way some going (before, t, count, reaches, maps, less, asks) = asked_by v run after s t (Delete m key) now n before under_way count reaches maps less asks

-- the last steps
pub ended_now : (v : Accepted) (start run after : Running) (s : MachineState) (number n : ℕ) (now : TenantPart) → (followed : IsFollowed v start run s now) → FollowsSteps v followed.state n (Ended number) after
    → after.steps ≡ run.steps + n → (m : ℕ) × Reaches v.subject.text s m (Exits number now.maps) × (after.steps ≡ start.steps + m)
ended_now v start run after s number n now followed (before, t, count, reaches, maps, makes, few) more = (
  followed.count + suc before,
  rw followed.under_way.maps (reaches_on v.subject.text s followed.state followed.count (suc before) (Exits number followed.state.memory.maps) followed.reaches (t, reached_quietly v followed.state before t reaches, makes)),
  omega (arith, more, count, followed.steps),
)

-- what steps make of a run that stands for a state
abbrev pub GoesOn : Accepted → Running → Need → Running → Type 0
GoesOn v run need after = (s : MachineState) → StandsFor v run s → (n : ℕ) × FollowsSteps v s n need after × (after.steps ≡ run.steps + n)

-- what a driven run keeps, after steps in private
pub drives_private : (v : Accepted) (start : Running) (owned : TenantPart) (run after : Running) (now : TenantPart) → IsDriven v start owned run now → GoesOn v run Private after → IsDriven v start owned after now
drives_private v start owned run after now driven follows = record {
  verified = driven.verified;
  some = driven.some;
  followed = λ s under_way.
      let followed = driven.followed s under_way in
      let (n, steps, more) = follows followed.state followed.under_way.stands in
      private_on v start run after s n now followed steps more;
}

-- after steps of which the last one has the memory's answer
pub drives_on : (v : Accepted) (start : Running) (owned : TenantPart) (run after answered : Running) (need : Need) (now next : TenantPart) → IsDriven v start owned run now → (need ≡ Private → ⊥) → ((number : ℕ) → need ≡ Ended number → ⊥)
    → GoesOn v run need after → answered.steps ≡ after.steps
    → ((t : MachineState) → IsAsking v t need after now → (u : MachineState) × (step v.subject.text t ≡ Some (Next u)) × IsUnderWay v answered u next)
    → IsDriven v start owned answered next
drives_on v start owned run after answered need now next driven some going follows same goes_on = record {
  verified = driven.verified;
  some = driven.some;
  followed = λ s under_way.
      let followed = driven.followed s under_way in
      let (n, steps, more) = follows followed.state followed.under_way.stands in
      let asked = asked_now v run after followed.state need now n followed.under_way some going steps in
      followed_on v start run after answered s need n now now next followed asked more same goes_on;
}

no_more : (v : Accepted) (s : MachineState) → IsNoMore v s s
no_more v s = record { reserve = omega arith; fewer = λ m writes. writes }

-- a step of `next` is one of many
pub one_step : (v : Accepted) (s : MachineState) (need : Need) (after : Running) → Follows v s need after → FollowsSteps v s 1 need after
one_step v s Private after (t, makes, maps, quiet, less, stands) = (t, (s, refl, makes, quiet, less), maps, less, stands)
one_step v s (Ended number) after (makes, few) = (0, s, refl, refl, refl, makes, few)
one_step v s (Load m at size) after asks = (0, s, refl, refl, refl, no_more v s, asks)
one_step v s (Store m at size number) after asks = (0, s, refl, refl, refl, no_more v s, asks)
one_step v s (Lookup m key) after asks = (0, s, refl, refl, refl, no_more v s, asks)
one_step v s (Update m key flags) after asks = (0, s, refl, refl, refl, no_more v s, asks)
one_step v s (Delete m key) after asks = (0, s, refl, refl, refl, no_more v s, asks)

-- up to a limit of at least one, steps are some
pub further_on : (v : Accepted) (run after : Running) (need : Need) (limit : ℕ) → (s : MachineState) × StandsFor v run s → GoesOn v run need after → (need ≡ Private → after.steps ≡ run.steps + limit) → 1 ≤ limit
    → run.steps < after.steps
further_on v run after Private limit (s, stands) follows all some = let more = all refl in omega (arith, more, some)
further_on v run after (Ended number) limit (s, stands) follows all some = let (n, (before, t, count, _, _, _, _), more) = follows s stands in omega (arith, count, more)
further_on v run after (Load m at size) limit (s, stands) follows all some = let (n, (before, t, count, _, _, _, _), more) = follows s stands in omega (arith, count, more)
further_on v run after (Store m at size number) limit (s, stands) follows all some = let (n, (before, t, count, _, _, _, _), more) = follows s stands in omega (arith, count, more)
further_on v run after (Lookup m key) limit (s, stands) follows all some = let (n, (before, t, count, _, _, _, _), more) = follows s stands in omega (arith, count, more)
further_on v run after (Update m key flags) limit (s, stands) follows all some = let (n, (before, t, count, _, _, _, _), more) = follows s stands in omega (arith, count, more)
further_on v run after (Delete m key) limit (s, stands) follows all some = let (n, (before, t, count, _, _, _, _), more) = follows s stands in omega (arith, count, more)

-- a driven run is under way
pub is_under_way : (v : Accepted) (start : Running) (owned : TenantPart) (run : Running) (now : TenantPart) → IsDriven v start owned run now → (s : MachineState) × IsUnderWay v run s now
is_under_way v start owned run now driven =
    let (s, under_way) = driven.some in
    let followed = driven.followed s under_way in
    (followed.state, followed.under_way)

-- and has made fewer steps than there are instructions
pub drives_below : (v : Accepted) (start : Running) (owned : TenantPart) (run : Running) (now : TenantPart) → IsDriven v start owned run now → run.steps < instructions_of v.subject.text
drives_below v start owned run now driven =
    let (s, under_way) = is_under_way v start owned run now driven in
    steps_below v run s driven.verified under_way.stands

-- a run that began with a context has it, and so is fresh
pub is_fresh : (v : Accepted) (context own : List ℕ) (run : Running) → IsBegun v context run → own ≡ context → IsBegun v own run
is_fresh v context own run begun same = rw same begun
