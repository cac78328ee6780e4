-- Whole runs of a tenant on one context after the other.
use Rattle.std.proofs.Common.{◌≡◌, ℕ, ◌+◌, ◌-◌, ◌<◌, ◌≤◌, List, length, drop, set, slice_set, Option, Some, None, Result, Ok, Err, refl, sym, ap, ◌∙◌, subst, arith}
use Rattle.std.specs.List.{slice_get}
use Rattle.std.proofs.lemmas.List.{length-set, drop-drop}
use Rattle.host_types.specs.declared.fault.Fault.{Fault}
use Rattle.host_types.specs.declared.fault.Fault.TheVariants as fault
use Rattle.page_table.specs.State.{MemoryState}
use Rattle.page_table.specs.Reads.{ReadsAs}
use Rattle.verifier.specs.Verified.{Accepted}
use Rattle.host_types.specs.Sharing.{Sharing}
use Rattle.host_core.specs.declared.reply.Reply.{Reply}
use Rattle.host_core.specs.declared.reply.Reply.TheVariants.{Ended, Refused}
use Rattle.host_core.specs.declared.reply.Stopped.{Stopped}
use Rattle.host_core.specs.declared.tenant.OpenRun.{OpenRun as KeptRun}
use Rattle.host_core.specs.declared.whole_run.Stop.{Stop}
use Rattle.host_core.specs.declared.whole_run.Stop.TheVariants as stop
use Rattle.host_core.specs.World.{Tenant, System}
use Rattle.host_core.specs.Happens.{RunHappens, changed_system}
use Rattle.host_core.specs.HostView.{TenantView, StandsForTenant, StandsForMemory, IsKept, HasMadeRun, HasMadeSteps}
use Rattle.host_core.specs.Many.{context_at, RunsFirst}
use Rattle.host_core.specs.WholeRuns.{idle_tenant, busy_tenant, HaveRunFirst, HaveStopped, HasMadeRuns, HaveRunFrom}
use Rattle.host_core.proofs.Worlds.{AllZip-found, AllZip-set, changed_system-same, changed_system-twice, slice_get-set}
use Rattle.host_core.proofs.Hosting.{host-runs_none}
use Rattle.host_core.proofs.Sequences.{runs_next, later_kept}

-- a tenant and a memory for which a whole run was made still stand for a system
pub kept-ran : (t k : ℕ) (context : List ℕ) (old new : TenantView) (before after : MemoryState) (reply : Reply) → HasMadeRun t old before k context reply new after → IsKept t old before → IsKept t new after
kept-ran t k context old new before after reply made (x, tenant, there, s, memory) =
    let (next, sharing, stands, memory', happen) = made x tenant there s memory in
    (changed_system x t next sharing, next, slice_get-set x.world t tenant next there, stands, memory')

module _ (programs : List (Option Accepted)) (t k : ℕ) (contexts : List ℕ) (size : ℕ) (rets : List ℕ) (from : ℕ) (before : MemoryState) where
  -- no run more
  pub first-none : HaveRunFirst programs t k contexts size rets from before rets from before
  first-none x tenant there stands memory =
      let same : changed_system x t tenant x.sharing ≡ x = changed_system-same x t tenant there in
      (tenant, x.sharing, stands, subst (StandsForMemory before) (sym same) memory, λ first runs. subst (RunsFirst t k contexts size rets from first) (sym same) runs)

  module _ (written : List ℕ) (n : ℕ) (between : MemoryState) (runs : HaveRunFirst programs t k contexts size rets from before written n between) where
    -- one run more, whatever its reply
    pub first-then : (context : List ℕ) (reply : Reply) (new : TenantView) (after : MemoryState) → HasMadeRun t (idle_tenant programs) between k context reply new after
        → (x : System) (tenant : Tenant) → slice_get x.world t ≡ Some tenant → StandsForTenant (idle_tenant programs) tenant → StandsForMemory before x
        → (next : Tenant) × (sharing : Sharing) × StandsForTenant new next × StandsForMemory after (changed_system x t next sharing)
        × ((mid : System) × ((first : System) → RunsFirst t k contexts size rets from first x → RunsFirst t k contexts size written n first mid) × RunHappens mid t k context reply (changed_system x t next sharing))
    first-then context reply new after made x tenant there stands memory =
        let (next, sharing, stands', memory', several) = runs x tenant there stands memory in
        let x' = changed_system x t next sharing in
        let (next', sharing', stands'', memory'', whole) = made x' next (slice_get-set x.world t tenant next there) stands' memory' in
        let same = changed_system-twice x t next next' sharing sharing' in
        (next', sharing', stands'', subst (StandsForMemory after) same memory'', (x', several, subst (RunHappens x' t k context reply) same whole))

    -- one run more, which ended
    pub first-next : (ret steps : ℕ) (after : MemoryState) → n < length written → HasMadeRun t (idle_tenant programs) between k (context_at contexts size n) (Ended ret steps) (idle_tenant programs) after
        → HaveRunFirst programs t k contexts size rets from before (slice_set written n ret) (n + 1) after
    first-next ret steps after within made x tenant there stands memory =
        let (next, sharing, stands', memory', (mid, several, whole)) = first-then (context_at contexts size n) (Ended ret steps) (idle_tenant programs) after made x tenant there stands memory in
        (next, sharing, stands', memory', λ first runs. runs_next t k contexts size written n ret steps first mid (changed_system x t next sharing) within (several first runs) whole)

-- runs of a tenant of which none was made, since the next one was refused at once
pub none-made : (t k : ℕ) (contexts : List ℕ) (size : ℕ) (rets : List ℕ) (from : ℕ) (old new : TenantView) (before after : MemoryState) (reply : Reply) → from < length rets → ((ret steps : ℕ) → reply ≡ Ended ret steps → ⊥)
    → HasMadeRun t old before k (context_at contexts size from) reply new after → HasMadeRuns t old before k contexts size rets from (Err (record { ended = from; reply = reply })) new after rets
none-made t k contexts size rets from old new before after reply within other made = record {
  n = from;
  ends = (refl, omega arith, within);
  long = refl;
  others = refl;
  runs = λ x tenant there stands memory.
      let (next, sharing, stands', memory', whole) = made x tenant there stands memory in
      (next, sharing, stands', memory', λ first earlier. (x, earlier, (other, whole)));
}

module _ (programs : List (Option Accepted)) (t k : ℕ) (contexts : List ℕ) (size : ℕ) (rets : List ℕ) (from : ℕ) (before : MemoryState) (kept : KeptRun) (after : MemoryState) (written : List ℕ) where
  module _ (stopped : Stop) (made : HaveStopped programs t k contexts size rets from before stopped kept after written) (within : made.n < length rets) where
    -- a last run whose reply isn't that it ended
    last-made : (reply : Reply) (new : TenantView) (later : MemoryState) → ((ret steps : ℕ) → reply ≡ Ended ret steps → ⊥) → HasMadeRun t (idle_tenant programs) made.between k (context_at contexts size made.n) reply new later
        → HasMadeRuns t (idle_tenant programs) before k contexts size rets from (Err (record { ended = made.n; reply = reply })) new later written
    last-made reply new later other run = record {
      n = made.n;
      ends = (refl, made.further, within);
      long = made.long;
      others = made.others;
      runs = λ x tenant there stands memory.
          let (next, sharing, stands', memory', (mid, several, whole)) = first-then programs t k contexts size rets from before written made.n made.between made.runs (context_at contexts size made.n) reply new later run x tenant there stands memory in
          (next, sharing, stands', memory', λ first earlier. (mid, several first earlier, (other, whole)));
    }

    -- a last run that ended
    more-made : (ret steps : ℕ) (new : TenantView) (later : MemoryState) → HasMadeRun t (idle_tenant programs) made.between k (context_at contexts size made.n) (Ended ret steps) new later
        → HasMadeRuns t (idle_tenant programs) before k contexts size rets from (Ok (made.n + 1)) new later (slice_set written made.n ret)
    more-made ret steps new later run =
        let further = made.further in
        let inside : made.n < length written = omega (arith, within, made.long) in
        record {
          n = made.n + 1;
          ends = (refl, omega (arith, further), omega (arith, within));
          long = length-set written made.n ret ∙ made.long;
          others = later_kept written rets made.n ret made.others;
          runs = λ x tenant there stands memory.
              let (next, sharing, stands', memory', (mid, several, whole)) = first-then programs t k contexts size rets from before written made.n made.between made.runs (context_at contexts size made.n) (Ended ret steps) new later run x tenant there stands memory in (
                next,
                sharing,
                stands',
                memory',
                λ first earlier. (changed_system x t next sharing, runs_next t k contexts size written made.n ret steps first mid (changed_system x t next sharing) inside (several first earlier) whole, refl),
              );
        }

  -- all of the runs ended
  pub all-made : (count : ℕ) → count ≡ length rets → from < length rets → HaveStopped programs t k contexts size rets from before stop.AllEnded kept after written
      → HasMadeRuns t (idle_tenant programs) before k contexts size rets from (Ok count) (idle_tenant programs) after written
  all-made count whole within made =
      let (all, same) = made.last in
      record {
        n = made.n;
        ends = (omega (arith, all, whole), omega (arith, all, within), omega (arith, all));
        long = made.long;
        others = made.others;
        runs = λ x tenant there stands memory.
            let (next, sharing, stands', memory', several) = made.runs x tenant there stands memory in
            (next, sharing, stands', subst (λ m. StandsForMemory m (changed_system x t next sharing)) (sym same) memory', λ first earlier. (changed_system x t next sharing, several first earlier, refl));
      }

  -- the next run wasn't begun
  pub refused-made : (index : ℕ) (fault : Fault) → HaveStopped programs t k contexts size rets from before (stop.Refused index fault) kept after written
      → HasMadeRuns t (idle_tenant programs) before k contexts size rets from (Err (record { ended = index; reply = Refused fault })) (idle_tenant programs) after written
  refused-made index fault made =
      let (is, within, run) = made.last in
      rw is (last-made (stop.Refused index fault) made within (Refused fault) (idle_tenant programs) after (λ ret steps e. cc) run)

  module _ (index : ℕ) (made : HaveStopped programs t k contexts size rets from before (stop.Open index) kept after written) (new : TenantView) (later : MemoryState) where
    -- a run that was noted as open ended
    pub open-ended : (ret steps : ℕ) → HasMadeSteps t (busy_tenant programs kept) after (4294967296 - kept.run.steps) (Some (Ended ret steps)) new later
        → HasMadeRuns t (idle_tenant programs) before k contexts size rets from (Ok (index + 1)) new later (slice_set written index ret)
    open-ended ret steps rest =
        let (is, within, goes) = made.last in
        rw is (more-made (stop.Open index) made within ret steps new later (goes.whole (Ended ret steps) new later rest))

    -- or it didn't
    pub open-stopped : (last : Reply) → ((ret steps : ℕ) → last ≡ Ended ret steps → ⊥) → HasMadeSteps t (busy_tenant programs kept) after (4294967296 - kept.run.steps) (Some last) new later
        → HasMadeRuns t (idle_tenant programs) before k contexts size rets from (Err (record { ended = index; reply = last })) new later written
    open-stopped last other rest =
        let (is, within, goes) = made.last in
        rw is (last-made (stop.Open index) made within last new later other (goes.whole last new later rest))

-- what later runs leave is what earlier ones left
pub later_same : (written rets : List ℕ) (n m : ℕ) → n ≤ m → drop n written ≡ drop n rets → drop m written ≡ drop m rets
later_same written rets n m less same =
    let more : n + (m - n) ≡ m = omega (arith, less) in
    subst (λ k. drop k written ≡ drop k rets) more (sym (drop-drop (m - n) n written) ∙ ap (drop (m - n)) same ∙ drop-drop (m - n) n rets)

module _ (views : List TenantView) (before : MemoryState) (t k : ℕ) (contexts : List ℕ) (size : ℕ) (rets : List ℕ) (from : ℕ) where
  -- runs of a tenant of a host
  pub host-runs : (after : MemoryState) (old new : TenantView) (result : Result ℕ Stopped) (written : List ℕ) → slice_get views t ≡ Some old → HasMadeRuns t old before k contexts size rets from result new after written
      → HaveRunFrom t k contexts size rets from result (record { tenants = views; memory = before }) (record { tenants = set views t new; memory = after }) written
  host-runs after old new result written there made = record {
    n = made.n;
    ends = made.ends;
    long = made.long;
    others = made.others;
    runs = λ x stands.
        let (tenant, found, stood) = AllZip-found StandsForTenant views x.world t old stands.tenants there in
        let (next, sharing, stands', memory', happen) = made.runs x tenant found stood stands.memory in
        (changed_system x t next sharing, record { memory = memory'; tenants = AllZip-set StandsForTenant views x.world t new next stands.tenants stands' }, happen);
  }

  -- runs of no tenant
  pub host-runs_nobody : from < length rets → ReadsAs before → slice_get views t ≡ None
      → HaveRunFrom t k contexts size rets from (Err (record { ended = from; reply = Refused fault.BadTenant })) (record { tenants = views; memory = before }) (record { tenants = views; memory = before }) rets
  host-runs_nobody within reads missing = record {
    n = from;
    ends = (refl, omega arith, within);
    long = refl;
    others = refl;
    runs = λ x stands.
        let (next, stands', whole) = host-runs_none views before t k (context_at contexts size from) reads missing x stands in
        (next, stands', λ first earlier. (x, earlier, ((λ ret steps e. cc), whole)));
  }
