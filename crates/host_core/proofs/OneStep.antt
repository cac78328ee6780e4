-- One step of an open run, made by itself.
use Rattle.std.proofs.Common.{◌≡◌, ℕ, ◌+◌, ◌≤◌, List, [], length, replicate, Option, Some, None, sym, ap, refl, ◌∙◌, subst, arith}
use Rattle.std.specs.Prelude.{false}
use Rattle.host_types.specs.Pins.{released}
use Rattle.host_types.specs.Tenant.{TenantPart}
use Rattle.page_table.specs.Changes.{with_reserve, without_run}
use Rattle.page_table.specs.Reads.{ReadsAs}
use Rattle.page_table.specs.State.{MemoryState, part, free_of}
use Rattle.verifier.specs.Reserve.{reserve_from}
use Rattle.verifier.specs.Writes.{writes_from}
use Rattle.verifier.specs.Verified.{Accepted}
use Rattle.admission.specs.Reserve.{needed_from}
use Rattle.admission.proofs.Falling.{needed_falls}
use Rattle.interp.specs.declared.need.Need.{Need}
use Rattle.interp.specs.declared.need.Need.TheVariants.{Private, Ended, Load, Store, Lookup, Update, Delete}
use Rattle.interp.specs.Machine.{MachineState, Next, step}
use Rattle.interp.specs.StandsFor.{Running, Asks, Follows, IsNoMore}
use Rattle.tenant_runs.specs.Fulfilment.{sharing_fulfilled}
use Rattle.tenant_runs.specs.UnderWay.{IsUnderWay, IsAsking, part_with_have}
use Rattle.host_core.specs.declared.tenant.OpenRun.{OpenRun as KeptRun}
use Rattle.host_core.specs.Happens.{sharing_after}
use Rattle.host_core.specs.Batches.{IsUnderWayAt, HasAdvanced, AreMadeFrom, went_on, answered, ended, needed_in, part_in, reserved_of}
use Rattle.host_core.proofs.Advances.{needed_of_part, part_recorded, answer_made}

-- a run that neither went on nor ended asks something
pub asks_of : (v : Accepted) (s : MachineState) (need : Need) (run : Running) → (need ≡ Private → ⊥) → ((number : ℕ) → need ≡ Ended number → ⊥) → Follows v s need run → Asks v s need run
asks_of v s Private run some going follows = absurd (some refl)
asks_of v s (Ended number) run some going follows = absurd (going number refl)
asks_of v s (Load m at size) run some going follows = follows
asks_of v s (Store m at size number) run some going follows = follows
asks_of v s (Lookup m key) run some going follows = follows
asks_of v s (Update m key flags) run some going follows = follows
asks_of v s (Delete m key) run some going follows = follows

-- it asks of its tenant's part, for which just what the rest of the run may need is reserved
pub step_asking : (programs : List (Option Accepted)) (kept : KeptRun) (v : Accepted) (s : MachineState) (t : ℕ) (need : Need) (run : Running) (before : MemoryState)
    → IsUnderWayAt programs kept v s (part before t) → Asks v s need run → IsAsking v s need run (part_with_have before t)
step_asking programs kept v s t need run before under asks =
    let reserve = under.reserve in
    record {
      asks = asks;
      eight = ap length under.maps ∙ under.stands.state.maps.eight;
      maps = under.maps;
      running = under.running;
      reserve = omega (arith, reserve);
    }

-- a step that asks nothing leaves no more to be needed
needed_following : (programs : List (Option Accepted)) (kept : KeptRun) (v : Accepted) (s next : MachineState) (t : ℕ) (before : MemoryState)
    → IsUnderWayAt programs kept v s (part before t) → IsNoMore v s next → needed_from v (part before t) next.slot ≤ (part before t).reserve
needed_following programs kept v s next t before under less =
    let falls : needed_from v (part before t) next.slot ≤ needed_from v (part before t) s.slot =
    needed_falls (reserve_from v s.slot) (reserve_from v next.slot) (writes_from v s.slot) (writes_from v next.slot) (part before t) less.reserve less.fewer in
    let reserve = under.reserve in
    omega (arith, falls, reserve)

-- so what is recorded needs to be lowered alone
pub step_following : (programs : List (Option Accepted)) (kept : KeptRun) (v : Accepted) (s : MachineState) (t : ℕ) (run : Running) (before : MemoryState)
    → IsUnderWayAt programs kept v s (part before t) → Follows v s Private run → needed_from v (part before t) run.slot ≤ (part before t).reserve
step_following programs kept v s t run before under (next, makes, maps, quiet, less, stands) =
    subst (λ slot. needed_from v (part before t) slot ≤ (part before t).reserve) (sym stands.slot) (needed_following programs kept v s next t before under less)

-- and where nothing is reserved, nothing has to be
pub none_left : (owned : TenantPart) (n : ℕ) → n ≤ owned.reserve → owned.reserve ≡ 0 → owned ≡ with_reserve n owned
none_left owned n le none = let same : n ≡ owned.reserve = omega (arith, le, none) in rw same refl

-- a step that asks nothing, after which just what is left of the run is reserved
pub step_private : (programs : List (Option Accepted)) (kept : KeptRun) (v : Accepted) (s : MachineState) (t : ℕ) (run : Running) (before after : MemoryState)
    → IsUnderWayAt programs kept v s (part before t) → ReadsAs before → Follows v s Private run → run.steps ≡ kept.run.steps + 1
    → part after t ≡ with_reserve (needed_from v (part before t) run.slot) (part before t) → after.sharing ≡ before.sharing
    → HasAdvanced v s t 1 kept.run before None run after
step_private programs kept v s t run before after under reads (next, makes, maps, quiet, less, stands) counted recorded sharing =
    let following = needed_following programs kept v s next t before under less in
    let mine : needed_in v t before.sharing s ≡ (part before t).reserve = sym (needed_of_part v t before s under.maps) ∙ sym under.reserve in
    let left : needed_in v t before.sharing next ≡ needed_from v (part before t) next.slot = sym (needed_of_part v t before next (under.maps ∙ sym maps)) in
    let most : reserved_of before ≤ free_of before = reads.reserved in
    let reserve : (part after t).reserve ≡ needed_from v (part after t) next.slot =
    ap (λ (o : TenantPart). o.reserve) recorded ∙ ap (needed_from v (part before t)) stands.slot ∙ sym (ap (λ o. needed_from v o next.slot) recorded) in
    let owned : part after t ≡ part_in v t after.sharing next =
    part_recorded v t next after (ap (λ (o : TenantPart). o.maps) recorded ∙ under.maps ∙ sym maps) (ap (λ (o : TenantPart). o.running) recorded ∙ under.running) reserve in
    let reached : AreMadeFrom v s 1 t before next before.sharing = (
      s,
      before.sharing,
      (refl, refl),
      record {
        makes = makes;
        need = Private;
        value = [];
        maps = maps;
        shares = ap (sharing_after before.sharing t) (sym quiet);
        others = λ k other. refl;
        enough = omega (arith, following, mine, left, most);
      },
    ) in (
      1,
      omega arith,
      omega arith,
      counted,
      went_on (record { next = next; reached = subst (AreMadeFrom v s 1 t before next) (sym sharing) reached; stands = stands; owned = owned }),
    )

-- a step with which the run ends
pub step_ended : (programs : List (Option Accepted)) (kept : KeptRun) (v : Accepted) (s : MachineState) (t number : ℕ) (run : Running) (before after : MemoryState)
    → IsUnderWayAt programs kept v s (part before t) → Follows v s (Ended number) run → run.steps ≡ kept.run.steps + 1
    → part after t ≡ without_run (part before t) → after.sharing ≡ released before.sharing t
    → HasAdvanced v s t 1 kept.run before (Some number) run after
step_ended programs kept v s t number run before after under (makes, few) counted recorded sharing =
    let owned : part after t ≡ without_run (part_in v t before.sharing s) = recorded ∙ ap (λ m. record { maps = m; reserve = 0; running = false; pins = replicate 2048 false }) under.maps in (
      1,
      omega arith,
      omega arith,
      counted,
      ended number (record { made = 0; last = refl; here = s; between = before.sharing; reached = (refl, refl); makes = makes; flat = under.stands.state.maps; few = few; owned = owned; sharing = sharing }),
    )

-- a step that asks, with its answer
pub step_answered : (programs : List (Option Accepted)) (kept : KeptRun) (v : Accepted) (s : MachineState) (t : ℕ) (need : Need) (run after_run : Running) (before after : MemoryState)
    → IsUnderWayAt programs kept v s (part before t) → Asks v s need run → run.steps ≡ kept.run.steps + 1
    → ((u : MachineState) → IsAsking v u need run (part_with_have before t) → (next : MachineState) × (step v.subject.text u ≡ Some (Next next)) × IsUnderWay v after_run next (part after t))
    → (part after t).reserve ≡ needed_from v (part after t) run.slot → after_run.steps ≡ run.steps → after.sharing ≡ sharing_fulfilled (part before t) before.sharing t need
    → HasAdvanced v s t 1 kept.run before None after_run after
step_answered programs kept v s t need run after_run before after under asks counted goes reserve steps sharing = (
  1,
  omega arith,
  omega arith,
  steps ∙ counted,
  answered (answer_made v s s t 1 0 need run after_run before before after refl (refl, refl) asks (step_asking programs kept v s t need run before under asks) goes reserve sharing),
)
