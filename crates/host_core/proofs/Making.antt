-- Steps of a tenant that are made one after another, and the one Step event that one of them is.
use Rattle.std.proofs.Common.{◌≡◌, ◌≢◌, inl, inr, ℕ, ◌+◌, ◌<◌, ◌≤◌, List, [], ◌∷◌, ◌++◌, replicate, Option, Some, None, is_some, true, false, sym, ap, refl, ◌∙◌, subst, arith}
use Rattle.std.proofs.lemmas.List.{replicate-append-replicate, append_assoc}
use Rattle.page_table.specs.State.{MemoryState}
use Rattle.host_types.specs.declared.event.Event.{Event}
use Rattle.host_types.specs.declared.event.Event.TheVariants.{Begin, Step}
use Rattle.host_core.specs.declared.reply.Reply.{Reply}
use Rattle.host_core.specs.declared.reply.Reply.TheVariants.{Begun, Stepped}
use Rattle.host_core.specs.World.{Tenant, System}
use Rattle.host_core.specs.Happens.{Happens, IsPromised, AllHappen, AreSteps, StepsHappen, changed_system}
use Rattle.host_core.specs.HostView.{TenantView, StandsForTenant, StandsForMemory, StandsForAnyRun, IsKept, IsServed, HasMadeRun, HasMadeSteps, HasCounted, steps_of}
use Rattle.page_table.specs.Reads.{ReadsAs}
use Rattle.host_core.proofs.Systems.{covered}
use Rattle.host_core.proofs.Joined.{AllHappen-join}
use Rattle.bpf_decode.proofs.Numbering.{instructions_fit}
use Rattle.host_core.specs.declared.tenant.OpenRun.{OpenRun as KeptRun}
use Rattle.host_core.proofs.Stepping.{run-found, verified-at}
use Rattle.host_core.proofs.Worlds.{changed_system-same, changed_system-twice, slice_get-set}

-- one event that happens alone
alone : (x x' : System) (event : Event) (reply : Reply) → AllHappen x (event ∷ []) (reply ∷ []) x' → Happens x event reply x' × IsPromised x event reply x'
alone x x' event reply (next, happens, promised, covered, same) = rw same (happens, promised)

-- where one step may be made and the run goes on, that is one step
pub served-stepped : (t : ℕ) (old new : TenantView) (before after : MemoryState) → HasMadeSteps t old before 1 None new after → IsServed t old before (Step t) Stepped new after
served-stepped t old new before after made x tenant there s memory =
    let (next, sharing, stands, memory', (events, replies, (steps, all_stepped), all)) = made x tenant there s memory in
    let (happens, promised) = alone x (changed_system x t next sharing) (Step t) Stepped (rw (steps, all_stepped) at all) in
    (next, sharing, stands, memory', happens, promised)

-- where one step may be made and there is another reply, that is the reply to one step
pub served-last : (t : ℕ) (old new : TenantView) (before after : MemoryState) (last : Reply) → HasMadeSteps t old before 1 (Some last) new after → IsServed t old before (Step t) last new after
served-last t old new before after last made x tenant there s memory =
    let (next, sharing, stands, memory', (events, replies, (n, few, other, steps, all_replies), all)) = made x tenant there s memory in
    let none : n ≡ 0 = omega (arith, few) in
    let (happens, promised) = alone x (changed_system x t next sharing) (Step t) last (rw (steps, all_replies, none) at all) in
    (next, sharing, stands, memory', happens, promised)

-- a tenant and a memory that made steps still stand for a system
pub kept-made : (t limit : ℕ) (old new : TenantView) (before after : MemoryState) (last : Option Reply) → HasMadeSteps t old before limit last new after → IsKept t old before → IsKept t new after
kept-made t limit old new before after last made (x, tenant, there, s, memory) =
    let (next, sharing, stands, memory', happen) = made x tenant there s memory in
    (changed_system x t next sharing, next, slice_get-set x.world t tenant next there, stands, memory')

-- some of one kind before others and one more
replicated : {X : Type 0} (n k : ℕ) (one last : X) → replicate n one ++ (replicate k one ++ last ∷ []) ≡ replicate (n + k) one ++ last ∷ []
replicated n k one last = sym (append_assoc (replicate n one) (replicate k one) (last ∷ [])) ∙ ap (λ xs. xs ++ last ∷ []) (replicate-append-replicate n k one)

-- steps that were made after others
steps-join : (t n k : ℕ) (last : Option Reply) (events more : List Event) (replies further : List Reply) → AreSteps t n None events replies → AreSteps t k last more further → AreSteps t (n + k) last (events ++ more) (replies ++ further)
steps-join t n k None events more replies further (steps, all) (next, rest) =
    (rw (steps, next) (replicate-append-replicate n k (Step t)), rw (all, rest) (replicate-append-replicate n k Stepped))
steps-join t n k (Some last) events more replies further (steps, all) (m, few, other, next, rest) =
    (n + m, omega (arith, few), other, rw (steps, next) (replicated n m (Step t) (Step t)), rw (all, rest) (replicated n m Stepped last))

-- steps that were made one after another
pub made-join : (t n k : ℕ) (one two three : TenantView) (before between after : MemoryState) (last : Option Reply)
    → HasMadeSteps t one before n None two between → HasMadeSteps t two between k last three after → HasMadeSteps t one before (n + k) last three after
made-join t n k one two three before between after last first second x tenant there s memory =
    let (next, sharing, stands, memory', (events, replies, steps, all)) = first x tenant there s memory in
    let x' = changed_system x t next sharing in
    let (next', sharing', stands', memory'', (more, further, rest, following)) = second x' next (slice_get-set x.world t tenant next there) stands memory' in
    let same = changed_system-twice x t next next' sharing sharing' in (
      next',
      sharing',
      stands',
      subst (StandsForMemory after) same memory'',
      (
        events ++ more,
        replies ++ further,
        steps-join t n k last events more replies further steps rest,
        subst (AllHappen x (events ++ more) (replies ++ further)) same (AllHappen-join x x' (changed_system x' t next' sharing') events more replies further all following),
      ),
    )

-- no steps
pub made-none : (t : ℕ) (old : TenantView) (memory : MemoryState) → HasMadeSteps t old memory 0 None old memory
made-none t old memory x tenant there s stands =
    let same : changed_system x t tenant x.sharing ≡ x = changed_system-same x t tenant there in
    (tenant, x.sharing, s, subst (StandsForMemory memory) (sym same) stands, ([], [], (refl, refl), same))

-- fewer than 2^32 steps were made of a run that is open
run-few : (kept : TenantView) (tenant : Tenant) → StandsForTenant kept tenant → steps_of kept.run < 4294967296
run-few kept tenant s = few kept.run refl
  where
    few : (run : Option KeptRun) → kept.run ≡ run → steps_of run < 4294967296
    few None is = omega arith
    few (Some open_run) is =
        let (r, is_open, stood) = run-found kept.programs open_run tenant.run (subst (λ found. StandsForAnyRun kept.programs found tenant.run) is s.run) in
        let verified = verified-at kept.programs open_run.program stood.accepted s.verified stood.numbered in
        let here = verified.lawful.instructions r.state.slot stood.state.description stood.state.found in
        let within = here.within in
        let text = stood.accepted.subject.text in
        let sized = verified.subject.text.sized in
        let counted = stood.state.steps in
        let fits = instructions_fit text open_run.run.slot in
        let at = stood.state.slot in
        let most = sized.most in
        omega (arith, within, most, counted, fits, at)

-- a run that goes on can't have made 2^32 steps, those before among them
pub made-few : (t n : ℕ) (old new : TenantView) (memory : MemoryState) → IsKept t new memory → HasCounted old n None new → 4294967296 ≤ steps_of old.run + n → ⊥
made-few t n old new memory (x, tenant, there, s, stands) counted great =
    let few = run-few new tenant s in
    omega (arith, few, counted, great)

-- there is no reply
pub is_none_there : (last : Option Reply) → is_some last ≡ false → last ≡ None
is_none_there None none = refl
is_none_there (Some reply) none = absurd (cc)

-- a limit that is higher
pub made-some : (t n limit : ℕ) (old new : TenantView) (before after : MemoryState) (last : Option Reply) → n ≤ limit → is_some last ≡ true → HasMadeSteps t old before n last new after → HasMadeSteps t old before limit last new after
made-some t n limit old new before after None less there made x tenant found s stands = absurd (cc)
made-some t n limit old new before after (Some last) less there made x tenant found s stands =
    let (next, sharing, stands', memory', (events, replies, (m, few, other, steps, all), happen)) = made x tenant found s stands in
    (next, sharing, stands', memory', (events, replies, (m, omega (arith, few, less), other, steps, all), happen))

-- a tenant and a memory to which an event happened still stand for a system
pub kept-served : (t : ℕ) (old new : TenantView) (before after : MemoryState) (event : Event) (reply : Reply) → IsServed t old before event reply new after → IsKept t old before → IsKept t new after
kept-served t old new before after event reply served (x, tenant, there, s, memory) =
    let (next, sharing, stands, memory', happens, promised) = served x tenant there s memory in
    (changed_system x t next sharing, next, slice_get-set x.world t tenant next there, stands, memory')

module _ (t k : ℕ) (context : List ℕ) (old begun : TenantView) (before between : MemoryState) (reply : Reply) (reads : ReadsAs between) (served : IsServed t old before (Begin t k context) reply begun between) where
  -- a whole run that isn't begun
  pub run-refused : reply ≢ Begun → HasMadeRun t old before k context reply begun between
  run-refused other x tenant there s memory =
      let (next, sharing, stands, memory', happens, promised) = served x tenant there s memory in
      (next, sharing, stands, memory', inl (other, happens, promised, covered between (changed_system x t next sharing) reads memory'))

  -- a whole run that is begun, and makes its steps
  pub run-made : reply ≡ Begun → (new : TenantView) (after : MemoryState) (o : Option Reply) (last : Reply) → o ≡ Some last → HasMadeSteps t begun between 4294967296 o new after → HasMadeRun t old before k context last new after
  run-made is new after o last some made x tenant there s memory =
      let (next, sharing, stands, memory', happens, promised) = served x tenant there s memory in
      let x' = changed_system x t next sharing in
      let (next', sharing', stands', memory'', steps) = made x' next (slice_get-set x.world t tenant next there) stands memory' in
      let same = changed_system-twice x t next next' sharing sharing' in
      let all = subst (λ (one : Option Reply). StepsHappen x' t 4294967296 one (changed_system x' t next' sharing')) some steps in (
        next',
        sharing',
        stands',
        subst (StandsForMemory after) same memory'',
        inr (
          x',
          (
            subst (λ (one : Reply). Happens x (Begin t k context) one x') is happens,
            subst (λ (one : Reply). IsPromised x (Begin t k context) one x') is promised,
            covered between x' reads memory',
          ),
          subst (StepsHappen x' t 4294967296 (Some last)) same all,
        ),
      )
