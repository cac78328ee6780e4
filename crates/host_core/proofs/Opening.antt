-- What the beginning of a run does to a tenant and to each system that it stands in.
use Rattle.std.proofs.Common.{◌≡◌, ◌≢◌, ℕ, ◌<◌, ◌≤◌, ◌==◌, true, false, List, length, slice_index_or, inl, inr, Option, Some, None, is_some, sym, ap, refl, ◌∙◌, subst, eq-eqb, ne_eqb, arith}
use Rattle.std.specs.List.{slice_get}
use Rattle.std.specs.Option.{option_map}
use Rattle.std.proofs.lemmas.List.{ext_get_or}
use Rattle.host_types.specs.declared.fault.Fault.{Fault}
use Rattle.host_types.specs.declared.fault.Fault.TheVariants.{NoFrames, Busy, NoProgram, BadContext, OutOfMemory}
use Rattle.host_types.specs.Tenant.{TenantPart}
use Rattle.bpf_decode.specs.Text.{slots_of}
use Rattle.page_table.specs.Changes.{OtherTenantsUnchanged, with_run, opened}
use Rattle.page_table.specs.Reads.{ReadsAs}
use Rattle.page_table.specs.State.{MemoryState, part, have_of}
use Rattle.verifier.specs.Named.{named_shapes}
use Rattle.admission.specs.Reserve.{needed_from}
use Rattle.verifier.specs.Subject.{Subject}
use Rattle.verifier.specs.Table.{described, tight_table}
use Rattle.verifier.specs.Verified.{Accepted, IsVerified}
use Rattle.verifier.proofs.Tables.{tables_agree}
use Rattle.verifier.proofs.Tight.{length-tight, tight_is_tight}
use Rattle.interp.specs.Fits.{HaveShapes}
use Rattle.interp.specs.StandsFor.{Running, IsBegun}
use Rattle.tenant_runs.specs.UnderWay.{RefusesOpen}
use Rattle.tenant_runs.proofs.Rooms.{opened_keeps}
use Rattle.host_types.specs.declared.event.Event.TheVariants.{Begin}
use Rattle.host_core.specs.declared.reply.Reply.TheVariants.{Begun, Refused}
use Rattle.host_core.specs.World.{Tenant, System, program_at, begun_run, accepted_of, pins_of, owned_by, have_in}
use Rattle.host_core.specs.Happens.{BeginHappens, Leaves, MayLackFrames, MayLackMemory, begin_refusal, changed_system}
use Rattle.host_core.specs.HostView.{TenantView, EachProgram, StandsForTenant, StandsForMemory, IsKept, IsServed}
use Rattle.host_core.proofs.Indices.{get_or-there, slice_get-there, all-at}
use Rattle.host_core.proofs.Worlds.{OfTenant-there, RefusedOr-refused, RefusedOr-else}
use Rattle.host_core.proofs.Memories.{reserve-idle}
use Rattle.host_core.proofs.Systems.{part_stands, have_stands, changed_stands}
use Rattle.host_core.proofs.Serving.{is_some-run, served-same}

-- a verified program has the one table that says just what flows
pub accepted-tight : (v : Accepted) → IsVerified v → accepted_of v.subject ≡ v
accepted-tight v verified =
    let p : Subject = v.subject in
    let n : ℕ = slots_of p.text in
    let whole : length (tight_table p) ≡ n = length-tight p n in
    let agree : (s : ℕ) → s < n → described (tight_table p) s ≡ described v.table s = tables_agree p (tight_table p) v.table n (tight_is_tight p n) verified.tight.tight in
    let same : tight_table p ≡ v.table = ext_get_or None (tight_table p) v.table (whole ∙ sym verified.tight.whole) (λ k less. agree k (omega (arith, less, whole))) in
    ap (λ table. record { subject = p; table = table }) same

-- the program that a host keeps at one of a tenant's indices
abbrev pub accepted_at : TenantView → ℕ → Option Accepted
accepted_at kept k = slice_index_or kept.programs k None

-- what a lent list of the indices says of one of them
pub lent-at : (kept : TenantView) (lent : List (Option Accepted)) (k : ℕ) {found : Option Accepted} → lent ≡ kept.programs → found ≡ slice_index_or lent k None → accepted_at kept k ≡ found
lent-at kept lent k same says = ap (λ programs. slice_index_or programs k None) (sym same) ∙ sym says

-- the same program is at each index
pub program_at-kept : (kept : TenantView) (tenant : Tenant) (k : ℕ) → StandsForTenant kept tenant → program_at tenant k ≡ option_map (λ (v : Accepted). v.subject) (accepted_at kept k)
program_at-kept kept tenant k stands = ap (λ programs. slice_index_or programs k None) stands.programs ∙ get_or-there (λ (v : Accepted). v.subject) kept.programs k

-- what is said of each program holds of the one at an index
each-at : (P : Accepted → Type 0) (kept : TenantView) (k : ℕ) (v : Accepted) → EachProgram P kept.programs → accepted_at kept k ≡ Some v → P v
each-at P kept k v all found = all-at P kept.programs k v all (slice_get-there kept.programs k v found)

-- for a tenant that is kept nothing is reserved where it has no open run, and none is open in the memory
pub kept-idle : (t : ℕ) (kept : TenantView) (memory : MemoryState) → IsKept t kept memory → is_some kept.run ≡ false → (part memory t).reserve ≡ 0
kept-idle t kept memory (x, tenant, there, stands, holds) idle =
    ap (λ (owned : TenantPart). owned.reserve) (part_stands memory x t tenant holds there)
    ∙ reserve-idle (pins_of x.sharing t) tenant.maps tenant.run (is_some-run kept.programs kept.run tenant.run stands.run ∙ idle)

pub kept-resting : (t : ℕ) (kept : TenantView) (memory : MemoryState) → IsKept t kept memory → is_some kept.run ≡ false → (part memory t).running ≡ false
kept-resting t kept memory (x, tenant, there, stands, holds) idle =
    ap (λ (owned : TenantPart). owned.running) (part_stands memory x t tenant holds there) ∙ is_some-run kept.programs kept.run tenant.run stands.run ∙ idle

-- a run that begins while another is open
begin_refusal-busy : (tenant : Tenant) (k : ℕ) (context : List ℕ) → is_some tenant.run ≡ true → begin_refusal tenant k context ≡ Some Busy
begin_refusal-busy tenant k context busy = rw busy refl

-- a run of a program that isn't there
begin_refusal-no_program : (tenant : Tenant) (k : ℕ) (context : List ℕ) → is_some tenant.run ≡ false → program_at tenant k ≡ None → begin_refusal tenant k context ≡ Some NoProgram
begin_refusal-no_program tenant k context idle missing = rw (idle, missing) refl

-- a run on a context of another size
begin_refusal-context : (tenant : Tenant) (k : ℕ) (context : List ℕ) (p : Subject) → is_some tenant.run ≡ false → program_at tenant k ≡ Some p → length context ≢ p.context_size → begin_refusal tenant k context ≡ Some BadContext
begin_refusal-context tenant k context p idle found other =
    let differs : (length context == p.context_size) ≡ false = ne_eqb (length context) p.context_size other in
    rw (idle, found, differs) refl

-- a run that nothing forbids
begin_refusal-none : (tenant : Tenant) (k : ℕ) (context : List ℕ) (p : Subject) → is_some tenant.run ≡ false → program_at tenant k ≡ Some p → length context ≡ p.context_size → begin_refusal tenant k context ≡ None
begin_refusal-none tenant k context p idle found same =
    let fits : (length context == p.context_size) ≡ true = eq-eqb (length context) p.context_size same in
    rw (idle, found, fits) refl

-- a run that is refused at once
begin-refused : (t k : ℕ) (old : TenantView) (memory : MemoryState) (context : List ℕ) (f : Fault) → ((tenant : Tenant) → StandsForTenant old tenant → begin_refusal tenant k context ≡ Some f)
    → IsServed t old memory (Begin t k context) (Refused f) old memory
begin-refused t k old memory context f seen =
    served-same t old memory (Begin t k context) (Refused f) (λ x tenant there stands holds.
    (OfTenant-there x t (Refused f) x _ tenant there (RefusedOr-refused (begin_refusal tenant k context) x (Refused f) x _ f (seen tenant stands) (refl, refl)), tt))

-- a run that begins while another is open
pub begin-busy : (t k : ℕ) (old : TenantView) (memory : MemoryState) (context : List ℕ) → is_some old.run ≡ true → IsServed t old memory (Begin t k context) (Refused Busy) old memory
begin-busy t k old memory context busy =
    begin-refused t k old memory context Busy
    (λ tenant stands. begin_refusal-busy tenant k context (is_some-run old.programs old.run tenant.run stands.run ∙ busy))

-- a run of a program that isn't there
pub begin-no_program : (t k : ℕ) (old : TenantView) (memory : MemoryState) (context : List ℕ) → is_some old.run ≡ false → accepted_at old k ≡ None
    → IsServed t old memory (Begin t k context) (Refused NoProgram) old memory
begin-no_program t k old memory context idle missing =
    begin-refused t k old memory context NoProgram (λ tenant stands.
    begin_refusal-no_program tenant k context
    (is_some-run old.programs old.run tenant.run stands.run ∙ idle)
    (program_at-kept old tenant k stands ∙ ap (option_map (λ (v : Accepted). v.subject)) missing))

module _ (t k : ℕ) (old : TenantView) (context : List ℕ) (v : Accepted) (idle : is_some old.run ≡ false) (found : accepted_at old k ≡ Some v) where
  -- the same program of the system's tenant
  numbered : (tenant : Tenant) → StandsForTenant old tenant → program_at tenant k ≡ Some v.subject
  numbered tenant stands = program_at-kept old tenant k stands ∙ ap (option_map (λ (a : Accepted). a.subject)) found

  none-open : (tenant : Tenant) → StandsForTenant old tenant → is_some tenant.run ≡ false
  none-open tenant stands = is_some-run old.programs old.run tenant.run stands.run ∙ idle

  -- a run on a context of another size
  begin-context : (memory : MemoryState) → length context ≢ v.subject.context_size → IsServed t old memory (Begin t k context) (Refused BadContext) old memory
  begin-context memory other =
      begin-refused t k old memory context BadContext (λ tenant stands.
      begin_refusal-context tenant k context v.subject (none-open tenant stands) (numbered tenant stands) other)

  -- what frames the run needs, as the system's tenant has it
  charged : (memory : MemoryState) (x : System) (tenant : Tenant) → slice_get x.world t ≡ Some tenant → StandsForTenant old tenant → StandsForMemory memory x
      → needed_from v (part memory t) 0 ≡ needed_from (accepted_of v.subject) (owned_by x.sharing t tenant) 0
  charged memory x tenant there stands holds =
      ap (λ o. needed_from v o 0) (part_stands memory x t tenant holds there)
      ∙ ap (λ a. needed_from a (owned_by x.sharing t tenant) 0) (sym (accepted-tight v (each-at IsVerified old k v stands.verified found)))

  -- a run that nothing forbids, and that isn't opened
  begin-tried : (memory : MemoryState) (f : Fault) → length context ≡ v.subject.context_size
      → ((x : System) (tenant : Tenant) → needed_from v (part memory t) 0 ≡ needed_from (accepted_of v.subject) (owned_by x.sharing t tenant) 0 → have_of memory ≡ have_in x
      → MayLackFrames x (needed_from (accepted_of v.subject) (owned_by x.sharing t tenant) 0) (Refused f) x (MayLackMemory x (Refused f) x (Leaves x t (record tenant { run = Some (begun_run v.subject context tenant.maps) }) x.sharing Begun (Refused f) x)))
      → IsServed t old memory (Begin t k context) (Refused f) old memory
  begin-tried memory f fits lacks =
      served-same t old memory (Begin t k context) (Refused f) (λ x tenant there stands holds.
      let none = begin_refusal-none tenant k context v.subject (none-open tenant stands) (numbered tenant stands) fits in
      let happens : BeginHappens x t tenant k context (Refused f) x = (v.subject, numbered tenant stands, lacks x tenant (charged memory x tenant there stands holds) (have_stands memory x holds)) in
      (OfTenant-there x t (Refused f) x _ tenant there (RefusedOr-else (begin_refusal tenant k context) x (Refused f) x _ none happens), tt))

  -- a run for which there is no memory
  begin-lacks_memory : (memory : MemoryState) → length context ≡ v.subject.context_size → needed_from v (part memory t) 0 ≤ have_of memory → IsServed t old memory (Begin t k context) (Refused OutOfMemory) old memory
  begin-lacks_memory memory fits enough =
      begin-tried memory OutOfMemory fits (λ x tenant charge had.
      inr (subst (λ n. n ≤ have_in x) charge (subst (λ n. needed_from v (part memory t) 0 ≤ n) had enough), inl (refl, refl)))

  -- a run for which frames are missing
  begin-lacks_frames : (memory : MemoryState) (need have : ℕ) → length context ≡ v.subject.context_size → need ≡ needed_from v (part memory t) 0 → have ≡ have_of memory → have < need
      → IsServed t old memory (Begin t k context) (Refused (NoFrames need have)) old memory
  begin-lacks_frames memory need have fits needs has less =
      begin-tried memory (NoFrames need have) fits (λ x tenant charge had.
      let needed = needs ∙ charge in
      let there = has ∙ had in
      let reply : Refused (NoFrames need have) ≡ Refused (NoFrames (needed_from (accepted_of v.subject) (owned_by x.sharing t tenant) 0) (have_in x)) =
      ap (λ n. Refused (NoFrames n have)) needed ∙ ap (λ n. Refused (NoFrames (needed_from (accepted_of v.subject) (owned_by x.sharing t tenant) 0) n)) there in
      inl (subst (λ n. have_in x < n) needed (subst (λ n. n < need) there less), (reply, refl)))

  -- a run that isn't opened
  pub begin-not_opened : (memory : MemoryState) (f : Fault) → RefusesOpen v context memory t f → IsServed t old memory (Begin t k context) (Refused f) old memory
  begin-not_opened memory (NoFrames need have) (fits, needs, has, less) = begin-lacks_frames memory need have fits needs has less
  begin-not_opened memory BadContext other = begin-context memory other
  begin-not_opened memory OutOfMemory (fits, enough) = begin-lacks_memory memory fits enough
  begin-not_opened memory fault refuses = absurd refuses

-- what is known once a run was admitted
pub record HasAdmitted (t : ℕ) (before after : MemoryState) (v : Accepted) : Type 0 where
  pub enough : needed_from v (part before t) 0 ≤ have_of before
  pub recorded : part after t ≡ with_run (needed_from v (part before t) 0) (part before t)
  pub all : after ≡ opened before t (needed_from v (part before t) 0)
  pub others : OtherTenantsUnchanged t before after
  pub reads : ReadsAs after

-- a tenant with a run that has just begun
begun_stands : (k : ℕ) (old : TenantView) (tenant : Tenant) (context : List ℕ) (run : Running) (v : Accepted) → accepted_at old k ≡ Some v → IsBegun v context run → run.steps ≡ 0 → StandsForTenant old tenant
    → StandsForTenant (record old { run = Some (record { program = k; run = run }) }) (record tenant { run = Some (begun_run v.subject context tenant.maps) })
begun_stands k old tenant context run v found begun none_made stands = record {
  programs = stands.programs;
  verified = stands.verified;
  shapes = stands.shapes;
  run = record {
    accepted = v;
    numbered = slice_get-there old.programs k v found;
    program = refl;
    state = begun tenant.maps stands.fulfils.maps (each-at (λ (a : Accepted). HaveShapes (named_shapes a.subject) tenant.maps) old k v stands.shapes found);
    steps = none_made;
  };
  fulfils = record { maps = stands.fulfils.maps; eight = stands.fulfils.eight; run = record { reached = refl; steps = omega arith }; same = refl };
}

-- a run that begins
pub begin-begun : (t k : ℕ) (old : TenantView) (before after : MemoryState) (context : List ℕ) (run : Running) (v : Accepted) → is_some old.run ≡ false → accepted_at old k ≡ Some v
    → length context ≡ v.subject.context_size → IsBegun v context run → run.steps ≡ 0 → HasAdmitted t before after v
    → IsServed t old before (Begin t k context) Begun (record old { run = Some (record { program = k; run = run }) }) after
begin-begun t k old before after context run v idle found fits begun none_made admits x tenant there stands holds =
    let next : Tenant = record tenant { run = Some (begun_run v.subject context tenant.maps) } in
    let tight : accepted_of v.subject ≡ v = accepted-tight v (each-at IsVerified old k v stands.verified found) in
    let owned : part before t ≡ owned_by x.sharing t tenant = part_stands before x t tenant holds there in
    let charge : needed_from v (part before t) 0 ≡ needed_from (accepted_of v.subject) (owned_by x.sharing t tenant) 0 =
    ap (λ o. needed_from v o 0) owned ∙ ap (λ a. needed_from a (owned_by x.sharing t tenant) 0) (sym tight) in
    let is : part after t ≡ owned_by x.sharing t next =
    admits.recorded ∙ ap (λ n. with_run n (part before t)) charge ∙ ap (with_run (needed_from (accepted_of v.subject) (owned_by x.sharing t tenant) 0)) owned in
    let enough : needed_from (accepted_of v.subject) (owned_by x.sharing t tenant) 0 ≤ have_in x =
    subst (λ n. n ≤ have_in x) charge (subst (λ n. needed_from v (part before t) 0 ≤ n) (have_stands before x holds) admits.enough) in
    let sizes = opened_keeps before after t (needed_from v (part before t) 0) admits.all in
    let shares : after.sharing ≡ x.sharing = ap (λ (memory : MemoryState). memory.sharing) admits.all ∙ holds.sharing in
    let none = begin_refusal-none tenant k context v.subject (none-open t k old context v idle found tenant stands) (numbered t k old context v idle found tenant stands) fits in
    let x' : System = changed_system x t next x.sharing in
    let happens : BeginHappens x t tenant k context Begun x' = (v.subject, numbered t k old context v idle found tenant stands, inr (enough, inr (refl, refl))) in (
      next,
      x.sharing,
      begun_stands k old tenant context run v found begun none_made stands,
      changed_stands before after x t tenant next x.sharing x.sharing holds there sizes.tenants sizes.frames admits.reads stands.fulfils.maps.eight is admits.others shares,
      OfTenant-there x t Begun x' _ tenant there (RefusedOr-else (begin_refusal tenant k context) x Begun x' _ none happens),
      tt,
    )
