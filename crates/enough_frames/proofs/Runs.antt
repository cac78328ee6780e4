-- What a whole run keeps, so that the next one finds its frames, too.
use Rattle.std.proofs.Common.{◌≡◌, ◌∙◌, inl, inr, ⊎_elim, ℕ, zero, suc, ◌+◌, ◌&&◌, Bool, true, false, if◌then◌else◌, List, [], ◌∷◌, ◌++◌, replicate, slice_index_or, slice_set, sum_by, Option, Some, None, MatchOption, option_map, is_some, refl, sym, ap, subst, arith}
use Rattle.std.specs.List.{slice_get}
use Rattle.std.proofs.lemmas.List.Sums.{sum_by-cons}
use Rattle.std.proofs.lemmas.Bool.Decides.{eqb_tells}
use Rattle.host_types.specs.declared.event.Event.{Event}
use Rattle.host_types.specs.declared.event.Event.TheVariants.{Begin, Step}
use Rattle.host_types.specs.declared.fault.Fault.TheVariants as fault
use Rattle.host_types.specs.Pins.{broken_for_run, broken_for_run_from, pinned, released}
use Rattle.host_types.specs.Sharing.{Sharing, PageState, state_at, is_shared_page, broken, broken_page, left_by}
use Rattle.host_types.proofs.Unmerging.{AreListed, breaks}
use Rattle.host_types.proofs.Without.{one_when}
use Rattle.write_break.specs.Stores.{page_of_byte, touched}
use Rattle.interp.specs.Machine.{Outcome, Next, Exits, step}
use Rattle.interp.specs.Written.{Written, written}
use Rattle.host_core.specs.declared.reply.Reply.{Reply}
use Rattle.host_core.specs.declared.reply.Reply.TheVariants.{Begun, Stepped, Ended, Refused}
use Rattle.host_core.specs.World.{OpenRun, Tenant, World, System, begun_run}
use Rattle.host_core.specs.Happens.{Answers, Happens, AllHappen, StepsHappen, RunHappens, StepLeads, StepHappens, BeginHappens, begin_refusal, changed_system, sharing_after}
use Rattle.host_core.specs.Many.{context_at, RunsFirst, RunsMany}
use Rattle.host_core.proofs.Worlds.{slice_get-set, slice_get-set-other}
use Rattle.enough_frames.specs.Frames.{pages_in, pages_of_all, AreEnough}
use Rattle.enough_frames.proofs.Cases.{of_tenant, refused_or}
use Rattle.enough_frames.proofs.Held.{present}
use Rattle.enough_frames.proofs.Lacking.{Has, begun, made_steps}
use Rattle.enough_frames.proofs.Shapes.{shapes_of, step-shapes, pages-shapes}
use Rattle.enough_frames.proofs.Systems.{RunsHaveMaps, Kept}

-- ---- pages that a store takes out

-- groups are as their pages say, and as many pages are there
abbrev Keeps : Sharing → Sharing → Type 0
Keeps s s' = AreListed s → AreListed s' × (present s' ≡ present s)

present-set : (xs : List (Option PageState)) (i : ℕ)
    → sum_by (λ (page : Option PageState). one_when (is_some page)) (slice_set xs i (option_map broken_page (slice_index_or xs i None)))
    ≡ sum_by (λ (page : Option PageState). one_when (is_some page)) xs
present-set [] i = refl
present-set (None ∷ xs) zero = refl
present-set (Some state ∷ xs) zero =
    let old = sum_by-cons (λ (page : Option PageState). one_when (is_some page)) (Some state) xs in
    let new = sum_by-cons (λ (page : Option PageState). one_when (is_some page)) (Some (broken_page state)) xs in
    omega (arith, old, new)
present-set (x ∷ xs) (suc i) =
    let old = sum_by-cons (λ (page : Option PageState). one_when (is_some page)) x xs in
    let new = sum_by-cons (λ (page : Option PageState). one_when (is_some page)) x (slice_set xs i (option_map broken_page (slice_index_or xs i None))) in
    let rest = present-set xs i in
    omega (arith, old, new, rest)

present-broken : (s : Sharing) (i : ℕ) → present (broken s i) ≡ present s
unfolding broken
present-broken s i = by_test (is_shared_page (state_at s i))
  where
    by_test : (b : Bool)
        → present (if b then record s { pages = slice_set s.pages i (option_map broken_page (state_at s i)); groups = left_by i s.groups } else s) ≡ present s
    by_test true = present-set s.pages i
    by_test false = refl

broken-keeps : (s : Sharing) (i : ℕ) → Keeps s (broken s i)
broken-keeps s i are = ((breaks s i are).listed, present-broken s i)

pinned-keeps : (s : Sharing) (i : ℕ) → Keeps s (pinned s i)
pinned-keeps s i are = (record { some = are.some; once = are.once }, refl)

chained : (a b c : Sharing) → Keeps a b → Keeps b c → Keeps a c
chained a b c first second are = let (listed, same) = first are in let (later, alike) = second listed in (later, alike ∙ same)

for_run-keeps : (running : Bool) (s : Sharing) (i : ℕ) → Keeps s (broken_for_run running s i)
unfolding broken_for_run
for_run-keeps running s i = by_test (running && is_shared_page (state_at s i))
  where
    by_test : (b : Bool) → Keeps s (if b then pinned (broken s i) i else broken s i)
    by_test true = chained s (broken s i) (pinned (broken s i) i) (broken-keeps s i) (pinned-keeps (broken s i) i)
    by_test false = broken-keeps s i

from-keeps : (running : Bool) (s : Sharing) (i n : ℕ) → Keeps s (broken_for_run_from running s i n)
unfolding broken_for_run_from
from-keeps running s i zero are = (are, refl)
from-keeps running s i (suc n) are =
    chained s (broken_for_run running s i) (broken_for_run_from running (broken_for_run running s i) (i + 1) n)
    (for_run-keeps running s i) (from-keeps running (broken_for_run running s i) (i + 1) n) are

after-keeps : (s : Sharing) (t : ℕ) (w : Option Written) → Keeps s (sharing_after s t w)
after-keeps s t None are = (are, refl)
after-keeps s t (Some w) are = from-keeps true s (page_of_byte t w.map w.at) (touched w.at w.size) are

released-keeps : (s : Sharing) (t : ℕ) → Keeps s (released s t)
released-keeps s t are = (record { some = are.some; once = are.once }, refl)

-- ---- a system after a tenant changed

-- what runs keep holds again, and as many pages and frames are there
record Follows (x x' : System) : Type 0 where
  kept : Kept x'
  pages : pages_of_all x'.world ≡ pages_of_all x.world
  frames : x'.frames ≡ x.frames

stays : (x x' : System) → Kept x → x' ≡ x → Follows x x'
stays x x' is e = subst (Follows x) (sym e) (record { kept = is; pages = refl; frames = refl })

joins : (x y z : System) → Follows x y → Follows y z → Follows x z
joins x y z first second = record { kept = second.kept; pages = second.pages ∙ first.pages; frames = second.frames ∙ first.frames }

pages-set : (w : World) (t : ℕ) (tenant next : Tenant) → slice_get w t ≡ Some tenant → pages_in next.maps ≡ pages_in tenant.maps
    → pages_of_all (slice_set w t next) ≡ pages_of_all w
pages-set [] t tenant next there same = refl
pages-set (other ∷ w) zero tenant next there same =
    let is : other ≡ tenant = cc in
    let old = sum_by-cons (λ (u : Tenant). pages_in u.maps) other w in
    let new = sum_by-cons (λ (u : Tenant). pages_in u.maps) next w in
    let alike = ap (λ (u : Tenant). pages_in u.maps) is in
    omega (arith, old, new, alike, same)
pages-set (other ∷ w) (suc t) tenant next there same =
    let old = sum_by-cons (λ (u : Tenant). pages_in u.maps) other w in
    let new = sum_by-cons (λ (u : Tenant). pages_in u.maps) other (slice_set w t next) in
    let rest = pages-set w t tenant next there same in
    omega (arith, old, new, rest)

changes : (x : System) (t : ℕ) (tenant next : Tenant) (sharing : Sharing) → Kept x → slice_get x.world t ≡ Some tenant → shapes_of next.maps ≡ shapes_of tenant.maps
    → ((r : OpenRun) → next.run ≡ Some r → shapes_of next.maps ≡ shapes_of r.state.memory.maps) → Keeps x.sharing sharing
    → Follows x (changed_system x t next sharing)
changes x t tenant next sharing is there shapes runs keeps =
    let (listed, same) = keeps is.listed in
    let pages = pages-set x.world t tenant next there (pages-shapes next.maps tenant.maps shapes) in
    record {
      kept = record { listed = listed; few = let few = is.few in omega (arith, few, same, pages); runs = all_runs };
      pages = pages;
      frames = refl;
    }
  where
    all_runs : RunsHaveMaps (slice_set x.world t next)
    all_runs u other r found some =
        ⊎_elim
        (λ same.
        let here : slice_get (slice_set x.world t next) t ≡ Some other = subst (λ (k : ℕ). slice_get (slice_set x.world t next) k ≡ Some other) same.1 found in
        let set = slice_get-set x.world t tenant next there in
        let alike : next ≡ other = cc in
        subst (λ (v : Tenant). v.run ≡ Some r → shapes_of v.maps ≡ shapes_of r.state.memory.maps) alike (runs r) some)
        (λ differs. is.runs u other r (sym (slice_get-set-other x.world t u next differs.1) ∙ found) some)
        (eqb_tells u t)

-- ---- the events of a run

begins : (x : System) (t : ℕ) (tenant : Tenant) (k : ℕ) (context : List ℕ) (reply : Reply) (x' : System) → Kept x → slice_get x.world t ≡ Some tenant
    → BeginHappens x t tenant k context reply x' → Follows x x'
begins x t tenant k context reply x' is there (p, at, inl h) = stays x x' is h.1.1
begins x t tenant k context reply x' is there (p, at, inr (has, inl h)) = stays x x' is h.1
begins x t tenant k context reply x' is there (p, at, inr (has, inr h)) =
    subst (Follows x) (sym h.1)
    (changes x t tenant (record tenant { run = Some (begun_run p context tenant.maps) }) x.sharing is there refl
    (λ r e. let same : begun_run p context tenant.maps ≡ r = cc in ap (λ (q : OpenRun). shapes_of q.state.memory.maps) same) (λ are. (are, refl)))

begin-follows : (x : System) (t k : ℕ) (context : List ℕ) (reply : Reply) (x' : System) → Kept x → Happens x (Begin t k context) reply x' → Follows x x'
begin-follows x t k context reply x' is h = of_tenant (Follows x x') x t reply x' _ (λ k'. stays x x' is k'.1) (λ tenant there k'.
    refused_or (Follows x x') (begin_refusal tenant k context) x reply x' (BeginHappens x t tenant k context reply x') (λ _ _ k''. stays x x' is k''.1)
    (λ _. begins x t tenant k context reply x' is there) k') h

leads : (x : System) (t : ℕ) (tenant : Tenant) (r : OpenRun) (sharing : Sharing) (outcome : Outcome) (reply : Reply) (x' : System) → Kept x
    → slice_get x.world t ≡ Some tenant → tenant.run ≡ Some r → step r.program.text r.state ≡ Some outcome → Keeps x.sharing sharing
    → StepLeads x t tenant r sharing outcome reply x' → Follows x x'
leads x t tenant r sharing (Next s) reply x' is there some made keeps h =
    let shapes = step-shapes r.program.text r.state (Next s) made in
    subst (Follows x) (sym h.1)
    (changes x t tenant (record tenant { maps = s.memory.maps; run = Some (record r { state = s; steps = suc r.steps }) }) sharing is there
    (shapes ∙ sym (is.runs t tenant r there some))
    (λ q e. let same : record r { state = s; steps = suc r.steps } ≡ q = cc in ap (λ (o : OpenRun). shapes_of o.state.memory.maps) same) keeps)
leads x t tenant r sharing (Exits number maps) reply x' is there some made keeps h =
    let shapes = step-shapes r.program.text r.state (Exits number maps) made in
    subst (Follows x) (sym h.1)
    (changes x t tenant (record tenant { maps = maps; run = None }) (released sharing t) is there
    (shapes ∙ sym (is.runs t tenant r there some)) (λ q e. absurd (cc))
    (chained x.sharing sharing (released sharing t) keeps (released-keeps sharing t)))

step-follows : (x : System) (t : ℕ) (reply : Reply) (x' : System) → Kept x → Happens x (Step t) reply x' → Follows x x'
step-follows x t reply x' is h =
    of_tenant (Follows x x') x t reply x'
    (λ (tenant : Tenant). MatchOption tenant.run (Answers x (Refused fault.NoRun) reply x') (λ r. StepHappens x t tenant r reply x')) (λ k. stays x x' is k.1)
    (λ tenant there k. by_run tenant there tenant.run refl k) h
  where
    by_run : (tenant : Tenant) → slice_get x.world t ≡ Some tenant → (run : Option OpenRun) → tenant.run ≡ run
        → MatchOption run (Answers x (Refused fault.NoRun) reply x') (λ r. StepHappens x t tenant r reply x') → Follows x x'
    by_run tenant there None e k = stays x x' is k.1
    by_run tenant there (Some r) e k =
        leads x t tenant r (sharing_after x.sharing t (written r.program.text r.state)) k.0 reply x' is there e k.1
        (after-keeps x.sharing t (written r.program.text r.state)) k.2

-- ---- whole runs

all_steps : (n t : ℕ) (x : System) (last : Reply) (x' : System) → Kept x
    → AllHappen x (replicate n (Step t) ++ Step t ∷ []) (replicate n Stepped ++ last ∷ []) x' → Follows x x'
all_steps zero t x last x' is h =
    let one = step-follows x t last h.0 is h.1 in
    joins x h.0 x' one (stays h.0 x' one.kept h.4)
all_steps (suc n) t x last x' is h =
    let one = step-follows x t Stepped h.0 is h.1 in
    joins x h.0 x' one (all_steps n t h.0 last x' one.kept h.4)

steps-follow : (x : System) (t limit : ℕ) (last : Reply) (x' : System) → Kept x → StepsHappen x t limit (Some last) x' → Follows x x'
steps-follow x t limit last x' is (events, replies, (n, below, other, all, given), h) =
    all_steps n t x last x' is (subst (λ (rs : List Reply). AllHappen x (replicate n (Step t) ++ Step t ∷ []) rs x') given
    (subst (λ (es : List Event). AllHappen x es replies x') all h))

run-follows : (x : System) (t k : ℕ) (context : List ℕ) (reply : Reply) (x' : System) → Kept x → RunHappens x t k context reply x' → Follows x x'
run-follows x t k context reply x' is (inl h) = begin-follows x t k context reply x' is h.1
run-follows x t k context reply x' is (inr (opened, h, made)) =
    let first = begin-follows x t k context Begun opened is h.0 in
    joins x opened x' first (steps-follow opened t 4294967296 reply x' first.kept made)

pub run-has : (x : System) (t k : ℕ) (context : List ℕ) (reply : Reply) (x' : System) → Kept x → AreEnough x 0 → RunHappens x t k context reply x' → Has reply
run-has x t k context reply x' is enough (inl h) = begun x t k context reply x' is enough h.1
run-has x t k context reply x' is enough (inr (opened, h, made)) = made_steps opened t 4294967296 reply x' made

first-follow : (t k : ℕ) (contexts : List ℕ) (size : ℕ) (rets : List ℕ) (n : ℕ) (x x' : System) → Kept x → RunsFirst t k contexts size rets n x x' → Follows x x'
first-follow t k contexts size rets zero x x' is h = stays x x' is h
first-follow t k contexts size rets (suc n) x x' is (between, before, (steps, run)) =
    let first = first-follow t k contexts size rets n x between is before in
    joins x between x' first (run-follows between t k (context_at contexts size n) (Ended (slice_index_or rets n 0) steps) x' first.kept run)

-- runs of many contexts in one call
pub many-have : (x x' : System) (t k : ℕ) (contexts : List ℕ) (size : ℕ) (rets : List ℕ) (n : ℕ) (reply : Reply) → Kept x → AreEnough x 0
    → RunsMany t k contexts size rets n (Some reply) x x' → Has reply
many-have x x' t k contexts size rets n reply is enough (between, first, (other, run)) =
    let follows = first-follow t k contexts size rets n x between is first in
    let pages = follows.pages in
    let frames = follows.frames in
    run-has between t k (context_at contexts size n) reply x' follows.kept (omega (arith, enough, pages, frames)) run
