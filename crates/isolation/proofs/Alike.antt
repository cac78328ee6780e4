-- Two systems that agree on a tenant, in which the same event of it happens.
use Rattle.std.proofs.Common.{◌≡◌, ℕ, ◌⊎◌, inl, inr, Bool, true, List, Option, Some, None, MatchOption, sym, ap, refl, ◌∙◌, subst}
use Rattle.std.specs.List.{slice_get}
use Rattle.std.specs.Option.{option_map}
use Rattle.host_types.specs.declared.fault.Fault.{Fault}
use Rattle.host_types.specs.declared.fault.Fault.TheVariants as fault
use Rattle.host_types.specs.Sharing.{Sharing}
use Rattle.host_core.specs.declared.reply.Reply.{Reply}
use Rattle.host_core.specs.declared.reply.Reply.TheVariants.{Refused}
use Rattle.host_core.specs.World.{Tenant, System, OpenRun}
use Rattle.host_core.specs.Happens.{Answers, Leaves, RefusedOr, OfTenant}
use Rattle.host_core.proofs.Worlds.{slice_get-set}
use Rattle.isolation.specs.Tenants.{Seen, AgreeOn, seen_by, seen_tenant, seen_run, is_scarce}
use Rattle.isolation.proofs.Happenings.{Happening}

-- one of two replies is scarce, or they are the same and the systems agree on the tenant
abbrev pub Alike : ℕ → Reply → Reply → System → System → Type 0
Alike t reply other x y = (is_scarce reply ≡ true) ⊎ ((is_scarce other ≡ true) ⊎ ((reply ≡ other) × AgreeOn t x y))

-- the reply, and what the tenant sees then
abbrev pub Shows : ℕ → Reply → Seen → Reply → System → Type 0
Shows t answer s reply x' = (reply ≡ answer) × (seen_by t x' ≡ Some s)

pub shows-answer : (t : ℕ) (x x' : System) (tenant : Tenant) (answer reply : Reply) → slice_get x.world t ≡ Some tenant → Answers x answer reply x' → Shows t answer (seen_tenant tenant) reply x'
shows-answer t x x' tenant answer reply there h = (h.0, ap (seen_by t) h.1 ∙ ap (option_map seen_tenant) there)

pub shows-change : (t : ℕ) (x x' : System) (tenant next : Tenant) (sharing : Sharing) (answer reply : Reply) → slice_get x.world t ≡ Some tenant → Leaves x t next sharing answer reply x' → Shows t answer (seen_tenant next) reply x'
shows-change t x x' tenant next sharing answer reply there h =
    (h.0, ap (seen_by t) h.1 ∙ ap (option_map seen_tenant) (slice_get-set x.world t tenant next there))

pub alike-shown : (t : ℕ) (x' y' : System) (reply other answer : Reply) (s : Seen) → Shows t answer s reply x' → Shows t answer s other y' → Alike t reply other x' y'
alike-shown t x' y' reply other answer s h k = inr (inr (h.0 ∙ sym k.0, h.1 ∙ sym k.1))

-- what is seen of two tenants is the same, and the same is answered
pub alike-replied : (t : ℕ) (x y x' y' : System) (a b : Tenant) (answer reply other : Reply) → slice_get x.world t ≡ Some a → slice_get y.world t ≡ Some b → seen_tenant a ≡ seen_tenant b
    → Answers x answer reply x' → Answers y answer other y' → Alike t reply other x' y'
alike-replied t x y x' y' a b answer reply other there found same h k =
    let left = shows-answer t x x' a answer reply there h in
    let right = shows-answer t y y' b answer other found k in
    alike-shown t x' y' reply other answer (seen_tenant b) (left.0, left.1 ∙ ap Some same) right

-- the same tenant, to which the same is answered
pub alike-answered : (t : ℕ) (x y x' y' : System) (tenant : Tenant) (answer reply other : Reply) → slice_get x.world t ≡ Some tenant → slice_get y.world t ≡ Some tenant
    → Answers x answer reply x' → Answers y answer other y' → Alike t reply other x' y'
alike-answered t x y x' y' tenant answer reply other there found h k =
    alike-shown t x' y' reply other answer (seen_tenant tenant) (shows-answer t x x' tenant answer reply there h) (shows-answer t y y' tenant answer other found k)

-- the same tenant, of which the same becomes
pub alike-changed : (t : ℕ) (x y x' y' : System) (tenant next : Tenant) (one two : Sharing) (answer reply other : Reply) → slice_get x.world t ≡ Some tenant → slice_get y.world t ≡ Some tenant
    → Leaves x t next one answer reply x' → Leaves y t next two answer other y' → Alike t reply other x' y'
alike-changed t x y x' y' tenant next one two answer reply other there found h k =
    alike-shown t x' y' reply other answer (seen_tenant next) (shows-change t x x' tenant next one answer reply there h) (shows-change t y y' tenant next two answer other found k)

-- an event of a tenant on which the systems agree
pub of_tenant : (t : ℕ) (x y x' y' : System) (reply other : Reply) (H : Happening) → AgreeOn t x y
    → ((a b : Tenant) → slice_get x.world t ≡ Some a → slice_get y.world t ≡ Some b → seen_tenant a ≡ seen_tenant b → H x a reply x' → H y b other y' → Alike t reply other x' y')
    → OfTenant x t reply x' (λ tenant. H x tenant reply x') → OfTenant y t other y' (λ tenant. H y tenant other y') → Alike t reply other x' y'
of_tenant t x y x' y' reply other H agree both = cases (slice_get x.world t) (slice_get y.world t) refl refl
  where
    seen_same : (p q : Option Tenant) → slice_get x.world t ≡ p → slice_get y.world t ≡ q → option_map seen_tenant p ≡ option_map seen_tenant q
    seen_same p q e f = sym (ap (option_map seen_tenant) e) ∙ agree ∙ ap (option_map seen_tenant) f

    cases : (p q : Option Tenant) → slice_get x.world t ≡ p → slice_get y.world t ≡ q → MatchOption p (Answers x (Refused fault.BadTenant) reply x') (λ tenant. H x tenant reply x')
        → MatchOption q (Answers y (Refused fault.BadTenant) other y') (λ tenant. H y tenant other y') → Alike t reply other x' y'
    cases None None e f h k = inr (inr (h.0 ∙ sym k.0, ap (seen_by t) h.1 ∙ agree ∙ sym (ap (seen_by t) k.1)))
    cases (Some a) None e f h k = absurd (cc (seen_same (Some a) None e f))
    cases None (Some b) e f h k = absurd (cc (seen_same None (Some b) e f))
    cases (Some a) (Some b) e f h k =
        let same : seen_tenant a ≡ seen_tenant b = cc (seen_same (Some a) (Some b) e f) in
        both a b e f same h k

-- an event that an open run refuses
abbrev pub RefusesBusy : Happening → Type 0
RefusesBusy H = (z z' : System) (a : Tenant) (r : OpenRun) (some : Reply) → H z (record a { run = Some r }) some z' → Answers z (Refused fault.Busy) some z'

-- the tenant without an open run
abbrev pub idle : Tenant → Tenant
idle a = record a { run = None }

-- such an event of a tenant on which the systems agree: without an open run it is the same tenant in both
pub of_idle : (t : ℕ) (x y x' y' : System) (reply other : Reply) (H : Happening) → RefusesBusy H
    → ((a : Tenant) → slice_get x.world t ≡ Some (idle a) → slice_get y.world t ≡ Some (idle a) → H x (idle a) reply x' → H y (idle a) other y' → Alike t reply other x' y')
    → AgreeOn t x y → OfTenant x t reply x' (λ tenant. H x tenant reply x') → OfTenant y t other y' (λ tenant. H y tenant other y') → Alike t reply other x' y'
of_idle t x y x' y' reply other H busy idle agree = of_tenant t x y x' y' reply other H agree (λ a b there found same h k. cases a b there found same h k a.run b.run refl refl)
  where
    with_run : (a : Tenant) (run : Option OpenRun) → a.run ≡ run → a ≡ record a { run = run }
    with_run a run e = ap (λ (r : Option OpenRun). record a { run = r }) e

    idle_same : (a b : Tenant) → seen_tenant a ≡ seen_tenant b → record b { run = None } ≡ record a { run = None }
    idle_same a b same = ap (λ (s : Seen). record { maps = s.maps; programs = s.programs; run = None }) (sym same)

    cases : (a b : Tenant) → slice_get x.world t ≡ Some a → slice_get y.world t ≡ Some b → seen_tenant a ≡ seen_tenant b → H x a reply x' → H y b other y'
        → (p q : Option OpenRun) → a.run ≡ p → b.run ≡ q → Alike t reply other x' y'
    cases a b there found same h k None None e f =
        let here : a ≡ record a { run = None } = with_run a None e in
        let as_here : b ≡ record a { run = None } = with_run b None f ∙ idle_same a b same in
        idle a (there ∙ ap Some here) (found ∙ ap Some as_here) (subst (λ (c : Tenant). H x c reply x') here h) (subst (λ (c : Tenant). H y c other y') as_here k)
    cases a b there found same h k (Some r) (Some q) e f =
        let left = busy x x' a r reply (subst (λ (c : Tenant). H x c reply x') (with_run a (Some r) e) h) in
        let right = busy y y' b q other (subst (λ (c : Tenant). H y c other y') (with_run b (Some q) f) k) in
        alike-replied t x y x' y' a b (Refused fault.Busy) reply other there found same left right
    cases a b there found same h k (Some r) None e f = absurd (cc (sym (ap (option_map seen_run) e) ∙ ap (λ (s : Seen). s.run) same ∙ ap (option_map seen_run) f))
    cases a b there found same h k None (Some q) e f = absurd (cc (sym (ap (option_map seen_run) e) ∙ ap (λ (s : Seen). s.run) same ∙ ap (option_map seen_run) f))

-- an event that is refused alike, or happens
pub refused_or : (t : ℕ) (x y x' y' : System) (tenant : Tenant) (refusal : Option Fault) (reply other : Reply) (H K : Type 0) → slice_get x.world t ≡ Some tenant → slice_get y.world t ≡ Some tenant
    → (H → K → Alike t reply other x' y') → RefusedOr refusal x reply x' H → RefusedOr refusal y other y' K → Alike t reply other x' y'
refused_or t x y x' y' tenant None reply other H K there found both h k = both h k
refused_or t x y x' y' tenant (Some f) reply other H K there found both h k = alike-answered t x y x' y' tenant (Refused f) reply other there found h k
