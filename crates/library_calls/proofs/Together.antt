-- The same call for a tenant in two systems that agree on it.
use Rattle.std.proofs.Common.{◌≡◌, ◌≢◌, ◌⊎◌, inl, inr, ℕ, zero, suc, Bool, true, false, if◌then◌else◌, eqb, List, [], ◌∷◌, Some, unwrap_or, refl, ap, sym, ◌∙◌, subst}
use Rattle.std.proofs.lemmas.Bool.Decides.{eqb_tells}
use Rattle.host_types.specs.declared.event.Event.{Event}
use Rattle.host_types.specs.declared.event.Event.TheVariants.{Begin, Step}
use Rattle.host_core.specs.declared.reply.Reply.{Reply}
use Rattle.host_core.specs.declared.reply.Reply.TheVariants.{Begun, Stepped}
use Rattle.host_core.specs.World.{System}
use Rattle.host_core.specs.Happens.{AllHappen}
use Rattle.isolation.specs.Tenants.{AgreeOn, GoAlike, names_tenant, is_of, is_scarce}
use Rattle.isolation.proofs.Alike.{Alike}
use Rattle.isolation.proofs.Isolated.{tenants_are_isolated}
use Rattle.library_calls.specs.Calls.{Serves, RunsWhole, Steps}
use Rattle.library_calls.specs.Isolation.{Call, once, whole, further, scanning, CallHappens, is_call_for}
use Rattle.library_calls.proofs.Walks.{Walks, steps_walk}

alone : (x x' : System) (event : Event) (reply : Reply) → Serves event reply x x' → AllHappen x (event ∷ []) (reply ∷ []) x'
alone x x' event reply (happens, promised, covered) = (x', happens, promised, covered, refl)

-- the replies to one event
only : (t : ℕ) (reply other : Reply) (x' y' : System) (own : Bool) → own ≡ true
    → GoAlike t (if own then reply ∷ [] else []) (if own then other ∷ [] else []) x' y' → Alike t reply other x' y'
only t reply other x' y' true own h = h
only t reply other x' y' false own h = absurd (cc)

event_together : (t : ℕ) (event : Event) (x y x' y' : System) (reply other : Reply) → is_of t event ≡ true → AgreeOn t x y
    → Serves event reply x x' → Serves event other y y' → Alike t reply other x' y'
event_together t event x y x' y' reply other own agree h k =
    only t reply other x' y' (is_of t event) own
    (tenants_are_isolated t x y x' y' (event ∷ []) (event ∷ []) (reply ∷ []) (other ∷ []) agree refl (alone x x' event reply h) (alone y y' event other k))

own_name : (t : ℕ) → names_tenant t (Some t) ≡ true
own_name t = cases (eqb_tells t t)
  where
    cases : ((eqb t t ≡ true) × (t ≡ t)) ⊎ ((eqb t t ≡ false) × (t ≢ t)) → names_tenant t (Some t) ≡ true
    cases (inl same) = same.0
    cases (inr differs) = absurd (differs.1 refl)

-- both end at once, or both go on
go_on : (t limit : ℕ) (x' y' next later : System) (reply other made also : Reply)
    → (AgreeOn t next later → Walks t limit reply next x' → Walks t limit other later y' → Alike t reply other x' y')
    → Alike t made also next later → ((made ≢ Stepped) × (reply ≡ made) × (x' ≡ next)) ⊎ ((made ≡ Stepped) × Walks t limit reply next x')
    → ((also ≢ Stepped) × (other ≡ also) × (y' ≡ later)) ⊎ ((also ≡ Stepped) × Walks t limit other later y') → Alike t reply other x' y'
go_on t limit x' y' next later reply other made also both (inl scarce) (inl ends) on = inl (ap is_scarce ends.1 ∙ scarce)
go_on t limit x' y' next later reply other made also both (inl scarce) (inr goes) on = absurd (cc (scarce, goes.0))
go_on t limit x' y' next later reply other made also both (inr (inl scarce)) goes (inl ends) = inr (inl (ap is_scarce ends.1 ∙ scarce))
go_on t limit x' y' next later reply other made also both (inr (inl scarce)) goes (inr on) = absurd (cc (scarce, on.0))
go_on t limit x' y' next later reply other made also both (inr (inr same)) (inl ends) (inl stops) =
    inr (inr (ends.1 ∙ same.0 ∙ sym stops.1, subst (λ z. AgreeOn t z y') (sym ends.2) (subst (λ z. AgreeOn t next z) (sym stops.2) same.1)))
go_on t limit x' y' next later reply other made also both (inr (inr same)) (inl ends) (inr on) = absurd (ends.0 (same.0 ∙ on.0))
go_on t limit x' y' next later reply other made also both (inr (inr same)) (inr goes) (inl stops) = absurd (stops.0 (sym same.0 ∙ goes.0))
go_on t limit x' y' next later reply other made also both (inr (inr same)) (inr goes) (inr on) = both same.1 goes.1 on.1

-- both make the same steps
walks_together : (t limit : ℕ) (x y x' y' : System) (reply other : Reply) → AgreeOn t x y → Walks t limit reply x x' → Walks t limit other y y' → Alike t reply other x' y'
walks_together t zero x y x' y' reply other agree h k = inr (inr (h.0 ∙ sym k.0, subst (λ z. AgreeOn t z y') (sym h.1) (subst (λ z. AgreeOn t x z) (sym k.1) agree)))
walks_together t (suc limit) x y x' y' reply other agree (next, (made, (served, goes))) (later, (also, (was, on))) =
    go_on t limit x' y' next later reply other made also (λ same one two. walks_together t limit next later x' y' reply other same one two)
    (event_together t (Step t) x y next later made also (own_name t) agree served was) goes on

pub runs_together : (t k : ℕ) (context : List ℕ) (x y x' y' : System) (reply other : Reply) → AgreeOn t x y
    → RunsWhole t k context reply x x' → RunsWhole t k context other y y' → Alike t reply other x' y'
runs_together t k context x y x' y' reply other agree (inl one) (inl two) = event_together t (Begin t k context) x y x' y' reply other (own_name t) agree (one.1, one.2, one.3) (two.1, two.2, two.3)
runs_together t k context x y x' y' reply other agree (inl one) (inr (begun, served, steps)) =
    cases (event_together t (Begin t k context) x y x' begun reply Begun (own_name t) agree (one.1, one.2, one.3) served)
  where
    cases : Alike t reply Begun x' begun → Alike t reply other x' y'
    cases (inl scarce) = inl scarce
    cases (inr (inl scarce)) = absurd (cc (scarce))
    cases (inr (inr same)) = absurd (one.0 same.0)
runs_together t k context x y x' y' reply other agree (inr (begun, served, steps)) (inl two) =
    cases (event_together t (Begin t k context) x y begun y' Begun other (own_name t) agree served (two.1, two.2, two.3))
  where
    cases : Alike t Begun other begun y' → Alike t reply other x' y'
    cases (inl scarce) = absurd (cc (scarce))
    cases (inr (inl scarce)) = inr (inl scarce)
    cases (inr (inr same)) = absurd (two.0 (sym same.0))
runs_together t k context x y x' y' reply other agree (inr (begun, served, steps)) (inr (also, was, more)) =
    cases (event_together t (Begin t k context) x y begun also Begun Begun (own_name t) agree served was)
  where
    cases : Alike t Begun Begun begun also → Alike t reply other x' y'
    cases (inl scarce) = absurd (cc (scarce))
    cases (inr (inl scarce)) = absurd (cc (scarce))
    cases (inr (inr same)) =
        walks_together t 4294967296 begun also x' y' reply other same.1
        (steps_walk t 4294967296 (Some reply) begun x' steps) (steps_walk t 4294967296 (Some other) also y' more)

steps_together : (t limit : ℕ) (x y x' y' : System) (reply other : Reply) → AgreeOn t x y → Steps t limit reply x x' → Steps t limit other y y' → Alike t reply other x' y'
steps_together t limit x y x' y' reply other agree (last, is, steps) (end, was, more) =
    let both : Alike t (unwrap_or last Stepped) (unwrap_or end Stepped) x' y' =
    walks_together t limit x y x' y' (unwrap_or last Stepped) (unwrap_or end Stepped) agree (steps_walk t limit last x x' steps) (steps_walk t limit end y y' more) in
    subst (λ (r : Reply). Alike t r other x' y') (sym is) (subst (λ (r : Reply). Alike t (unwrap_or last Stepped) r x' y') (sym was) both)

-- what a call for one tenant is in two systems that agree on it
abbrev Together : ℕ → Call → Type 0
Together t call = (x y x' y' : System) (reply other : Reply) → AgreeOn t x y → CallHappens call reply x x' → CallHappens call other y y' → Alike t reply other x' y'

of_name : (t u : ℕ) → names_tenant t (Some u) ≡ true → u ≡ t
of_name t u own = cases (eqb_tells u t)
  where
    cases : ((eqb u t ≡ true) × (u ≡ t)) ⊎ ((eqb u t ≡ false) × (u ≢ t)) → u ≡ t
    cases (inl same) = same.1
    cases (inr differs) = absurd (cc (own, differs.0))

pub call_together : (t : ℕ) (call : Call) → is_call_for t call ≡ true → Together t call
call_together t (once event) own x y x' y' reply other agree h k = event_together t event x y x' y' reply other own agree h k
call_together t (whole u k context) own x y x' y' reply other agree h l =
    let same = of_name t u own in
    runs_together t k context x y x' y' reply other agree (subst (λ n. RunsWhole n k context reply x x') same h) (subst (λ n. RunsWhole n k context other y y') same l)
call_together t (further u limit) own x y x' y' reply other agree h k =
    let same = of_name t u own in
    steps_together t limit x y x' y' reply other agree (subst (λ n. Steps n limit reply x x') same h) (subst (λ n. Steps n limit other y y') same k)
call_together t (scanning n) own x y x' y' reply other agree h k = absurd (cc)
