-- Isolation, by induction on the events of the tenant.
use Rattle.std.proofs.Common.{◌≡◌, ◌≢◌, ℕ, ◌⊎◌, inl, inr, eqb, true, false, List, [], ◌∷◌, Option, Some, None, sym, refl, ap, ◌∙◌, subst}
use Rattle.std.specs.List.{All}
use Rattle.std.proofs.lemmas.Bool.Decides.{eqb_tells}
use Rattle.std.proofs.lemmas.List.Elements.{All-head, All-tail}
use Rattle.page_table.specs.Limits.{shape_of}
use Rattle.host_types.specs.declared.event.Event.{Event}
use Rattle.host_types.specs.declared.event.Event.TheVariants.{CreateMap, Load, Begin, Step, Visit, HostUpdate, HostLookup, Set, Unmerge, Counters, Unload, DropMap}
use Rattle.host_core.specs.declared.reply.Reply.{Reply}
use Rattle.host_core.specs.World.{System}
use Rattle.host_types.specs.Events.{tenant_of}
use Rattle.host_core.specs.Happens.{Happens, AllHappen}
use Rattle.isolation.specs.Tenants.{AgreeOn, names_tenant, is_of, events_of, replies_to, is_scarce, IsPlenty, GoAlike}
use Rattle.isolation.specs.Laws.{TenantsAreIsolated, PlentyLeavesNothingToSee}
use Rattle.isolation.proofs.Alike.{Alike}
use Rattle.isolation.proofs.Leaving.{alike-load, alike-begin, alike-unload, alike-drop}
use Rattle.isolation.proofs.Making.{alike-create, alike-update, alike-lookup}
use Rattle.isolation.proofs.Stepping.{alike-step}
use Rattle.isolation.proofs.Chains.{Chain, chain_of}

-- the same event happens in two systems that agree on the tenant that it names
abbrev Events : ℕ → Event → Type 0
Events t event = (x y : System) (reply : Reply) (x' : System) (other : Reply) (y' : System) → AgreeOn t x y → Happens x event reply x' → Happens y event other y' → Alike t reply other x' y'

named : (t u : ℕ) (event : Event) → Some u ≡ Some t → Events u event → Events t event
named t u event e events = let same : u ≡ t = cc in subst (λ n. Events n event) same events

event_alike : (t : ℕ) (event : Event) → tenant_of event ≡ Some t → Events t event
event_alike t (CreateMap u value_size entries mergeable) e = named t u (CreateMap u value_size entries mergeable) e (alike-create u (shape_of value_size entries) mergeable)
event_alike t (Load u text size) e = named t u (Load u text size) e (alike-load u text size)
event_alike t (Begin u k context) e = named t u (Begin u k context) e (alike-begin u k context)
event_alike t (Step u) e = named t u (Step u) e (alike-step u)
event_alike t (HostUpdate u m key value) e = named t u (HostUpdate u m key value) e (alike-update u m key value)
event_alike t (HostLookup u m key) e = named t u (HostLookup u m key) e (alike-lookup u m key)
event_alike t (Unload u k) e = named t u (Unload u k) e (alike-unload u k)
event_alike t (DropMap u m) e = named t u (DropMap u m) e (alike-drop u m)
event_alike t Visit e = absurd (cc)
event_alike t (Set option value) e = absurd (cc)
event_alike t Unmerge e = absurd (cc)
event_alike t Counters e = absurd (cc)

number_is : (t : ℕ) (named : Option ℕ) → names_tenant t named ≡ true → named ≡ Some t
number_is t None own = absurd (cc)
number_is t (Some u) own = cases (eqb_tells u t)
  where
    cases : ((eqb u t ≡ true) × (u ≡ t)) ⊎ ((eqb u t ≡ false) × (u ≢ t)) → Some u ≡ Some t
    cases (inl same) = ap Some same.1
    cases (inr differs) = absurd (cc (own, differs.0))

chains_alike : (t : ℕ) (x y x' y' : System) (events : List Event) (replies further : List Reply) → AgreeOn t x y → Chain t x events replies x' → Chain t y events further y' → GoAlike t replies further x' y'
chains_alike t x y x' y' [] [] [] agree h k = sym h ∙ agree ∙ k
chains_alike t x y x' y' [] (reply ∷ replies) further agree h k = absurd h
chains_alike t x y x' y' [] [] (other ∷ further) agree h k = absurd k
chains_alike t x y x' y' (event ∷ events) [] further agree h k = absurd h
chains_alike t x y x' y' (event ∷ events) (reply ∷ replies) [] agree h k = absurd k
chains_alike t x y x' y' (event ∷ events) (reply ∷ replies) (other ∷ further) agree (before, (after, (a, own, happens, rest))) (earlier, (later, (b, is, also, more))) =
    elim (event_alike t event (number_is t (tenant_of event) own) before earlier reply after other later (sym a ∙ agree ∙ b) happens also) [
      | inl scarce ↦ inl scarce
      | inr (inl scarce) ↦ inr (inl scarce)
      | inr (inr same) ↦ inr (inr (same.0, chains_alike t after later x' y' events replies further same.1 rest more))
    ]

pub tenants_are_isolated : TenantsAreIsolated
tenants_are_isolated t x y x' y' events others replies further agree same first second =
    let other_chain = chain_of t y others further y' second in
    chains_alike t x y x' y' (events_of t events) (replies_to t events replies) (replies_to t others further) agree (chain_of t x events replies x' first)
    (subst (λ (own : List Event). Chain t y own (replies_to t others further) y') (sym same) other_chain)

plenty_same : (t : ℕ) (replies further : List Reply) (x y : System) → GoAlike t replies further x y → All IsPlenty replies → All IsPlenty further → (replies ≡ further) × AgreeOn t x y
plenty_same t [] [] x y h p q = (refl, h)
plenty_same t [] (other ∷ further) x y h p q = absurd h
plenty_same t (reply ∷ replies) [] x y h p q = absurd h
plenty_same t (reply ∷ replies) (other ∷ further) x y (inl scarce) p q = absurd (cc (scarce, All-head IsPlenty reply replies p))
plenty_same t (reply ∷ replies) (other ∷ further) x y (inr (inl scarce)) p q = absurd (cc (scarce, All-head IsPlenty other further q))
plenty_same t (reply ∷ replies) (other ∷ further) x y (inr (inr same)) p q =
    let rest = plenty_same t replies further x y same.1 (All-tail IsPlenty reply replies p) (All-tail IsPlenty other further q) in
    let first : reply ≡ other = same.0 in
    let others : replies ≡ further = rest.0 in
    (cc, rest.1)

pub plenty_leaves_nothing_to_see : PlentyLeavesNothingToSee
plenty_leaves_nothing_to_see t x y x' y' events others replies further agree same first second p q =
    plenty_same t (replies_to t events replies) (replies_to t others further) x' y' (tenants_are_isolated t x y x' y' events others replies further agree same first second) p q
