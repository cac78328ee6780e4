-- The events of one tenant, with whatever happens between them.
use Rattle.std.proofs.Common.{◌≡◌, ℕ, ◌⊎◌, inl, inr, Bool, true, false, if◌then◌else◌, List, [], ◌∷◌, sym, refl, ap, ◌∙◌, subst}
use Rattle.host_types.specs.declared.event.Event.{Event}
use Rattle.host_core.specs.declared.reply.Reply.{Reply}
use Rattle.host_core.specs.World.{System}
use Rattle.host_core.specs.Happens.{Happens, AllHappen}
use Rattle.isolation.specs.Tenants.{AgreeOn, seen_by, is_of, events_of, replies_to}
use Rattle.isolation.proofs.Changes.{unnoticed}

-- before each event and after the last one other things may have happened, of which the tenant sees nothing
abbrev pub Chain : ℕ → System → List Event → List Reply → System → Type 0
Chain t x [] [] x' = AgreeOn t x x'
Chain t x (event ∷ events) (reply ∷ replies) x' =
    (before : System) × ((after : System) × (AgreeOn t x before × (is_of t event ≡ true) × Happens before event reply after × Chain t after events replies x'))
Chain t x events replies x' = ⊥

chain-before : (t : ℕ) (x y : System) (events : List Event) (replies : List Reply) (x' : System) → AgreeOn t x y → Chain t y events replies x' → Chain t x events replies x'
chain-before t x y [] [] x' agree h = agree ∙ h
chain-before t x y (event ∷ events) (reply ∷ replies) x' agree (before, (after, (h, own, happens, rest))) = (before, (after, (agree ∙ h, own, happens, rest)))
chain-before t x y [] (reply ∷ replies) x' agree h = absurd h
chain-before t x y (event ∷ events) [] x' agree h = absurd h

-- one event more, which is the tenant's or not
chain-more : (t : ℕ) (x next : System) (event : Event) (reply : Reply) (events : List Event) (replies : List Reply) (x' : System) (own : Bool) → is_of t event ≡ own → Happens x event reply next
    → Chain t next events replies x' → Chain t x (if own then event ∷ events else events) (if own then reply ∷ replies else replies) x'
chain-more t x next event reply events replies x' true is happens rest = (x, (next, (refl, is, happens, rest)))
chain-more t x next event reply events replies x' false is happens rest = chain-before t x next events replies x' (sym (unnoticed t x next event reply is happens)) rest

-- the tenant's events of a list that happens
pub chain_of : (t : ℕ) (x : System) (events : List Event) (replies : List Reply) (x' : System) → AllHappen x events replies x' → Chain t x (events_of t events) (replies_to t events replies) x'
chain_of t x [] [] x' h = ap (seen_by t) (sym h)
chain_of t x (event ∷ events) (reply ∷ replies) x' (next, happens, promised, covered, rest) =
    chain-more t x next event reply (events_of t events) (replies_to t events replies) x' (is_of t event) refl happens (chain_of t next events replies x' rest)
chain_of t x [] (reply ∷ replies) x' h = absurd h
chain_of t x (event ∷ events) [] x' h = absurd h
