-- Isolation: what a tenant is answered, and what becomes of it, follows from its own events.
use Rattle.std.specs.Prelude.{◌≡◌, ℕ, Bool, true, List, All}
use Rattle.host_types.specs.declared.event.Event.{Event}
use Rattle.host_core.specs.declared.reply.Reply.{Reply}
use Rattle.host_core.specs.Happens.{Happens, AllHappen}
use Rattle.host_core.specs.World.{System}
use Rattle.isolation.specs.Tenants.{AgreeOn, events_of, replies_to, is_scarce, IsPlenty, GoAlike}

-- Two systems agree on a tenant, and two lists have the same events of it in the same order, whatever else happens between them: events
-- of other tenants, visits, options, unmergings, counters. Then the replies to the tenant are the same up to the first scarce
-- one in either list, and where there is none, the systems agree on it afterwards.
abbrev pub TenantsAreIsolated : Type 0
TenantsAreIsolated =
    (t : ℕ) (x y x' y' : System) (events others : List Event) (replies further : List Reply)
    → AgreeOn t x y → events_of t events ≡ events_of t others
    → AllHappen x events replies x' → AllHappen y others further y'
    → GoAlike t (replies_to t events replies) (replies_to t others further) x' y'

-- if no reply to the tenant is scarce, all replies to it are the same, and the systems agree on it afterwards
abbrev pub PlentyLeavesNothingToSee : Type 0
PlentyLeavesNothingToSee =
    (t : ℕ) (x y x' y' : System) (events others : List Event) (replies further : List Reply)
    → AgreeOn t x y → events_of t events ≡ events_of t others
    → AllHappen x events replies x' → AllHappen y others further y'
    → All IsPlenty (replies_to t events replies) → All IsPlenty (replies_to t others further)
    → (replies_to t events replies ≡ replies_to t others further) × AgreeOn t x' y'

-- an event to which the reply is scarce changes nothing
abbrev pub ScarceChangesNothing : Type 0
ScarceChangesNothing = (x x' : System) (event : Event) (reply : Reply) → Happens x event reply x' → is_scarce reply ≡ true → x' ≡ x
