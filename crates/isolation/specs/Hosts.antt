-- Two hosts, to each of which a list of events is applied.
use Rattle.std.specs.Prelude.{◌≡◌, ◌⊎◌, ℕ, List}
use Rattle.host_types.specs.declared.event.Event.{Event}
use Rattle.host_core.specs.declared.reply.Reply.{Reply}
use Rattle.host_core.specs.Happens.{AllHappen}
use Rattle.host_core.specs.HostView.{HostView, StandsForSystem}
use Rattle.host_core.specs.World.{System}
use Rattle.isolation.specs.Tenants.{AgreeOn, events_of, replies_to, GoAlike}

-- events happened in each system for which the host stood, and it stands for the one that they left
abbrev pub HasApplied : HostView → List Event → List Reply → HostView → Type 0
HasApplied old events replies new =
    (x : System) → StandsForSystem old x → (x' : System) × StandsForSystem new x' × AllHappen x events replies x'

-- so they did, or nothing changed
abbrev pub MayHaveApplied : HostView → List Event → HostView → Type 0
MayHaveApplied old events new = (new ≡ old) ⊎ ((replies : List Reply) × HasApplied old events replies new)

-- A tenant on which two hosts agree, and whose events are the same in both lists, gets the same replies of both, up to the first scarce one,
-- and where there is none both agree on it afterwards.
abbrev pub AreIsolated : HostView → HostView → List Event → List Event → List Reply → List Reply → HostView → HostView → Type 0
AreIsolated left right events others replies further left' right' =
    (t : ℕ) (x y : System) → StandsForSystem left x → StandsForSystem right y → AgreeOn t x y → events_of t events ≡ events_of t others
    → (x' : System) × (y' : System) × StandsForSystem left' x' × StandsForSystem right' y'
    × GoAlike t (replies_to t events replies) (replies_to t others further) x' y'
