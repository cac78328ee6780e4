-- What a tenant sees of a host, which events and replies are its own, and which replies depend on others.
use Rattle.std.specs.Prelude.{◌≡◌, ◌⊎◌, ℕ, ◌==◌, Bool, true, false, if◌then◌else◌, List, [], ◌∷◌, Option, Some, None, option_map, slice_get}
use Rattle.host_types.specs.declared.fault.Fault.TheVariants.{NoFrames, OutOfMemory}
use Rattle.host_types.specs.Memory.{FlatMaps}
use Rattle.verifier.specs.Subject.{Subject}
use Rattle.interp.specs.Machine.{MachineState}
use Rattle.host_types.specs.declared.event.Event.{Event}
use Rattle.host_core.specs.declared.reply.Reply.{Reply}
use Rattle.host_core.specs.declared.reply.Reply.TheVariants.{Refused}
use Rattle.host_types.specs.Events.{tenant_of}
use Rattle.host_core.specs.World.{OpenRun, Tenant, System}

-- an open run but for where it began: its program, its state, and how many steps it made
pub record SeenRun : Type 0 where
  pub program : Subject
  pub state : MachineState
  pub steps : ℕ

-- a tenant as it sees itself: its maps, its programs, and its open run, if it has one
pub record Seen : Type 0 where
  pub maps : FlatMaps
  pub programs : List (Option Subject)
  pub run : Option SeenRun

-- what there is to see of an open run
abbrev pub seen_run : OpenRun → SeenRun
seen_run r = record { program = r.program; state = r.state; steps = r.steps }

-- what there is to see of a tenant
abbrev pub seen_tenant : Tenant → Seen
seen_tenant tenant = record { maps = tenant.maps; programs = tenant.programs; run = option_map seen_run tenant.run }

-- what the tenant t sees of a system, if it is there
abbrev pub seen_by : ℕ → System → Option Seen
seen_by t x = option_map seen_tenant (slice_get x.world t)

-- Two systems agree on the tenant t: it sees the same of both. Nothing is said of other tenants, nor of frames, of pages that
-- share them, and of options.
abbrev pub AgreeOn : ℕ → System → System → Type 0
AgreeOn t x y = seen_by t x ≡ seen_by t y

-- it is this tenant
abbrev pub names_tenant : ℕ → Option ℕ → Bool
names_tenant t None = false
names_tenant t (Some u) = u == t

-- the event names the tenant t
abbrev pub is_of : ℕ → Event → Bool
is_of t event = names_tenant t (tenant_of event)

-- the events of the tenant t, in their order
abbrev pub events_of : ℕ → List Event → List Event
events_of t [] = []
events_of t (event ∷ events) = if is_of t event then event ∷ events_of t events else events_of t events

-- the replies to the events of the tenant t, in their order
abbrev pub replies_to : ℕ → List Event → List Reply → List Reply
replies_to t [] replies = []
replies_to t events [] = []
replies_to t (event ∷ events) (reply ∷ replies) =
    if is_of t event then reply ∷ replies_to t events replies else replies_to t events replies

-- frames or memory were scarce, of which others had their share: the only replies to a tenant that depend on others
abbrev pub is_scarce : Reply → Bool
is_scarce (Refused (NoFrames need have)) = true
is_scarce (Refused OutOfMemory) = true
is_scarce reply = false

-- neither frames nor memory were scarce
abbrev pub IsPlenty : Reply → Type 0
IsPlenty reply = is_scarce reply ≡ false

-- The replies to a tenant are the same on both sides up to the first scarce one on either side. Where none is
-- scarce they are all the same, and both sides agree on the tenant afterwards.
abbrev pub GoAlike : ℕ → List Reply → List Reply → System → System → Type 0
GoAlike t [] [] x y = AgreeOn t x y
GoAlike t (reply ∷ replies) (other ∷ others) x y =
    (is_scarce reply ≡ true) ⊎ (is_scarce other ≡ true) ⊎ ((reply ≡ other) × GoAlike t replies others x y)
GoAlike t replies others x y = ⊥
