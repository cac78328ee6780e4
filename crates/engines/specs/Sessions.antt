-- What a session does to its host and to the output, one command after the other.
use Rattle.std.specs.Prelude.{◌≡◌, ℕ, ◌≤◌, ◌||◌, List, [], ◌∷◌, Option, IsSome}
use Rattle.std.specs.Io.KnownBytes.{Appends}
use Rattle.host_types.specs.declared.event.Event.{Event}
use Rattle.host_core.specs.declared.reply.Reply.{Reply}
use Rattle.host_core.specs.World.{System}
use Rattle.host_core.specs.Happens.{AllHappen, AreSteps}
use Rattle.host_core.specs.HostView.{StandsForSystem}
use Rattle.host_types.specs.Events.{tenant_of}
use Rattle.engines.specs.declared.session.Session.{Session}
use Rattle.engines.specs.Lines.{reply_lines}
use Rattle.engines.specs.Replay.{latest_run, begun_after, pages_after, pages_by, lines_from, is_refusal, has_refusal}

-- one event, with its reply
abbrev pub IsOneEvent : Event → Reply → List Event → List Reply → Type 0
IsOneEvent event reply events replies = (events ≡ event ∷ []) × (replies ≡ reply ∷ [])

-- steps of a tenant up to a limit, and none after one with which the run ends or that is refused; a limit from
-- 2^32 on never comes first
abbrev pub AreStepsMade : ℕ → ℕ → List Event → List Reply → Type 0
AreStepsMade t limit events replies = (last : Option Reply) × AreSteps t limit last events replies × (4294967296 ≤ limit → IsSome last)

-- a session noted a reply to an event, and the output took its lines; the host is as it was
pub record HasPrinted (event : Event) (reply : Reply) (old new : Session) (was is : Option (List ℕ)) : Type 0 where
  pub host : new.host ≡ old.host
  pub begun : new.begun.items ≡ begun_after old.begun.items event reply
  pub pages : new.pages_to_scan ≡ pages_after old.pages_to_scan event reply
  pub refused : new.has_refused ≡ (old.has_refused || is_refusal reply)
  pub written : Appends was is (reply_lines event (latest_run old.begun.items (tenant_of event)) reply)

-- how many runs the tenants have begun after these events and replies
abbrev pub begun_by : List ℕ → List Event → List Reply → List ℕ
begun_by begun (event ∷ events) (reply ∷ replies) = begun_by (begun_after begun event reply) events replies
begun_by begun _ _ = begun

-- these events happened with these replies, from one system to another, and the session noted them and the output
-- took their lines
pub record HasNoted (events : List Event) (replies : List Reply) (x next : System) (old new : Session) (was is : Option (List ℕ)) : Type 0 where
  pub stands : StandsForSystem new.host next
  pub happen : AllHappen x events replies next
  pub begun : new.begun.items ≡ begun_by old.begun.items events replies
  pub pages : new.pages_to_scan ≡ pages_by old.pages_to_scan events replies
  pub refused : new.has_refused ≡ (old.has_refused || has_refusal replies)
  pub written : Appends was is (lines_from old.begun.items events replies)

-- a session made some events happen, of which a relation says with their replies which ones, and noted them, in
-- each system for which its host stood
abbrev pub HasPerformed : (List Event → List Reply → Type 0) → Session → Session → Option (List ℕ) → Option (List ℕ) → Type 0
HasPerformed Asked old new was is =
    (x : System) → StandsForSystem old.host x
    → (events : List Event) × (replies : List Reply) × (next : System) × Asked events replies × HasNoted events replies x next old new was is
