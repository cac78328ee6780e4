-- What `replay` does (docs/HOST.md): which events the commands of a host file apply, and what is written of them.
use Rattle.std.specs.Prelude.{◌≡◌, ℕ, ◌-◌, suc, min, Bool, true, false, ◌||◌, if◌then◌else◌, List, [], ◌∷◌, ◌++◌, length, replicate, slice_get, slice_set, unwrap_or, Option, Some, None}
use Rattle.std.specs.Io.KnownBytes.{Appends}
use Rattle.host_types.specs.declared.fault.Fault.{Fault}
use Rattle.host_types.specs.declared.options.Opt.TheVariants.{PagesToScan}
use Rattle.host_types.specs.OptionTable.{AreOptions}
use Rattle.page_table.specs.Changes.{RefusesMemory}
use Rattle.page_table.specs.Limits.{AreLimits}
use Rattle.host_types.specs.declared.event.Event.{Event}
use Rattle.host_types.specs.declared.event.Event.TheVariants.{Begin, Visit, Set}
use Rattle.host_core.specs.declared.reply.Reply.{Reply}
use Rattle.host_core.specs.declared.reply.Reply.TheVariants.{Begun, Done, Refused}
use Rattle.host_core.specs.World.{System, new_system}
use Rattle.host_core.specs.Happens.{AllHappen, AreSteps}
use Rattle.host_types.specs.Events.{tenant_of}
use Rattle.host_file.specs.declared.command.Command.{Command}
use Rattle.host_file.specs.declared.command.Command.TheVariants.{Apply, Step, Finish, Run}
use Rattle.host_file.specs.declared.command.Command.TheVariants as command
use Rattle.host_file.specs.declared.file.HostFile.{HostFile}
use Rattle.host_types.specs.Refusals.{refusal_text}
use Rattle.engines.specs.Lines.{line_of, reply_lines}

-- steps of a tenant up to a count, and none after one with which the run ends or that is refused
abbrev pub AreStepsUpTo : ℕ → ℕ → List Event → List Reply → Type 0
AreStepsUpTo t count events replies = (last : Option Reply) × AreSteps t count last events replies

-- steps of a tenant to the first that isn't answered Stepped: the run's last, or one that is refused
abbrev pub AreStepsToEnd : ℕ → List Event → List Reply → Type 0
AreStepsToEnd t events replies = (limit : ℕ) × (last : Reply) × AreSteps t limit (Some last) events replies

-- visits of the scanner, so many
abbrev pub AreVisits : ℕ → List Event → List Reply → Type 0
AreVisits count events replies = (events ≡ replicate count Visit) × (length replies ≡ count)

-- what follows the event that is to open a tenant's run: the steps to its end where it is open, and else nothing
abbrev pub AreIfBegun : ℕ → Reply → List Event → List Reply → Type 0
AreIfBegun t Begun events replies = AreStepsToEnd t events replies
AreIfBegun t reply events replies = (events ≡ []) × (replies ≡ [])

-- the events that a command applies, with their replies, where pages_to_scan is as it is then
abbrev pub AreOf : ℕ → Command → List Event → List Reply → Type 0
AreOf pages (Apply event) events replies = (reply : Reply) × (events ≡ event ∷ []) × (replies ≡ reply ∷ [])
AreOf pages (Step t count) events replies = AreStepsUpTo t count events replies
AreOf pages (Finish t) events replies = AreStepsToEnd t events replies
AreOf pages (Run t program context) events replies =
    (reply : Reply) × (more : List Event) × (further : List Reply)
    × (events ≡ Begin t program context ∷ more) × (replies ≡ reply ∷ further) × AreIfBegun t reply more further
AreOf pages (command.Visit count) events replies = AreVisits (unwrap_or count pages) events replies

-- pages_to_scan after a reply to an event: a set that was done gives it its value
abbrev pub pages_after : ℕ → Event → Reply → ℕ
pages_after pages (Set PagesToScan value) Done = value
pages_after pages event reply = pages

-- pages_to_scan after events with their replies
abbrev pub pages_by : ℕ → List Event → List Reply → ℕ
pages_by pages (event ∷ events) (reply ∷ replies) = pages_by (pages_after pages event reply) events replies
pages_by pages _ _ = pages

-- the events that commands apply, those of each after those of the commands before it, where pages_to_scan is
-- as it is before the first
abbrev pub AreOfAll : ℕ → List Command → List Event → List Reply → Type 0
AreOfAll pages [] events replies = (events ≡ []) × (replies ≡ [])
AreOfAll pages (command ∷ commands) events replies =
    (first rest : List Event) × (replied further : List Reply) × (events ≡ first ++ rest) × (replies ≡ replied ++ further)
    × AreOf pages command first replied × AreOfAll (pages_by pages first replied) commands rest further

-- how many runs a tenant has begun, in the list of these numbers by tenant
abbrev pub runs_begun : List ℕ → ℕ → ℕ
runs_begun begun t = unwrap_or (slice_get begun t) 0

-- the number of a tenant's latest run; an event that names no tenant has none
abbrev pub latest_run : List ℕ → Option ℕ → ℕ
latest_run begun None = 0
latest_run begun (Some t) = runs_begun begun t - 1

-- these numbers once a tenant has begun one more; one of 64 bits stays at its greatest
abbrev pub one_more_run : List ℕ → Option ℕ → List ℕ
one_more_run begun None = begun
one_more_run begun (Some t) = slice_set begun t (min (suc (runs_begun begun t)) 18446744073709551615)

-- these numbers after a reply to an event
abbrev pub begun_after : List ℕ → Event → Reply → List ℕ
begun_after begun event Begun = one_more_run begun (tenant_of event)
begun_after begun event reply = begun

-- the lines of the replies to events, from tenants that have begun so many runs; a line's run is the tenant's latest
abbrev pub lines_from : List ℕ → List Event → List Reply → List ℕ
lines_from begun (event ∷ events) (reply ∷ replies) =
    reply_lines event (latest_run begun (tenant_of event)) reply ++ lines_from (begun_after begun event reply) events replies
lines_from begun _ _ = []

abbrev pub is_refusal : Reply → Bool
is_refusal (Refused fault) = true
is_refusal reply = false

-- whether one of the replies is a refusal
abbrev pub has_refusal : List Reply → Bool
has_refusal [] = false
has_refusal (reply ∷ replies) = is_refusal reply || has_refusal replies

-- the status after these replies
abbrev pub status_after : List Reply → ℕ
status_after replies = if has_refusal replies then 1 else 0

-- A status and what an output took say what the events of a file did to a new host: the refusal of the host
-- itself, or, of one within its limits, the lines of the replies to the events of the file's commands, in their order.
pub data IsReplayed (file : HostFile) (old new : Option (List ℕ)) (status : ℕ) : Type 0 where
  refused : (fault : Fault) → RefusesMemory file.frames file.tenants file.options fault → status ≡ 1 → Appends old new (line_of (refusal_text fault)) → IsReplayed file old new status
  happened : AreLimits file.frames file.tenants → AreOptions file.options
      → (events : List Event) (replies : List Reply) (x : System) → AreOfAll file.options.pages_to_scan file.commands events replies
      → AllHappen (new_system file.frames file.tenants file.options) events replies x → status ≡ status_after replies
      → Appends old new (lines_from (replicate file.tenants 0) events replies) → IsReplayed file old new status
