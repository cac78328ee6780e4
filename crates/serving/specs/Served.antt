-- What `serve` does with a host file, and prints of it (docs/HOST.md).
use Rattle.std.specs.Prelude.{◌≡◌, ◌⊎◌, ℕ, List, All, Any, ◌++◌, length, map, slice_get, IfSome, Option, Result, if◌then◌else◌}
use Rattle.std.specs.Io.KnownBytes.{Appends}
use Rattle.host_types.specs.declared.fault.Fault.{Fault}
use Rattle.host_types.specs.OptionTable.{AreOptions}
use Rattle.host_types.specs.Refusals.{refusal_text}
use Rattle.host_types.specs.Tenant.{TenantPart}
use Rattle.page_table.specs.Changes.{RefusesMemory}
use Rattle.page_table.specs.Limits.{AreLimits}
use Rattle.turn.specs.Seats.{SeatState, own_part}
use Rattle.tenant_runs.specs.declared.answers.RunReply.{RunReply}
use Rattle.tenant_workers.specs.Plans.{AreAnswered}
use Rattle.tenant_workers.specs.declared.plans.TenantPlan.{TenantPlan}
use Rattle.host_types.specs.declared.event.Event.{Event}
use Rattle.host_core.specs.declared.reply.Reply.{Reply}
use Rattle.host_core.specs.declared.reply.Reply.TheVariants.{Refused}
use Rattle.host_file.specs.declared.command.Command.{Command}
use Rattle.host_file.specs.declared.file.HostFile.{HostFile}
use Rattle.host_file.specs.HostFile.{IsFileText}
use Rattle.host_file.specs.Served.{IsServedCommand}
use Rattle.engines.specs.Input.{AreNoFile}
use Rattle.engines.specs.Lines.{line_of, reply_lines}
use Rattle.serving.specs.Lookups.{AreLookedUp, lookup_tellings, lookups_in}
use Rattle.serving.specs.Opened.{AreOpenedFor, Home, IsSettable, IsStopped, first_home}
use Rattle.serving.specs.Prepared.{runs_for}
use Rattle.serving.specs.RunLines.{all_run_tellings}
use Rattle.serving.specs.Report.{Telling, all_printed, print_refusal}

-- the bytes are no host file, or one that asks for what isn't served
abbrev pub AreNotServed : List ℕ → Type 0
AreNotServed bytes = AreNoFile bytes ⊎ ((file : HostFile) × IsFileText bytes file × Any (λ command. ¬ IsServedCommand file.tenants command) file.commands)

-- what came of a tenant: what its runs were answered, and its part after them
pub record TenantOutcome : Type 0 where
  pub replies : List (Result RunReply Fault)
  pub part : TenantPart

abbrev pub outcome_of : TenantPlan → TenantOutcome
outcome_of plan = record { replies = plan.replies.items; part = own_part plan.seat }

-- The runs that the file asks of a tenant were answered, in the file's order, from what the file gave the tenant
-- before a thread started; or its thread couldn't be started.
pub record IsServedTenant (commands : List Command) (t : ℕ) (outcome : TenantOutcome) : Type 0 where
  pub home : Home
  pub opened : AreOpenedFor t commands first_home home
  pub first : SeatState
  pub begins : own_part first ≡ home.part
  pub last : SeatState
  pub ends : own_part last ≡ outcome.part
  pub answered : AreAnswered home.programs (runs_for t commands) first outcome.replies last

-- what is printed of them: of each run by tenant and in order, then of each lookup in the file's order
abbrev pub tellings_of : List Command → List TenantOutcome → List Reply → List Telling
tellings_of commands outcomes answers =
    all_run_tellings commands 0 (map (λ outcome. outcome.replies) outcomes) ++ lookup_tellings (lookups_in commands) answers

-- The lookups were answered from the tenants' parts, all was written, and the status says whether a refusal is
-- among it.
pub record ArePrinted (commands : List Command) (outcomes : List TenantOutcome) (status : ℕ) (old new : Option (List ℕ)) : Type 0 where
  pub answers : List Reply
  pub looked_up : AreLookedUp (map (λ outcome. outcome.part) outcomes) (lookups_in commands) answers
  pub noted : status ≡ if print_refusal (tellings_of commands outcomes answers) then 1 else 0
  pub written : Appends old new (all_printed (tellings_of commands outcomes answers))

-- A status and what an output took say how a file was served: the refusal of the memory, or of its threads where
-- memory ran out; or, of a file within its limits, the first refusal before a thread starts, or what came of each tenant
-- where none was refused.
pub data IsServedSo (file : HostFile) (status : ℕ) (old new : Option (List ℕ)) : Type 0 where
  unserved : (fault : Fault) → RefusesMemory file.frames file.tenants file.options fault → status ≡ 1
      → Appends old new (line_of (refusal_text fault)) → IsServedSo file status old new
  stopped : AreLimits file.frames file.tenants → AreOptions file.options → (event : Event) (fault : Fault) → IsStopped file.tenants file.commands event fault → status ≡ 1
      → Appends old new (reply_lines event 0 (Refused fault)) → IsServedSo file status old new
  served : AreLimits file.frames file.tenants → AreOptions file.options → (outcomes : List TenantOutcome) → All IsSettable file.commands → length outcomes ≡ file.tenants → ((t : ℕ) → IfSome (slice_get outcomes t) (IsServedTenant file.commands t))
      → ArePrinted file.commands outcomes status old new → IsServedSo file status old new
