-- What is printed of the runs of a served file (docs/HOST.md).
use Rattle.std.specs.Prelude.{ℕ, ◌+◌, List, [], ◌∷◌, ◌++◌, flat_map, nat_eq, Result, Ok, Err, if◌then◌else◌}
use Rattle.host_types.specs.declared.fault.Fault.{Fault}
use Rattle.tenant_runs.specs.declared.answers.RunReply.{RunReply}
use Rattle.host_types.specs.declared.event.Event.{Event}
use Rattle.host_types.specs.declared.event.Event.TheVariants.{Begin}
use Rattle.host_core.specs.declared.reply.Reply.{Reply}
use Rattle.host_core.specs.declared.reply.Reply.TheVariants.{Ended, Refused}
use Rattle.host_file.specs.declared.command.Command.{Command}
use Rattle.host_file.specs.declared.command.Command.TheVariants.{Run}
use Rattle.serving.specs.Report.{Telling, Answered}

-- the event by which a command begins a run of a tenant
abbrev pub beginning_for : ℕ → Command → List Event
beginning_for tenant (Run named program context) = if nat_eq named tenant then Begin named program context ∷ [] else []
beginning_for tenant _ = []

-- all of them, in the file's order
abbrev pub beginnings_for : ℕ → List Command → List Event
beginnings_for tenant commands = flat_map (beginning_for tenant) commands

-- what is answered to a run that is made whole
abbrev pub whole_reply : Result RunReply Fault → Reply
whole_reply (Ok reply) = Ended reply.ret reply.steps
whole_reply (Err fault) = Refused fault

-- runs that were made are counted, and those that were refused aren't
abbrev pub count_made : ℕ → Result RunReply Fault → ℕ
count_made made (Ok reply) = made + 1
count_made made (Err fault) = made

-- what is printed of a tenant's runs, in order: of each its reply, with the number of those that were made before it
abbrev pub run_tellings : List Event → List (Result RunReply Fault) → ℕ → List Telling
run_tellings [] replies made = []
run_tellings (event ∷ events) [] made = []
run_tellings (event ∷ events) (reply ∷ replies) made = Answered event made (whole_reply reply) ∷ run_tellings events replies (count_made made reply)

-- what is printed of all tenants' runs, from this tenant on
abbrev pub all_run_tellings : List Command → ℕ → List (List (Result RunReply Fault)) → List Telling
all_run_tellings commands tenant [] = []
all_run_tellings commands tenant (replies ∷ rest) = run_tellings (beginnings_for tenant commands) replies 0 ++ all_run_tellings commands (tenant + 1) rest
