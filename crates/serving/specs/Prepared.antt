-- What a host file's threads are to do (docs/HOST.md): a function of its commands.
use Rattle.std.specs.Prelude.{◌≡◌, ◌++◌, ◌<◌, ℕ, List, [], ◌∷◌, length, fold, flat_map, sum_by, min, nat_eq, get_or, Some, None, if◌then◌else◌}
use Rattle.host_types.specs.declared.options.Opt.TheVariants.{PagesToScan}
use Rattle.host_types.specs.declared.event.Event.TheVariants.{Set}
use Rattle.host_file.specs.declared.command.Command.{Command}
use Rattle.host_file.specs.declared.command.Command.TheVariants.{Apply, Run, Visit}
use Rattle.tenant_workers.specs.declared.plans.TenantPlan.{TenantPlan}
use Rattle.tenant_workers.specs.Plans.{Planned, planned_by}

-- the run that a command asks of a tenant, by its program's number and its context
abbrev pub run_for : ℕ → Command → List (ℕ × List ℕ)
run_for tenant (Run named program context) = if nat_eq named tenant then (program, context) ∷ [] else []
run_for tenant _ = []

-- all runs that a file asks of a tenant, in the file's order
abbrev pub runs_for : ℕ → List Command → List (ℕ × List ℕ)
runs_for tenant commands = flat_map (run_for tenant) commands

-- a plan with more runs after its own
abbrev pub with_runs : Planned → List (ℕ × List ℕ) → Planned
with_runs planned runs = record planned { runs = planned.runs ++ runs }

-- the tenants' plans with the runs that these commands ask of them, each after those that it had
pub record HaveRuns (commands : List Command) (old new : List TenantPlan) : Type 0 where
  pub as_many : length new ≡ length old
  pub each : (t : ℕ) (plan : TenantPlan) → t < length old → planned_by (get_or new t plan) ≡ with_runs (planned_by (get_or old t plan)) (runs_for t commands)

-- what `pages_to_scan` is after a command
abbrev pub pages_set_by : ℕ → Command → ℕ
pages_set_by pages (Apply (Set PagesToScan value)) = value
pages_set_by pages _ = pages

-- what it is when all options are set
abbrev pub pages_set : ℕ → List Command → ℕ
pages_set pages commands = fold pages_set_by pages commands

-- how many visits a command asks for; without a count as many pages as are scanned
abbrev pub visits_by : ℕ → Command → ℕ
visits_by pages (Visit (Some count)) = count
visits_by pages (Visit None) = pages
visits_by pages _ = 0

-- how many visits a file asks for, where `pages_to_scan` was so at first
abbrev pub visits_in : ℕ → List Command → ℕ
visits_in pages commands = min 4294967295 (sum_by (visits_by (pages_set pages commands)) commands)
