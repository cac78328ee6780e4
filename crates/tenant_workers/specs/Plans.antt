-- Plans of a shared memory.
use Rattle.std.specs.Prelude.{◌≡◌, ◌⊎◌, ℕ, ◌≤◌, List, length, map, replicate, vec_capacity, Result, Err}
use Rattle.host_types.specs.declared.fault.Fault.{Fault}
use Rattle.host_types.specs.declared.fault.Fault.TheVariants.{OutOfMemory}
use Rattle.atomic_table.specs.Seated.{TableId}
use Rattle.verifier.specs.Verified.{Accepted}
use Rattle.tenant_runs.specs.declared.answers.RunReply.{RunReply}
use Rattle.turn.specs.Seats.{SeatState}
use Rattle.tenant_workers.specs.Calls.{HasVisited, IsSameSeat}
use Rattle.tenant_workers.specs.Jobs.{AreEach}
use Rattle.tenant_workers.specs.Replies.{AllReply}
use Rattle.tenant_workers.specs.declared.plans.ScanPlan.{ScanPlan}
use Rattle.tenant_workers.specs.declared.plans.TenantPlan.{TenantPlan}

-- the plan is one of this turn
pub record IsFor (turn : TableId) (plan : TenantPlan) : Type 0 where
  pub own : plan.shared.now ≡ turn

-- the plan has room for as many replies as it has runs
pub record HasReplyRoom (plan : TenantPlan) : Type 0 where
  pub room : length plan.runs.items ≤ vec_capacity plan.replies

-- what a plan says: whose it is, its programs, its runs by program number and context, and their replies
pub record Planned : Type 0 where
  pub turn : TableId
  pub seat : SeatState
  pub programs : List Accepted
  pub runs : List (ℕ × List ℕ)
  pub replies : List (Result RunReply Fault)

abbrev pub planned_by : TenantPlan → Planned
planned_by plan = record {
  turn = plan.shared.now;
  seat = plan.seat;
  programs = plan.programs.items;
  runs = map (λ run. (run.0, run.1.items)) plan.runs.items;
  replies = plan.replies.items;
}

-- each of the plans says what it said
abbrev pub AreSamePlans : List TenantPlan → List TenantPlan → Type 0
AreSamePlans old new = map planned_by new ≡ map planned_by old

-- a plan says what it said, but for its seat and what its runs were answered
pub record IsPlanKept (old new : Planned) : Type 0 where
  pub turn : new.turn ≡ old.turn
  pub seat : IsSameSeat old.seat new.seat
  pub programs : new.programs ≡ old.programs
  pub runs : new.runs ≡ old.runs

-- its runs were made in order, each from the seat as the one before left it
pub record IsPlanMade (old new : Planned) : Type 0 where
  pub kept : IsPlanKept old new
  pub replies : AllReply old.programs old.runs old.seat new.replies new.seat

-- its thread couldn't be started: each of its runs is answered so, and the seat stays
pub record IsPlanRefused (old new : Planned) : Type 0 where
  pub kept : IsPlanKept old new
  pub replies : new.replies ≡ replicate (length old.runs) (Err OutOfMemory)
  pub untouched : new.seat ≡ old.seat

-- What the runs of a plan were answered: each was made or refused, in order, from the seat as the one before left it; or
-- the plan's thread couldn't be started.
abbrev pub AreAnswered : List Accepted → List (ℕ × List ℕ) → SeatState → List (Result RunReply Fault) → SeatState → Type 0
AreAnswered programs runs old replies new =
    AllReply programs runs old replies new ⊎ ((replies ≡ replicate (length runs) (Err OutOfMemory)) × (new ≡ old))

-- a plan was served
abbrev pub IsPlanServed : Planned → Planned → Type 0
IsPlanServed old new = IsPlanMade old new ⊎ IsPlanRefused old new

-- each of the plans was served, whatever came of the others
abbrev pub AreServed : List TenantPlan → List TenantPlan → Type 0
AreServed old new = AreEach IsPlanServed (map planned_by old) (map planned_by new)

-- the scanner's plan was done: as many visits were made as it says
pub record HasScanned (old new : ScanPlan) : Type 0 where
  pub turn : new.shared.now ≡ old.shared.now
  pub planned : new.visits ≡ old.visits
  pub seat : IsSameSeat old.seat new.seat
  pub made : HasVisited old.visits old.seat new.seat

-- it was done, or its thread couldn't be started, and it is as it was
abbrev pub IsScanServed : ScanPlan → ScanPlan → Type 0
IsScanServed old new = HasScanned old new ⊎ (new ≡ old)
