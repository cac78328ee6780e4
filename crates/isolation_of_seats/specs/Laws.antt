-- Isolation with threads: what a tenant's runs are answered follows from its maps, its programs and its contexts.
use Rattle.std.specs.Prelude.{◌≡◌, ℕ, List}
use Rattle.host_types.specs.Tenant.{TenantPart}
use Rattle.verifier.specs.Verified.{Accepted}
use Rattle.tenant_runs.specs.declared.answers.RunReply.{RunReply}
use Rattle.tenant_runs.specs.UnderWay.{HasRun}
use Rattle.turn.specs.Seats.{own_part}
use Rattle.tenant_workers.specs.Plans.{Planned, IsPlanServed}
use Rattle.isolation_of_seats.specs.Runs.{RunsGoAlike}

-- two whole runs of a program on one context and equal maps have one reply, and leave equal maps
abbrev pub RunsAreDetermined : Type 0
RunsAreDetermined =
    (v : Accepted) (context : List ℕ) (old other new newer : TenantPart) (reply further : RunReply)
    → old.maps ≡ other.maps → HasRun v context old new reply → HasRun v context other newer further
    → (reply ≡ further) × (new.maps ≡ newer.maps)

-- Two plans of the same programs and runs, for seats with equal maps, that are served by any threads beside any others, are answered
-- the same up to the first scarce reply to either; where there is none, they leave equal maps.
abbrev pub PlansAreIsolated : Type 0
PlansAreIsolated =
    (old new other newer : Planned) → old.programs ≡ other.programs → old.runs ≡ other.runs
    → (own_part old.seat).maps ≡ (own_part other.seat).maps → IsPlanServed old new → IsPlanServed other newer
    → RunsGoAlike new.replies newer.replies (own_part new.seat).maps (own_part newer.seat).maps
