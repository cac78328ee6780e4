-- Runs of a program whose text ends as an original text does.
use Rattle.std.specs.Prelude.{◌≡◌, ℕ, List, slice_get, IsSomeAnd}
use Rattle.host_types.specs.Memory.{FlatMaps}
use Rattle.host_types.specs.Tenant.{TenantPart}
use Rattle.verifier.specs.Verified.{Accepted}
use Rattle.lowering.specs.Laws.{EndAlike, Ends}
use Rattle.tenant_runs.specs.declared.answers.RunReply.{RunReply}
use Rattle.tenant_runs.specs.UnderWay.{HasRun}
use Rattle.host_core.specs.declared.reply.Reply.TheVariants.{Ended}
use Rattle.host_core.specs.World.{OpenRun, World, started}
use Rattle.host_core.specs.Happens.{IsPromisedOf}

-- a whole run on shared pages returns the number, and leaves the maps, with which the original ends
abbrev pub RunsEndAsTheOriginal : Type 0
RunsEndAsTheOriginal =
    (text : List ℕ) (v : Accepted) (context : List ℕ) (old new : TenantPart) (reply : RunReply)
    → EndAlike text v.subject.text → HasRun v context old new reply → Ends text context old.maps reply.ret new.maps

-- a host's run that was begun on a context and maps, and ends by a step that keeps its promise, ends as the original does
abbrev pub OpenRunsEndAsTheOriginal : Type 0
OpenRunsEndAsTheOriginal =
    (text context : List ℕ) (maps : FlatMaps) (r : OpenRun) (t number steps : ℕ) (w : World)
    → EndAlike text r.program.text → r.beginning ≡ started context maps → IsPromisedOf r t (Ended number steps) w
    → (left : FlatMaps) × Ends text context maps number left × IsSomeAnd (slice_get w t) (λ tenant. tenant.maps ≡ left)
