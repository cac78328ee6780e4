-- What each event of a tenant does to it, by what it finds there.
use Rattle.std.proofs.Common.{ℕ, Bool, List, MatchOption}
use Rattle.host_types.specs.declared.fault.Fault.TheVariants as fault
use Rattle.host_types.specs.declared.shape.Shape.{Shape}
use Rattle.host_calls.specs.Calls.{lookup_refusal}
use Rattle.host_calls.specs.Programs.{subject_of}
use Rattle.host_core.specs.declared.reply.Reply.{Reply}
use Rattle.host_core.specs.declared.reply.Reply.TheVariants.{Refused}
use Rattle.host_core.specs.World.{Tenant, System, owned_by}
use Rattle.host_core.specs.Happens.{Answers, RefusedOr, create_refusal, CreateHappens, LoadHappens, load_refusal, BeginHappens, begin_refusal, StepHappens, host_update_refusal, UpdateHappens, LookupHappens, UnloadHappens, unload_refusal, DropHappens, drop_refusal}

abbrev pub Happening : Type 1
Happening = System → Tenant → Reply → System → Type 0

abbrev pub CreateOf : ℕ → Shape → Bool → Happening
CreateOf t shape mergeable x tenant reply x' = RefusedOr (create_refusal x t tenant shape) x reply x' (CreateHappens x t tenant shape mergeable reply x')

abbrev pub LoadOf : ℕ → List ℕ → ℕ → Happening
LoadOf t text size x tenant reply x' =
    RefusedOr (load_refusal tenant size) x reply x' (LoadHappens x t tenant (subject_of (owned_by x.sharing t tenant) text size) reply x')

abbrev pub BeginOf : ℕ → ℕ → List ℕ → Happening
BeginOf t k context x tenant reply x' = RefusedOr (begin_refusal tenant k context) x reply x' (BeginHappens x t tenant k context reply x')

abbrev pub StepOf : ℕ → Happening
StepOf t x tenant reply x' = MatchOption tenant.run (Answers x (Refused fault.NoRun) reply x') (λ r. StepHappens x t tenant r reply x')

abbrev pub UpdateOf : ℕ → ℕ → ℕ → List ℕ → Happening
UpdateOf t m key value x tenant reply x' =
    RefusedOr (host_update_refusal x t tenant m key value) x reply x' (UpdateHappens x t tenant m key value reply x')

abbrev pub LookupOf : ℕ → ℕ → ℕ → Happening
LookupOf t m key x tenant reply x' =
    RefusedOr (lookup_refusal (owned_by x.sharing t tenant) m key) x reply x' (LookupHappens x t tenant m key reply x')

abbrev pub UnloadOf : ℕ → ℕ → Happening
UnloadOf t k x tenant reply x' = RefusedOr (unload_refusal tenant k) x reply x' (UnloadHappens x t tenant k reply x')

abbrev pub DropOf : ℕ → ℕ → Happening
DropOf t m x tenant reply x' = RefusedOr (drop_refusal tenant m) x reply x' (DropHappens x t tenant m reply x')
