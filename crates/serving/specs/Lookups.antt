-- What is answered to the lookups of a served file, when all threads have ended (docs/HOST.md).
use Rattle.std.specs.Prelude.{◌≡◌, ℕ, List, [], ◌∷◌, flat_map, MatchOption, slice_get}
use Rattle.host_types.specs.declared.fault.Fault.TheVariants.{BadTenant}
use Rattle.host_types.specs.Tenant.{TenantPart}
use Rattle.host_calls.specs.Calls.{IsValue, RefusesLookup}
use Rattle.host_types.specs.declared.event.Event.{Event}
use Rattle.host_types.specs.declared.event.Event.TheVariants.{HostLookup}
use Rattle.host_core.specs.declared.reply.Reply.{Reply}
use Rattle.host_core.specs.declared.reply.Reply.TheVariants.{Value, Refused}
use Rattle.host_file.specs.declared.command.Command.{Command}
use Rattle.host_file.specs.declared.command.Command.TheVariants.{Apply}
use Rattle.serving.specs.Report.{Telling, Answered}

-- the event by which a command looks a value up
abbrev pub lookup_by : Command → List Event
lookup_by (Apply (HostLookup tenant map key)) = HostLookup tenant map key ∷ []
lookup_by _ = []

-- all of them, in the file's order
abbrev pub lookups_in : List Command → List Event
lookups_in commands = flat_map lookup_by commands

-- the answer to a lookup in a tenant's part: the value, or why there is none
abbrev pub IsAnswerIn : TenantPart → ℕ → ℕ → Reply → Type 0
IsAnswerIn part map key (Value bytes) = IsValue part map key bytes
IsAnswerIn part map key (Refused fault) = RefusesLookup part map key fault
IsAnswerIn part map key _ = ⊥

-- the answer to a lookup, where the tenants have these parts
abbrev pub IsLookedUp : List TenantPart → Event → Reply → Type 0
IsLookedUp parts (HostLookup tenant map key) reply = MatchOption (slice_get parts tenant) (reply ≡ Refused BadTenant) (λ part. IsAnswerIn part map key reply)
IsLookedUp parts event reply = ⊥

-- each of them has its answer, in order
abbrev pub AreLookedUp : List TenantPart → List Event → List Reply → Type 0
AreLookedUp parts [] [] = Unit {0}
AreLookedUp parts (event ∷ events) (reply ∷ replies) = IsLookedUp parts event reply × AreLookedUp parts events replies
AreLookedUp parts events replies = ⊥

-- what is printed of them
abbrev pub lookup_tellings : List Event → List Reply → List Telling
lookup_tellings (event ∷ events) (reply ∷ replies) = Answered event 0 reply ∷ lookup_tellings events replies
lookup_tellings events replies = []
