-- What follows from an event of a tenant, case by case.
use Rattle.std.proofs.Common.{◌≡◌, ℕ, Option, Some, None, MatchOption, refl}
use Rattle.std.specs.List.{slice_get}
use Rattle.host_types.specs.declared.fault.Fault.{Fault}
use Rattle.host_types.specs.declared.fault.Fault.TheVariants as fault
use Rattle.host_core.specs.declared.reply.Reply.{Reply}
use Rattle.host_core.specs.declared.reply.Reply.TheVariants.{Refused}
use Rattle.host_core.specs.World.{Tenant, System}
use Rattle.host_core.specs.Happens.{Answers, RefusedOr, OfTenant}

-- the tenant isn't there, or it is
pub of_tenant : (Follows : Type 0) (x : System) (t : ℕ) (reply : Reply) (x' : System) (Happening : Tenant → Type 0)
    → (Answers x (Refused fault.BadTenant) reply x' → Follows) → ((tenant : Tenant) → slice_get x.world t ≡ Some tenant → Happening tenant → Follows)
    → OfTenant x t reply x' Happening → Follows
of_tenant Follows x t reply x' Happening lacks happens h = by_tenant (slice_get x.world t) refl h
  where
    by_tenant : (found : Option Tenant) → slice_get x.world t ≡ found → MatchOption found (Answers x (Refused fault.BadTenant) reply x') Happening → Follows
    by_tenant None e h = lacks h
    by_tenant (Some tenant) e h = happens tenant e h

-- the event is refused, or it isn't
pub refused_or : (Follows : Type 0) (refusal : Option Fault) (x : System) (reply : Reply) (x' : System) (Happening : Type 0)
    → ((f : Fault) → refusal ≡ Some f → Answers x (Refused f) reply x' → Follows) → (refusal ≡ None → Happening → Follows)
    → RefusedOr refusal x reply x' Happening → Follows
refused_or Follows (Some f) x reply x' Happening refused happens h = refused f refl h
refused_or Follows None x reply x' Happening refused happens h = happens refl h
