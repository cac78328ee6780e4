-- What a call of the library does to a system, by events and their replies.
use Rattle.std.specs.Prelude.{◌≡◌, ℕ, suc, zero, List, Option, unwrap_or}
use Rattle.host_types.specs.declared.event.Event.{Event}
use Rattle.host_types.specs.declared.event.Event.TheVariants.{Visit, Counters}
use Rattle.host_core.specs.declared.reply.Reply.{Reply}
use Rattle.host_core.specs.declared.reply.Reply.TheVariants.{Stepped}
use Rattle.host_core.specs.World.{System, IsCovered}
use Rattle.host_core.specs.Happens.{Happens, IsPromised, RunHappens, StepsHappen}

-- an event happens in a system, keeps what is promised of it, and leaves frames for all open runs
abbrev pub Serves : Event → Reply → System → System → Type 0
Serves event reply x x' = Happens x event reply x' × IsPromised x event reply x' × IsCovered x'

-- a run of a program on a context, from its beginning to its end
abbrev pub RunsWhole : ℕ → ℕ → List ℕ → Reply → System → System → Type 0
RunsWhole t k context reply x x' = RunHappens x t k context reply x'

-- steps of a tenant's open run, up to a limit: the reply to the last one, or that the run goes on
abbrev pub Steps : ℕ → ℕ → Reply → System → System → Type 0
Steps t limit reply x x' = (last : Option Reply) × (reply ≡ unwrap_or last Stepped) × StepsHappen x t limit last x'

-- so many visits of the scanner
abbrev pub Visits : ℕ → System → System → Type 0
Visits zero x x' = x' ≡ x
Visits (suc n) x x' = (between : System) × Visits n x between × ((reply : Reply) × Serves Visit reply between x')

-- so many visits of the scanner, and then the counters are reported
abbrev pub VisitsAndCounts : ℕ → Reply → System → System → Type 0
VisitsAndCounts n reply x x' = (between : System) × Visits n x between × Serves Counters reply between x'
