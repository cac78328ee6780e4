-- What a call does to the host of a handle.
use Rattle.std.specs.Prelude.{◌≡◌, ℕ, Option, Some, None}
use Rattle.host_core.specs.declared.reply.Reply.{Reply}
use Rattle.host_core.specs.World.{System}
use Rattle.host_core.specs.HostView.{HostView, StandsForSystem}
use Rattle.host_handle.specs.declared.answer.Answer.{Answer}
use Rattle.host_handle.specs.declared.answer.Answer.TheVariants.{Closed, Replied}
pub use Rattle.library_calls.specs.Calls.{Serves, RunsWhole, Steps, Visits, VisitsAndCounts}

-- A host went from one view to another: in each system that it stood for this happens, and it stands for the one afterwards.
abbrev pub Goes : (System → System → Type 0) → HostView → HostView → Type 0
Goes Happening old new =
    (x : System) → StandsForSystem old x → (x' : System) × StandsForSystem new x' × Happening x x'

-- What an answer says of the host of a handle: a closed handle stays closed, and after an open one happens what the reply answers.
abbrev pub HasAnswer : (Reply → System → System → Type 0) → Answer → Option HostView → Option HostView → Type 0
HasAnswer Happening Closed None None = Unit {0}
HasAnswer Happening (Replied reply) (Some old) (Some new) = Goes (Happening reply) old new
HasAnswer Happening answer old new = ⊥

-- there is no option of the number that a call names: nothing happens
abbrev pub IsNoOption : ℕ → Option HostView → Option HostView → Type 0
IsNoOption result None new = (result ≡ 100) × (new ≡ None)
IsNoOption result (Some host) new = (result ≡ 40) × (new ≡ Some host)
