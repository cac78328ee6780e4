-- Calls on two handles, whose hosts agree on a tenant.
use Rattle.std.specs.Prelude.{◌≡◌, ℕ, Bool, if◌then◌else◌, List, [], ◌∷◌, Option, Some, None}
use Rattle.host_types.specs.declared.event.Event.{Event}
use Rattle.host_core.specs.declared.reply.Reply.{Reply}
use Rattle.host_types.specs.Events.{tenant_of}
use Rattle.host_core.specs.World.{System}
use Rattle.isolation.specs.Tenants.{AgreeOn, GoAlike, names_tenant}
use Rattle.library_calls.specs.Calls.{Serves, RunsWhole, Steps, VisitsAndCounts}

-- A call: one event; a whole run of a tenant's program on a context; steps of a tenant's open run, up to a limit; so many visits.
pub data Call : Type 0 where
  once : Event → Call
  whole : ℕ → ℕ → List ℕ → Call
  further : ℕ → ℕ → Call
  scanning : ℕ → Call

-- a call is answered so, and leads from a system to another one
abbrev pub CallHappens : Call → Reply → System → System → Type 0
CallHappens (once event) reply x x' = Serves event reply x x'
CallHappens (whole t k context) reply x x' = RunsWhole t k context reply x x'
CallHappens (further t limit) reply x x' = Steps t limit reply x x'
CallHappens (scanning n) reply x x' = VisitsAndCounts n reply x x'

-- the tenant for which a call is, if it is for one
abbrev pub tenant_of_call : Call → Option ℕ
tenant_of_call (once event) = tenant_of event
tenant_of_call (whole t k context) = Some t
tenant_of_call (further t limit) = Some t
tenant_of_call (scanning n) = None

abbrev pub is_call_for : ℕ → Call → Bool
is_call_for t call = names_tenant t (tenant_of_call call)

-- the calls for a tenant, in their order
abbrev pub calls_for : ℕ → List Call → List Call
calls_for t [] = []
calls_for t (call ∷ calls) = if is_call_for t call then call ∷ calls_for t calls else calls_for t calls

-- the replies to the calls for a tenant, in their order
abbrev pub answers_for : ℕ → List Call → List Reply → List Reply
answers_for t [] replies = []
answers_for t calls [] = []
answers_for t (call ∷ calls) (reply ∷ replies) =
    if is_call_for t call then reply ∷ answers_for t calls replies else answers_for t calls replies

-- calls in their order, with their replies
abbrev pub CallsHappen : System → List Call → List Reply → System → Type 0
CallsHappen x [] [] x' = x' ≡ x
CallsHappen x (call ∷ calls) (reply ∷ replies) x' = (next : System) × CallHappens call reply x next × CallsHappen next calls replies x'
CallsHappen x calls replies x' = ⊥

-- Two systems agree on a tenant, and the calls for it are the same in the same order, whatever calls for others stand between them. Then the
-- replies to them are the same up to the first scarce one on either side, and where there is none, the systems agree on it afterwards.
abbrev pub CallsAreIsolated : Type 0
CallsAreIsolated =
    (t : ℕ) (x y x' y' : System) (calls others : List Call) (replies further : List Reply)
    → AgreeOn t x y → calls_for t calls ≡ calls_for t others
    → CallsHappen x calls replies x' → CallsHappen y others further y'
    → GoAlike t (answers_for t calls replies) (answers_for t others further) x' y'
