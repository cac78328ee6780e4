-- Calls that make several others, by induction on these.
use Rattle.std.proofs.Common.{ℕ, zero, suc, List, [], ◌∷◌, ◌++◌, Some, None, refl, sym, subst}
use Rattle.std.specs.Prelude.{slice_index_or}
use Rattle.host_core.specs.declared.reply.Reply.{Reply}
use Rattle.host_core.specs.declared.reply.Reply.TheVariants.{Ended}
use Rattle.host_core.specs.World.{System}
use Rattle.host_core.specs.Many.{RunsFirst, context_at}
use Rattle.library_calls.specs.Isolation.{Call, whole, CallHappens, CallsHappen}
use Rattle.library_calls.specs.Several.{runs_of, AreEnded, ManyRunsAreCalls, EventsAreCalls}

-- one more call after the others
one_more : (x y z : System) (calls : List Call) (replies : List Reply) (call : Call) (reply : Reply)
    → CallsHappen x calls replies y → CallHappens call reply y z → CallsHappen x (calls ++ call ∷ []) (replies ++ reply ∷ []) z
one_more x y z [] [] call reply h last = (z, subst (λ (from : System). CallHappens call reply from z) h last, refl)
one_more x y z (first ∷ calls) (made ∷ replies) call reply (next, happens, rest) last = (next, happens, one_more next y z calls replies call reply rest last)
one_more x y z [] (made ∷ replies) call reply h last = absurd h
one_more x y z (first ∷ calls) [] call reply h last = absurd h

-- the runs that ended
first_runs : (t k : ℕ) (contexts : List ℕ) (size : ℕ) (rets : List ℕ) (n : ℕ) (x x' : System) → RunsFirst t k contexts size rets n x x'
    → (replies : List Reply) × AreEnded rets n replies × CallsHappen x (runs_of t k contexts size n) replies x'
first_runs t k contexts size rets zero x x' h = ([], refl, h)
first_runs t k contexts size rets (suc n) x x' (between, first, (steps, run)) =
    let before = first_runs t k contexts size rets n x between first in (
      before.0 ++ Ended (slice_index_or rets n 0) steps ∷ [],
      (before.0, before.1, (steps, refl)),
      one_more x between x' (runs_of t k contexts size n) before.0 (whole t k (context_at contexts size n)) (Ended (slice_index_or rets n 0) steps) before.2 run,
    )

pub many_runs_are_calls : ManyRunsAreCalls
many_runs_are_calls t k contexts size rets n None x x' (between, first, same) =
    let before = first_runs t k contexts size rets n x between first in
    (before.0, before.1, subst (λ (to : System). CallsHappen x (runs_of t k contexts size n) before.0 to) (sym same) before.2)
many_runs_are_calls t k contexts size rets n (Some reply) x x' (between, first, (goes, run)) =
    let before = first_runs t k contexts size rets n x between first in (
      before.0 ++ reply ∷ [],
      (before.0, before.1, refl),
      one_more x between x' (runs_of t k contexts size n) before.0 (whole t k (context_at contexts size n)) reply before.2 run,
    )

pub events_are_calls : EventsAreCalls
events_are_calls x x' [] [] h = h
events_are_calls x x' (event ∷ events) (reply ∷ replies) (next, happens, promised, covered, rest) =
    (next, (happens, promised, covered), events_are_calls next x' events replies rest)
events_are_calls x x' [] (reply ∷ replies) h = absurd h
events_are_calls x x' (event ∷ events) [] h = absurd h
