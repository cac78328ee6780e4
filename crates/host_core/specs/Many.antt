-- Runs of a program on contexts of one size, each of which stands after the one before it.
use Rattle.std.specs.Prelude.{◌≡◌, ◌<◌, ◌*◌, ℕ, zero, suc, List, length, drop, slice_index_or, Option, Some, None, Result, Ok, Err}
use Rattle.host_types.specs.Bytes.{part_of}
use Rattle.host_core.specs.declared.reply.Reply.{Reply}
use Rattle.host_core.specs.declared.reply.Reply.TheVariants.{Ended}
use Rattle.host_core.specs.declared.reply.Stopped.{Stopped}
use Rattle.host_core.specs.World.{System}
use Rattle.host_core.specs.Happens.{RunHappens}
use Rattle.host_core.specs.HostView.{HostView, StandsForSystem}

-- the context with a number
abbrev pub context_at : List ℕ → ℕ → ℕ → List ℕ
context_at contexts size n = part_of contexts (n * size) size

-- The program is run on the first n contexts, one after the other and each time to its end, and returns the first n numbers.
abbrev pub RunsFirst : ℕ → ℕ → List ℕ → ℕ → List ℕ → ℕ → System → System → Type 0
RunsFirst t k contexts size rets zero x x' = x' ≡ x
RunsFirst t k contexts size rets (suc n) x x' =
    (between : System) × RunsFirst t k contexts size rets n x between
    × ((steps : ℕ) × RunHappens between t k (context_at contexts size n) (Ended (slice_index_or rets n 0) steps) x')

-- After the first n, no run follows, or one whose reply isn't that it ended.
abbrev pub StopsAfter : ℕ → ℕ → List ℕ → ℕ → ℕ → Option Reply → System → System → Type 0
StopsAfter t k contexts size n None x x' = x' ≡ x
StopsAfter t k contexts size n (Some reply) x x' =
    ((ret steps : ℕ) → reply ≡ Ended ret steps → ⊥) × RunHappens x t k (context_at contexts size n) reply x'

-- what happens in such a call
abbrev pub RunsMany : ℕ → ℕ → List ℕ → ℕ → List ℕ → ℕ → Option Reply → System → System → Type 0
RunsMany t k contexts size rets n stopped x x' =
    (between : System) × RunsFirst t k contexts size rets n x between × StopsAfter t k contexts size n stopped between x'

-- how many of so many runs ended
abbrev pub ended_of : ℕ → Result (Unit {0}) Stopped → ℕ
ended_of count (Ok all) = count
ended_of count (Err stopped) = stopped.ended

-- the reply to the run that stopped them, if one did
abbrev pub stopped_by : {A : Type 0} → Result A Stopped → Option Reply
stopped_by (Ok all) = None
stopped_by (Err stopped) = Some stopped.reply

-- n runs ended where nothing stopped them, and else fewer than there are numbers to write
abbrev pub EndedBefore : ℕ → ℕ → Option Reply → Type 0
EndedBefore count n None = n ≡ count
EndedBefore count n (Some reply) = n < count

-- The numbers of the runs that ended are written, and the others are as they were.
pub record HaveRun (t k : ℕ) (contexts : List ℕ) (size : ℕ) (rets : List ℕ) (written : List ℕ) (n : ℕ) (stopped : Option Reply) (old new : HostView) : Type 0 where
  pub made : EndedBefore (length rets) n stopped
  pub long : length written ≡ length rets
  pub others : drop n written ≡ drop n rets
  pub runs : (x : System) → StandsForSystem old x → (next : System) × StandsForSystem new next × RunsMany t k contexts size written n stopped x next
