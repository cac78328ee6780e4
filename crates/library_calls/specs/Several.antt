-- Calls that make several others, one after the other.
use Rattle.std.specs.Prelude.{◌≡◌, ◌<◌, ◌≤◌, ◌⊎◌, ℕ, zero, suc, true, List, [], ◌∷◌, ◌++◌, slice_index_or, map, Option, Some, None}
use Rattle.host_types.specs.declared.event.Event.{Event}
use Rattle.host_core.specs.declared.reply.Reply.{Reply}
use Rattle.host_core.specs.declared.reply.Reply.TheVariants.{Ended}
use Rattle.host_core.specs.World.{System}
use Rattle.host_core.specs.Happens.{AllHappen}
use Rattle.host_core.specs.Many.{RunsMany, EndedBefore, context_at}
use Rattle.isolation.specs.Tenants.{AgreeOn, is_scarce}
use Rattle.library_calls.specs.Isolation.{Call, once, whole, CallsHappen}

-- whole runs of a program on the first n contexts
abbrev pub runs_of : ℕ → ℕ → List ℕ → ℕ → ℕ → List Call
runs_of t k contexts size zero = []
runs_of t k contexts size (suc n) = runs_of t k contexts size n ++ whole t k (context_at contexts size n) ∷ []

-- how many runs there are: those that ended, and one more where a reply stopped them
abbrev pub runs_made : ℕ → Option Reply → ℕ
runs_made n None = n
runs_made n (Some reply) = suc n

-- the replies to n runs say that they ended, and returned the first n numbers
abbrev pub AreEnded : List ℕ → ℕ → List Reply → Type 0
AreEnded rets zero replies = replies ≡ []
AreEnded rets (suc n) replies =
    (before : List Reply) × AreEnded rets n before × ((steps : ℕ) × (replies ≡ before ++ Ended (slice_index_or rets n 0) steps ∷ []))

-- so they do, and then there is the reply that stopped them, if there is one
abbrev pub AreRepliesToMany : List ℕ → ℕ → Option Reply → List Reply → Type 0
AreRepliesToMany rets n None replies = AreEnded rets n replies
AreRepliesToMany rets n (Some reply) replies = (before : List Reply) × AreEnded rets n before × (replies ≡ before ++ reply ∷ [])

-- A call that makes many runs does what that many calls do that make one each, and their replies say what it writes.
abbrev pub ManyRunsAreCalls : Type 0
ManyRunsAreCalls =
    (t k : ℕ) (contexts : List ℕ) (size : ℕ) (rets : List ℕ) (n : ℕ) (stopped : Option Reply) (x x' : System)
    → RunsMany t k contexts size rets n stopped x x'
    → (replies : List Reply) × AreRepliesToMany rets n stopped replies
    × CallsHappen x (runs_of t k contexts size (runs_made n stopped)) replies x'

-- what stopped runs is that frames or memory were short
abbrev pub StoppedForWant : Option Reply → Type 0
StoppedForWant None = ⊥
StoppedForWant (Some reply) = is_scarce reply ≡ true

-- runs of which n and m ended returned the same, as far as both go
abbrev pub ReturnAlike : ℕ → ℕ → List ℕ → List ℕ → Type 0
ReturnAlike n m rets others = (i : ℕ) → i < n → i < m → slice_index_or rets i 0 ≡ slice_index_or others i 0

-- Two systems agree on a tenant, and a call on each makes up to so many runs of its program, on the same contexts. Then the runs that ended on
-- both sides returned the same. Where one call was stopped since frames or memory were short, the other one made at least as many runs; and
-- else both made as many, were stopped by the same reply, if by any, and the systems agree on the tenant afterwards.
abbrev pub ManyRunsAreIsolated : Type 0
ManyRunsAreIsolated =
    (t k : ℕ) (contexts : List ℕ) (size count : ℕ) (x y x' y' : System) (rets others : List ℕ) (n m : ℕ) (stopped halted : Option Reply)
    → AgreeOn t x y → EndedBefore count n stopped → EndedBefore count m halted
    → RunsMany t k contexts size rets n stopped x x' → RunsMany t k contexts size others m halted y y'
    → ReturnAlike n m rets others
    × (((n ≤ m) × StoppedForWant stopped) ⊎ ((m ≤ n) × StoppedForWant halted) ⊎ ((n ≡ m) × (stopped ≡ halted) × AgreeOn t x' y'))

-- A call that lets events happen in their order, as one that loads an object, does what a call each does.
abbrev pub EventsAreCalls : Type 0
EventsAreCalls =
    (x x' : System) (events : List Event) (replies : List Reply) → AllHappen x events replies x' → CallsHappen x (map once events) replies x'
