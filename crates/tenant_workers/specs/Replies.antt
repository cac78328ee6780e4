-- What runs of a tenant's programs are answered, and what becomes of its seat.
use Rattle.std.specs.Prelude.{◌≡◌, ℕ, List, [], ◌∷◌, MatchOption, slice_get, Result, Ok, Err}
use Rattle.host_types.specs.declared.fault.Fault.{Fault}
use Rattle.host_types.specs.declared.fault.Fault.TheVariants.{NoProgram}
use Rattle.verifier.specs.Verified.{Accepted}
use Rattle.host_calls.specs.Calls.{NamesHave}
use Rattle.tenant_runs.specs.declared.answers.RunReply.{RunReply}
use Rattle.tenant_runs.specs.UnderWay.{HasRun}
use Rattle.turn.specs.Seats.{SeatState, own_part}
use Rattle.tenant_workers.specs.Calls.{HasGoneOn, memory_left}
use Rattle.tenant_workers.specs.Runs.{HasFramesForRun, LeavesMemory, RefusesRunOnContext}

-- A run was made, from the part that the seat had to the part that it has.
pub record IsRunMade (v : Accepted) (context : List ℕ) (old : SeatState) (reply : RunReply) (new : SeatState) : Type 0 where
  pub ran : HasRun v context (own_part old) (own_part new) reply
  pub turns : HasGoneOn old new

-- A run wasn't made, and the part stays. In the turn in which it was asked, the memory stayed too: missing frames are
-- named with what could be had of it then, and where memory ran out, it had the frames.
pub record IsNotMade (v : Accepted) (context : List ℕ) (old : SeatState) (fault : Fault) (new : SeatState) : Type 0 where
  pub refused : RefusesRunOnContext v context (own_part old) fault
  pub kept : own_part new ≡ own_part old
  pub turn : LeavesMemory old new fault
  pub reported : NamesHave (memory_left new) fault
  pub enough : HasFramesForRun v (own_part old) (memory_left new) fault

-- the answer to a run of a program on a context
abbrev pub RepliesTo : Accepted → List ℕ → SeatState → Result RunReply Fault → SeatState → Type 0
RepliesTo v context old (Ok reply) new = IsRunMade v context old reply new
RepliesTo v context old (Err fault) new = IsNotMade v context old fault new

-- the answer to a run of the program of a number: where no program has it, `NoProgram`, and the seat stays
abbrev pub RepliesBy : List Accepted → ℕ → List ℕ → SeatState → Result RunReply Fault → SeatState → Type 0
RepliesBy programs number context old reply new =
    MatchOption (slice_get programs number) ((reply ≡ Err NoProgram) × (new ≡ old)) (λ v. RepliesTo v context old reply new)

-- Each run, named by its program's number and its context, has its answer, in order, and each begins with the
-- seat as the one before left it.
abbrev pub AllReply : List Accepted → List (ℕ × List ℕ) → SeatState → List (Result RunReply Fault) → SeatState → Type 0
AllReply programs [] old [] new = new ≡ old
AllReply programs (run ∷ runs) old (reply ∷ replies) new =
    (between : SeatState) × RepliesBy programs run.0 run.1 old reply between × AllReply programs runs between replies new
AllReply programs runs old replies new = ⊥
