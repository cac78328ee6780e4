-- Runs that are answered one after the other.
use Rattle.std.proofs.Common.{◌≡◌, ◌<◌, ◌+◌, ℕ, List, [], ◌∷◌, ◌++◌, length, map, get_or, take, refl, sym, ap, ◌∙◌, Result, Ok, Err, IfOk, IfErr, OnErr}
use Rattle.std.proofs.Math.ListN.{set, get_or-map}
use Rattle.std.proofs.lemmas.List.{take_more, take_more_set}
use Rattle.host_types.specs.declared.fault.Fault.{Fault}
use Rattle.verifier.specs.Verified.{Accepted}
use Rattle.tenant_runs.specs.declared.answers.RunReply.{RunReply}
use Rattle.host_calls.specs.Calls.{NamesHave}
use Rattle.tenant_runs.specs.UnderWay.{HasRun}
use Rattle.turn.specs.Seats.{SeatState, own_part}
use Rattle.tenant_workers.specs.Calls.{HasGoneOn, memory_left}
use Rattle.tenant_workers.specs.Replies.{RepliesTo, RepliesBy, AllReply}
use Rattle.tenant_workers.specs.Runs.{HasFramesForRun, LeavesMemory, RefusesRunOnContext}

-- what a run was answered, by each of its clauses
pub replies_to : (v : Accepted) (context : List ℕ) (old new : SeatState) (reply : Result RunReply Fault) → HasGoneOn old new → IfOk reply (HasRun v context (own_part old) (own_part new))
    → IfErr reply (RefusesRunOnContext v context (own_part old)) → IfErr reply (NamesHave (memory_left new)) → IfErr reply (HasFramesForRun v (own_part old) (memory_left new))
    → OnErr reply (own_part new ≡ own_part old) → IfErr reply (LeavesMemory old new) → RepliesTo v context old reply new
replies_to v context old new (Ok reply) turns ran refused reported enough kept turn = record { ran = ran; turns = turns }
replies_to v context old new (Err fault) turns ran refused reported enough kept turn = record { refused = refused; kept = kept; turn = turn; reported = reported; enough = enough }

-- one more run is answered after all the others
pub answered-push : (programs : List Accepted) (runs : List (ℕ × List ℕ)) (run : ℕ × List ℕ) (old between new : SeatState) (replies : List (Result RunReply Fault)) (reply : Result RunReply Fault)
    → AllReply programs runs old replies between → RepliesBy programs run.0 run.1 between reply new → AllReply programs (runs ++ run ∷ []) old (replies ++ reply ∷ []) new
answered-push programs [] run old between new [] reply all one = (new, rw (← all) one, refl)
answered-push programs [] run old between new (other ∷ replies) reply all one = absurd all
answered-push programs (first ∷ runs) run old between new [] reply all one = absurd all
answered-push programs (first ∷ runs) run old between new (other ∷ replies) reply (middle, here, rest) one =
    (middle, here, answered-push programs runs run middle between new replies reply rest one)

-- the next run is answered, in its index
pub answered-more : (programs : List Accepted) (runs : List (ℕ × List ℕ)) (entry_index : ℕ) (run : ℕ × List ℕ) (old between new : SeatState) (replies : List (Result RunReply Fault)) (reply : Result RunReply Fault)
    → entry_index < length runs → entry_index < length replies → get_or runs entry_index run ≡ run
    → AllReply programs (take entry_index runs) old (take entry_index replies) between → RepliesBy programs run.0 run.1 between reply new
    → AllReply programs (take (entry_index + 1) runs) old (take (entry_index + 1) (set replies entry_index reply)) new
answered-more programs runs entry_index run old between new replies reply within room named all one =
    rw (take_more runs entry_index run within, take_more_set replies entry_index reply room, named) (answered-push programs (take entry_index runs) run old between new (take entry_index replies) reply all one)

-- what an element is mapped to, in its index
pub mapped-at : {X Y : Type 0} (f : X → Y) (now first : List X) (entry_index : ℕ) (x : X) → x ≡ get_or now entry_index x → now ≡ first → get_or (map f first) entry_index (f x) ≡ f x
mapped-at f now first entry_index x is same = get_or-map f first entry_index x ∙ sym (ap f (is ∙ ap (λ xs. get_or xs entry_index x) same))

-- the same answer to the same run
pub answered-as : (programs given : List Accepted) (number : ℕ) (context lent : List ℕ) (old new : SeatState) (reply : Result RunReply Fault)
    → given ≡ programs → lent ≡ context → RepliesBy given number lent old reply new → RepliesBy programs number context old reply new
answered-as programs given number context lent old new reply same_programs same_context one = rw (← same_programs, ← same_context) one
