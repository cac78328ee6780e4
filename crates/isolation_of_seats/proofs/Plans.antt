-- Plans that are answered.
use Rattle.std.proofs.Common.{◌≡◌, ◌≢◌, ℕ, suc, ◌⊎◌, inl, inr, true, List, [], ◌∷◌, length, replicate, Option, Some, None, MatchOption, Result, Ok, Err, sym, ap, refl, ◌∙◌, subst}
use Rattle.std.specs.List.{slice_get}
use Rattle.host_types.specs.declared.fault.Fault.{Fault}
use Rattle.host_types.specs.declared.fault.Fault.TheVariants.{NoFrames, NoProgram, BadContext, OutOfMemory}
use Rattle.host_types.specs.Memory.{FlatMaps}
use Rattle.host_types.specs.Tenant.{TenantPart}
use Rattle.verifier.specs.Named.{named_shapes}
use Rattle.verifier.specs.Verified.{Accepted}
use Rattle.interp.specs.Fits.{HaveShapes}
use Rattle.host_calls.specs.Programs.{RefusesBegin}
use Rattle.tenant_runs.specs.declared.answers.RunReply.{RunReply}
use Rattle.tenant_workers.specs.Runs.{RefusesRunOnContext}
use Rattle.tenant_workers.specs.Replies.{RepliesTo, RepliesBy, AllReply}
use Rattle.turn.specs.Seats.{SeatState, own_part}
use Rattle.tenant_workers.specs.Plans.{Planned, IsPlanServed, AreAnswered}
use Rattle.isolation_of_seats.specs.Runs.{is_scarce_run, RunsGoAlike}
use Rattle.isolation_of_seats.specs.Laws.{PlansAreIsolated}
use Rattle.isolation_of_seats.proofs.Determined.{runs_are_determined}

-- one of two replies is scarce, or they are the same and so are the maps
abbrev Alike : Result RunReply Fault → Result RunReply Fault → FlatMaps → FlatMaps → Type 0
Alike reply other maps others = (is_scarce_run reply ≡ true) ⊎ ((is_scarce_run other ≡ true) ⊎ ((reply ≡ other) × (maps ≡ others)))

scarce_begin : (v : Accepted) (owned : TenantPart) (refusal : Fault) → RefusesBegin v owned refusal → is_scarce_run (Err refusal) ≡ true
scarce_begin v owned (NoFrames need have) h = refl
scarce_begin v owned refusal h = absurd h

-- a refusal is scarce, or it is reported by the maps and the context
abbrev IsOwnRefusal : Accepted → List ℕ → FlatMaps → Fault → Type 0
IsOwnRefusal v context maps refusal =
    ((refusal ≡ BadContext) × (length context ≢ v.subject.context_size))
    ⊎ ((refusal ≡ NoProgram) × (length context ≡ v.subject.context_size) × ¬ (HaveShapes (named_shapes v.subject) maps))

refusal_of : (v : Accepted) (context : List ℕ) (owned : TenantPart) (refusal : Fault) → RefusesRunOnContext v context owned refusal → (is_scarce_run (Err refusal) ≡ true) ⊎ IsOwnRefusal v context owned.maps refusal
refusal_of v context owned refusal (inl other_size) = inr (inl other_size)
refusal_of v context owned refusal (inr (sized, inl (inl none))) = inr (inr (none.0, sized, none.1))
refusal_of v context owned refusal (inr (sized, inl (inr begins))) = inl (scarce_begin v owned refusal begins.1)
refusal_of v context owned refusal (inr (sized, inr lacks)) = inl (ap (λ (f : Fault). is_scarce_run (Err f)) lacks.0)

one_refusal : (v : Accepted) (context : List ℕ) (maps : FlatMaps) (refusal other : Fault) → IsOwnRefusal v context maps refusal → IsOwnRefusal v context maps other → refusal ≡ other
one_refusal v context maps refusal other (inl h) (inl k) = h.0 ∙ sym k.0
one_refusal v context maps refusal other (inr h) (inr k) = h.0 ∙ sym k.0
one_refusal v context maps refusal other (inl h) (inr k) = absurd (h.1 k.1)
one_refusal v context maps refusal other (inr h) (inl k) = absurd (k.1 h.1)

-- where a run is made, nothing else but scarcity could have refused it
made : (v : Accepted) (context : List ℕ) (maps : FlatMaps) (refusal : Fault) → length context ≡ v.subject.context_size → HaveShapes (named_shapes v.subject) maps → IsOwnRefusal v context maps refusal → ⊥
made v context maps refusal sized shapes (inl h) = h.1 sized
made v context maps refusal sized shapes (inr h) = h.2 shapes

-- a seat's maps
abbrev maps_of : SeatState → FlatMaps
maps_of seat = (own_part seat).maps

-- maps that stayed on both sides
stayed : (old other new newer : FlatMaps) → old ≡ other → new ≡ old → newer ≡ other → new ≡ newer
stayed old other new newer same h k = h ∙ same ∙ sym k

run_alike : (v : Accepted) (context : List ℕ) (old other new newer : SeatState) (reply further : Result RunReply Fault) → maps_of old ≡ maps_of other → RepliesTo v context old reply new → RepliesTo v context other further newer
    → Alike reply further (maps_of new) (maps_of newer)
run_alike v context old other new newer (Ok reply) (Ok further) same h k =
    let one = runs_are_determined v context (own_part old) (own_part other) (own_part new) (own_part newer) reply further same h.ran k.ran in
    inr (inr (ap Ok one.0, one.1))
run_alike v context old other new newer (Ok reply) (Err refusal) same h k = elim (refusal_of v context (own_part other) refusal k.refused) [
  | inl scarce ↦ inr (inl scarce)
  | inr own ↦ absurd (made v context (maps_of old) refusal h.ran.sized h.ran.shapes (subst (λ (maps : FlatMaps). IsOwnRefusal v context maps refusal) (sym same) own))
]
run_alike v context old other new newer (Err refusal) (Ok further) same h k = elim (refusal_of v context (own_part old) refusal h.refused) [
  | inl scarce ↦ inl scarce
  | inr own ↦ absurd (made v context (maps_of other) refusal k.ran.sized k.ran.shapes (subst (λ (maps : FlatMaps). IsOwnRefusal v context maps refusal) same own))
]
run_alike v context old other new newer (Err refusal) (Err second) same h k = elim (refusal_of v context (own_part old) refusal h.refused) [
  | inl scarce ↦ inl scarce
  | inr own ↦ elim (refusal_of v context (own_part other) second k.refused) [
    | inl scarce ↦ inr (inl scarce)
    | inr also ↦ inr (inr (
      ap (λ (f : Fault). Err f) (one_refusal v context (maps_of old) refusal second own (subst (λ (maps : FlatMaps). IsOwnRefusal v context maps second) (sym same) also)),
      stayed (maps_of old) (maps_of other) (maps_of new) (maps_of newer) same (ap (λ (owned : TenantPart). owned.maps) h.kept) (ap (λ (owned : TenantPart). owned.maps) k.kept),
    ))
  ]
]

reply_alike : (programs : List Accepted) (number : ℕ) (context : List ℕ) (old other new newer : SeatState) (reply further : Result RunReply Fault) → maps_of old ≡ maps_of other → RepliesBy programs number context old reply new
    → RepliesBy programs number context other further newer → Alike reply further (maps_of new) (maps_of newer)
reply_alike programs number context old other new newer reply further same = cases (slice_get programs number)
  where
    cases : (found : Option Accepted) → MatchOption found ((reply ≡ Err NoProgram) × (new ≡ old)) (λ v. RepliesTo v context old reply new)
        → MatchOption found ((further ≡ Err NoProgram) × (newer ≡ other)) (λ v. RepliesTo v context other further newer) → Alike reply further (maps_of new) (maps_of newer)
    cases None h k = inr (inr (h.0 ∙ sym k.0, stayed (maps_of old) (maps_of other) (maps_of new) (maps_of newer) same (ap maps_of h.1) (ap maps_of k.1)))
    cases (Some v) h k = run_alike v context old other new newer reply further same h k

replies_alike : (programs : List Accepted) (runs : List (ℕ × List ℕ)) (old other new newer : SeatState) (replies further : List (Result RunReply Fault)) → maps_of old ≡ maps_of other → AllReply programs runs old replies new
    → AllReply programs runs other further newer → RunsGoAlike replies further (maps_of new) (maps_of newer)
replies_alike programs [] old other new newer [] [] same h k = stayed (maps_of old) (maps_of other) (maps_of new) (maps_of newer) same (ap maps_of h) (ap maps_of k)
replies_alike programs [] old other new newer (reply ∷ replies) further same h k = absurd h
replies_alike programs [] old other new newer [] (second ∷ further) same h k = absurd k
replies_alike programs (run ∷ runs) old other new newer [] further same h k = absurd h
replies_alike programs (run ∷ runs) old other new newer (reply ∷ replies) [] same h k = absurd k
replies_alike programs (run ∷ runs) old other new newer (reply ∷ replies) (second ∷ further) same (between, replied, rest) (midway, answered, more) =
    elim (reply_alike programs run.0 run.1 old other between midway reply second same replied answered) [
      | inl scarce ↦ inl scarce
      | inr (inl scarce) ↦ inr (inl scarce)
      | inr (inr both) ↦ inr (inr (both.0, replies_alike programs runs between midway new newer replies further both.1 rest more))
    ]

-- the thread of a plan couldn't be started: its first reply is scarce, if it has one
unstarted : (runs : List (ℕ × List ℕ)) (old other new newer : SeatState) (programs : List Accepted) (further : List (Result RunReply Fault)) → maps_of old ≡ maps_of other → new ≡ old → AreAnswered programs runs other further newer
    → RunsGoAlike (replicate (length runs) (Err OutOfMemory)) further (maps_of new) (maps_of newer)
unstarted [] old other new newer programs [] same stays (inl k) = stayed (maps_of old) (maps_of other) (maps_of new) (maps_of newer) same (ap maps_of stays) (ap maps_of k)
unstarted [] old other new newer programs (second ∷ further) same stays (inl k) = absurd k
unstarted [] old other new newer programs further same stays (inr k) =
    subst (λ (all : List (Result RunReply Fault)). RunsGoAlike [] all (maps_of new) (maps_of newer)) (sym k.0) (stayed (maps_of old) (maps_of other) (maps_of new) (maps_of newer) same (ap maps_of stays) (ap maps_of k.1))
unstarted (run ∷ runs) old other new newer programs (second ∷ further) same stays k = inl refl
unstarted (run ∷ runs) old other new newer programs [] same stays (inl k) = absurd k
unstarted (run ∷ runs) old other new newer programs [] same stays (inr k) = absurd (cc k.0)

RunsGoAlike-turned : (replies further : List (Result RunReply Fault)) (maps others : FlatMaps) → RunsGoAlike replies further maps others → RunsGoAlike further replies others maps
RunsGoAlike-turned [] [] maps others h = sym h
RunsGoAlike-turned [] (second ∷ further) maps others h = absurd h
RunsGoAlike-turned (reply ∷ replies) [] maps others h = absurd h
RunsGoAlike-turned (reply ∷ replies) (second ∷ further) maps others (inl scarce) = inr (inl scarce)
RunsGoAlike-turned (reply ∷ replies) (second ∷ further) maps others (inr (inl scarce)) = inl scarce
RunsGoAlike-turned (reply ∷ replies) (second ∷ further) maps others (inr (inr h)) = inr (inr (sym h.0, RunsGoAlike-turned replies further maps others h.1))

answered_alike : (programs : List Accepted) (runs : List (ℕ × List ℕ)) (old other new newer : SeatState) (replies further : List (Result RunReply Fault)) → maps_of old ≡ maps_of other → AreAnswered programs runs old replies new
    → AreAnswered programs runs other further newer → RunsGoAlike replies further (maps_of new) (maps_of newer)
answered_alike programs runs old other new newer replies further same (inl h) (inl k) = replies_alike programs runs old other new newer replies further same h k
answered_alike programs runs old other new newer replies further same (inr h) k =
    subst (λ (all : List (Result RunReply Fault)). RunsGoAlike all further (maps_of new) (maps_of newer)) (sym h.0) (unstarted runs old other new newer programs further same h.1 k)
answered_alike programs runs old other new newer replies further same (inl h) (inr k) =
    RunsGoAlike-turned further replies (maps_of newer) (maps_of new)
    (subst (λ (all : List (Result RunReply Fault)). RunsGoAlike all replies (maps_of newer) (maps_of new)) (sym k.0) (unstarted runs other old newer new programs replies (sym same) k.1 (inl h)))

answered : (old new : Planned) → IsPlanServed old new → AreAnswered old.programs old.runs old.seat new.replies new.seat
answered old new (inl made) = inl made.replies
answered old new (inr refused) = inr (refused.replies, refused.untouched)

pub plans_are_isolated : PlansAreIsolated
plans_are_isolated old new other newer programs runs same first second =
    let on_same = subst (λ (ps : List Accepted). AreAnswered ps other.runs other.seat newer.replies newer.seat) (sym programs) (answered other newer second) in
    let both_same = subst (λ (rs : List (ℕ × List ℕ)). AreAnswered old.programs rs other.seat newer.replies newer.seat) (sym runs) on_same in
    answered_alike old.programs old.runs old.seat other.seat new.seat newer.seat new.replies newer.replies same (answered old new first) both_same
