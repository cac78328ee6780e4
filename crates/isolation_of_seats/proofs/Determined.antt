-- The standard's machine comes to one end.
use Rattle.std.proofs.Common.{◌≡◌, ℕ, zero, suc, ◌<◌, ◌⊎◌, inl, inr, List, Some, sym, ap, refl, ◌∙◌, subst, arith}
use Rattle.host_types.specs.Memory.{FlatMaps}
use Rattle.interp.specs.Machine.{MachineState, Outcome, Next, Exits, start_state, step}
use Rattle.interp.specs.Runs.{Reaches, Runs}
use Rattle.tenant_runs.specs.declared.answers.RunReply.{RunReply}
use Rattle.isolation_of_seats.specs.Laws.{RunsAreDetermined}

-- so many steps lead to one outcome
one_outcome : (text : List ℕ) (s : MachineState) (n : ℕ) (one two : Outcome) → Reaches text s n one → Reaches text s n two → one ≡ two
one_outcome text s zero one two h k = h ∙ sym k
one_outcome text s (suc n) one two (t, led, makes) (u, came, also) =
    let same : Next t ≡ Next u = one_outcome text s n (Next t) (Next u) led came in
    let state : t ≡ u = cc same in
    cc (makes, also, ap (step text) state)

three_ways : (a b : ℕ) → (a < b) ⊎ ((b < a) ⊎ (a ≡ b))
three_ways a b = grind arith

-- before its last step a run goes on
goes_on : (text : List ℕ) (s : MachineState) (n m : ℕ) (outcome : Outcome) → n < m → Reaches text s m outcome → (t : MachineState) × Reaches text s n (Next t)
goes_on text s n zero outcome before h = absurd (omega (arith, before))
goes_on text s n (suc m) outcome before (t, led, makes) = elim (three_ways n m) [
  | inl earlier ↦ goes_on text s n m (Next t) earlier led
  | inr (inl later) ↦ absurd (omega (arith, before, later))
  | inr (inr same) ↦ (t, subst (λ (k : ℕ). Reaches text s k (Next t)) (sym same) led)
]

no_later_end : (text : List ℕ) (s : MachineState) (n m number other : ℕ) (maps others : FlatMaps) → n < m → Reaches text s n (Exits number maps) → Reaches text s m (Exits other others) → ⊥
no_later_end text s n m number other maps others before h k =
    let on = goes_on text s n m (Exits other others) before k in
    let same : Exits number maps ≡ Next on.0 = one_outcome text s n (Exits number maps) (Next on.0) h on.1 in
    absurd (cc same)

-- a run comes to one end, after one number of steps
one_end : (text : List ℕ) (s : MachineState) (reply further : RunReply) (maps others : FlatMaps) → Reaches text s reply.steps (Exits reply.ret maps) → Reaches text s further.steps (Exits further.ret others)
    → (reply ≡ further) × (maps ≡ others)
one_end text s reply further maps others h k = elim (three_ways reply.steps further.steps) [
  | inl before ↦ absurd (no_later_end text s reply.steps further.steps reply.ret further.ret maps others before h k)
  | inr (inl after) ↦ absurd (no_later_end text s further.steps reply.steps further.ret reply.ret others maps after k h)
  | inr (inr same) ↦
      let also = subst (λ (n : ℕ). Reaches text s n (Exits further.ret others)) (sym same) k in
      let ends : Exits reply.ret maps ≡ Exits further.ret others = one_outcome text s reply.steps (Exits reply.ret maps) (Exits further.ret others) h also in
      let numbers : reply.ret ≡ further.ret = cc ends in
      let left : maps ≡ others = cc ends in
      let answered : ℕ → ℕ → RunReply = λ ret steps. record { ret = ret; steps = steps } in
      (ap (λ ret. answered ret reply.steps) numbers ∙ ap (answered further.ret) same, left)
]

pub runs_are_determined : RunsAreDetermined
runs_are_determined v context old other new newer reply further same h k =
    let text = v.subject.text in
    let from_same = subst (λ (maps : FlatMaps). Runs text context maps further.steps (Exits further.ret newer.maps)) (sym same) k.runs in
    one_end text (start_state context old.maps) reply further new.maps newer.maps h.runs from_same
