-- A refusal stands against every reading of a text, whatever kinds of things that knows.
use Rattle.std.proofs.Common.{◌≡◌, ℕ, zero, suc, ◌<◌, ◌==◌, ◌∙◌, if◌then◌else◌, Bool, List, [], ◌∷◌, IfSome, Option, Some, None, Result, Ok, Err, sym, ap, subst, inl, inr, arith}
use Rattle.std.proofs.lemmas.List.Elements.{All-nil, All-head, All-tail}
use Rattle.host_types.specs.declared.fault.Refused.{Refused}
use Rattle.verifier_kinds.specs.declared.description.Description.{Description}
use Rattle.verifier_kinds.specs.Descriptions.{start_description}
use Rattle.verifier.specs.Subject.{Subject}
use Rattle.verifier.specs.Table.{Table, described, flows_by, flows_from, targets_of, known_with, arrived, incoming, IsRefusal}
use Rattle.verifier.specs.Laws.{Contains, AreContained, IsReading}
use Rattle.verifier.proofs.Tables.{if_same, below_next, IsTightBefore}

-- what a reading contains at a slot, if anything is known there
abbrev IsRead : (ℕ → Description → Bool) → ℕ → Option Description → Type 0
IsRead contains slot known = IfSome known (Contains contains slot)

flows_read : (p : Subject) (contains : ℕ → Description → Bool) (slot : ℕ) (known : Option Description) → IsReading p contains → IsRead contains slot known → AreContained contains (flows_by p slot known)
flows_read p contains slot None r h = All-nil (λ t. Contains contains t.0 t.1)
flows_read p contains slot (Some d) r h =
    let (targets, is, all) = r.flows slot d h in
    let same : flows_by p slot (Some d) ≡ targets = ap targets_of is in
    subst (AreContained contains) (sym same) all

joined_read : (p : Subject) (contains : ℕ → Description → Bool) (slot : ℕ) (known : Option Description) (d : Description) → IsReading p contains → IsRead contains slot known → Contains contains slot d → Contains contains slot (known_with known d)
joined_read p contains slot None d r k h = h
joined_read p contains slot (Some e) d r k h = r.joins slot e d k h

arrived_read : (p : Subject) (contains : ℕ → Description → Bool) (slot : ℕ) (known : Option Description) (targets : List (ℕ × Description)) → IsReading p contains → IsRead contains slot known → AreContained contains targets → IsRead contains slot (arrived slot known targets)
arrived_read p contains slot known [] r k all = k
arrived_read p contains slot known (t ∷ targets) r k all =
    let P : ℕ × Description → Type 0 = λ t. Contains contains t.0 t.1 in
    let first : Contains contains t.0 t.1 = All-head P t targets all in
    let here : t.0 ≡ slot → Contains contains slot t.1 = λ e. subst (λ s. Contains contains s t.1) e first in
    let next : IsRead contains slot (if t.0 == slot then Some (known_with known t.1) else known) = if_same (IsRead contains slot) t.0 slot (Some (known_with known t.1)) known (λ e. joined_read p contains slot known t.1 r k (here e)) (λ e. k) in
    arrived_read p contains slot (if t.0 == slot then Some (known_with known t.1) else known) targets r next (All-tail P t targets all)

incoming_read : (p : Subject) (contains : ℕ → Description → Bool) (tight : Table) (slot n : ℕ) → IsReading p contains → ((s : ℕ) → s < n → IsRead contains s (described tight s)) → IsRead contains slot (incoming p tight slot n)
unfolding incoming
incoming_read p contains tight slot zero r before =
    if_same (IsRead contains slot) slot 0 (Some start_description) None (λ e. subst (λ s. Contains contains s start_description) (sym e) r.start) (λ ne. tt)
incoming_read p contains tight slot (suc n) r before =
    arrived_read p contains slot (incoming p tight slot n) (flows_from p tight n) r
    (incoming_read p contains tight slot n r (λ s h. before s (omega arith)))
    (flows_read p contains n (described tight n) r (before n (omega arith)))

-- what a tight table says of a slot each reading contains
tight_read : (p : Subject) (contains : ℕ → Description → Bool) (tight : Table) (n s : ℕ) → IsReading p contains → IsTightBefore p tight n → s < n → IsRead contains s (described tight s)
tight_read p contains tight zero s r t h = absurd (omega arith)
tight_read p contains tight (suc n) s r t h =
    let before : (q : ℕ) → q < n → IsRead contains q (described tight q) = λ q k. tight_read p contains tight n q r (λ j i. t j (omega arith)) k in
    elim (below_next s n h) [
      | inl below ↦ before s below
      | inr same ↦
          let P : ℕ → Type 0 = λ s. IsRead contains s (described tight s) in
          subst P (sym same) (subst (IsRead contains n) (sym (t n (omega arith))) (incoming_read p contains tight n n r before))
    ]

-- beside a refusal there is no reading
pub refusal_leaves_no_reading : (p : Subject) (refused : Refused) (contains : ℕ → Description → Bool) → IsRefusal p refused → IsReading p contains → ⊥
refusal_leaves_no_reading p refused contains i r =
    let read : IsRead contains refused.slot (described i.table refused.slot) = tight_read p contains i.table (suc refused.slot) refused.slot r (λ s h. i.tight s (omega arith)) (omega arith) in
    let here : Contains contains refused.slot i.breaks.description = subst (IsRead contains refused.slot) i.breaks.found read in
    let (targets, is, all) = r.flows refused.slot i.breaks.description here in
    let clash : ◌≡◌ {A = Result (List (ℕ × Description)) ℕ} (Ok targets) (Err refused.number) = sym is ∙ i.breaks.breaks in
    absurd cc
