-- The tight table of a text in which no slot breaks a rule is lawful.
use Rattle.std.proofs.Common.{◌≡◌, ℕ, zero, suc, ◌<◌, ◌≤◌, ◌==◌, if◌then◌else◌, List, [], ◌∷◌, length, slice_index_or, All, IfSome, Option, Some, None, Result, Ok, Err, refl, sym, ap, subst, ◌∙◌, ◌⊎◌, inl, inr, arith}
use Rattle.std.proofs.lemmas.List.Elements.{All-nil, All-head, All-tail, All-weaker}
use Rattle.std.proofs.lemmas.List.{get_or_past}
use Rattle.bpf_decode.specs.Text.{slots_of, is_instruction, IsInstruction, IsWellFormed}
use Rattle.verifier_kinds.specs.declared.description.Description.{Description}
use Rattle.verifier_kinds.specs.Descriptions.{start_description, IsDescription, IsLawfulAt, IsOfCallsBelow}
use Rattle.verifier_kinds.proofs.Calls.{description_is_lawful}
use Rattle.verifier_kinds.proofs.Order.{description_below_self}
use Rattle.verifier.specs.Subject.{Subject}
use Rattle.verifier.specs.Flow.{flow}
use Rattle.verifier.specs.Table.{Table, described, flows_by, flows_from, targets_of, known_with, arrived, incoming, Breaks, IsContained, IsKeptAt, IsTightTable, IsLawful}
use Rattle.verifier.specs.Pass.{FlowDescribed}
use Rattle.verifier.proofs.Tables.{if_same, below_next, IsUnder, IsTightBefore, targets_arrived, IsDescription-incoming, under_incoming}
use Rattle.verifier.proofs.Flows.{IsAhead, flow_ahead}
use Rattle.verifier.proofs.Naming.{described_names}

-- a text has a slot, and its first slot is an instruction's
pub first_instruction : (text : List ℕ) → IsWellFormed text → IsInstruction text 0
unfolding is_instruction
first_instruction text w = record { within = omega (arith, w.sized.some); begins = refl }

-- only an instruction is reached by targets that are instructions
arrived_instruction : (text : List ℕ) (slot : ℕ) (known : Option Description) (targets : List (ℕ × Description)) → IfSome known (λ d. IsInstruction text slot) → All (λ t. IsInstruction text t.0) targets → IfSome (arrived slot known targets) (λ d. IsInstruction text slot)
arrived_instruction text slot known [] k q = k
arrived_instruction text slot known (t ∷ targets) k q =
    let head : IsInstruction text t.0 = All-head (λ t. IsInstruction text t.0) t targets q in
    let next : IfSome (if t.0 == slot then Some (known_with known t.1) else known) (λ d. IsInstruction text slot) = if_same (λ o. IfSome o (λ d. IsInstruction text slot)) t.0 slot (Some (known_with known t.1)) known (λ e. subst (λ s. IsInstruction text s) e head) (λ e. k) in
    arrived_instruction text slot (if t.0 == slot then Some (known_with known t.1) else known) targets next (All-tail (λ t. IsInstruction text t.0) t targets q)

-- what flows from a slot that is an instruction's, if it is described, flows ahead
pub flows_ahead : (p : Subject) (table : Table) (slot : ℕ) → IfSome (described table slot) (λ d. IsInstruction p.text slot) → All (IsAhead p slot) (flows_from p table slot)
flows_ahead p table slot i = of (described table slot) i
  where
    by_result : (d : Description) (result : Result (List (ℕ × Description)) ℕ) → IsInstruction p.text slot → flow p slot d ≡ result → All (IsAhead p slot) (targets_of result)
    by_result d (Ok targets) i e = flow_ahead p slot d targets i e
    by_result d (Err rule) i e = All-nil (IsAhead p slot)

    of : (known : Option Description) → IfSome known (λ d. IsInstruction p.text slot) → All (IsAhead p slot) (flows_by p slot known)
    of None i = All-nil (IsAhead p slot)
    of (Some d) i = by_result d (flow p slot d) i refl

-- what flows to a slot from slots that are instructions
incoming_instruction : (p : Subject) (table : Table) (slot n : ℕ) → IsInstruction p.text 0 → ((s : ℕ) → s < n → IfSome (described table s) (λ d. IsInstruction p.text s)) → IfSome (incoming p table slot n) (λ d. IsInstruction p.text slot)
unfolding incoming
incoming_instruction p table slot zero first i = if_same (λ o. IfSome o (λ d. IsInstruction p.text slot)) slot 0 (Some start_description) None (λ e. subst (λ s. IsInstruction p.text s) (sym e) first) (λ ne. tt)
incoming_instruction p table slot (suc n) first i =
    arrived_instruction p.text slot (incoming p table slot n) (flows_from p table n)
    (incoming_instruction p table slot n first (λ s h. i s (omega arith)))
    (All-weaker (IsAhead p n) (λ t. IsInstruction p.text t.0) (λ t a. a.instruction) (flows_from p table n) (flows_ahead p table n (i n (omega arith))))

-- a table that is tight before a slot describes instructions alone there
pub described_instruction : (p : Subject) (table : Table) (n : ℕ) → IsInstruction p.text 0 → IsTightBefore p table n → (s : ℕ) → s < n → IfSome (described table s) (λ d. IsInstruction p.text s)
described_instruction p table zero first t s h = absurd (omega arith)
described_instruction p table (suc n) first t s h =
    let before : (r : ℕ) → r < n → IfSome (described table r) (λ d. IsInstruction p.text r) = described_instruction p table n first (λ r k. t r (omega arith)) in
    elim (below_next s n h) [
      | inl below ↦ before s below
      | inr same ↦ let P : ℕ → Type 0 = λ s. IfSome (described table s) (λ d. IsInstruction p.text s) in
          subst P (sym same) (subst (λ o. IfSome o (λ d. IsInstruction p.text n)) (sym (t n (omega arith))) (incoming_instruction p table n n first before))
    ]

-- a number is below another, or not
below_or_past : (a b : ℕ) → (a < b) ⊎ (b ≤ a)
below_or_past a b = grind arith

-- nothing is described past the end of a table
past_end : (table : Table) (slot : ℕ) (d : Description) → length table ≤ slot → described table slot ≡ Some d → ⊥
past_end table slot d h e = let none : described table slot ≡ None = get_or_past table slot None h in absurd cc

-- only slots of a whole table are described
within_table : (p : Subject) (table : Table) (slot : ℕ) (d : Description) → length table ≡ slots_of p.text → described table slot ≡ Some d → slot < slots_of p.text
within_table p table slot d whole e = elim (below_or_past slot (slots_of p.text)) [
  | inl below ↦ below
  | inr past ↦ absurd (past_end table slot d (omega arith) e)
]

-- a tight table's descriptions are lawful ones
described_kinds : (p : Subject) (table : Table) → IsTightTable p table → FlowDescribed p table (slots_of p.text) → (slot : ℕ) → IfSome (described table slot) (IsLawfulAt slot)
described_kinds p table t f slot = elim (below_or_past slot (slots_of p.text)) [
  | inl below ↦
      let kinds : IfSome (described table slot) IsDescription = subst (λ o. IfSome o IsDescription) (sym (t.tight slot below)) (IsDescription-incoming p table slot slot (λ s h. f s (omega arith))) in
      both_known (described table slot) kinds (described_names p table (slots_of p.text) f t.tight slot below)
  | inr past ↦ let none : described table slot ≡ None = get_or_past table slot None (omega (arith, t.whole)) in subst (λ o. IfSome o (IsLawfulAt slot)) (sym none) tt
]
  where
    both_known : (known : Option Description) → IfSome known IsDescription → IfSome known (IsOfCallsBelow slot) → IfSome known (IsLawfulAt slot)
    both_known None kinds calls = tt
    both_known (Some d) kinds calls = description_is_lawful slot d kinds calls

-- what flows from a slot of a tight table is contained in it
flows_contained : (p : Subject) (table : Table) → IsWellFormed p.text → IsTightTable p table → FlowDescribed p table (slots_of p.text) → (slot : ℕ) → slot < slots_of p.text → All (IsContained table) (flows_from p table slot)
unfolding incoming
flows_contained p table w t f slot h =
    let before : FlowDescribed p table slot = λ s k. f s (omega arith) in
    let ahead = flows_ahead p table slot (described_instruction p table (slots_of p.text) (first_instruction p.text w) t.tight slot h) in
    let under = targets_arrived (λ s. incoming p table s slot) (flows_from p table slot) (λ s. IsDescription-incoming p table s slot before) (f slot h) in
    λ k none inside.
    let target = slice_index_or (flows_from p table slot) k none in
    let a : IsAhead p slot target = ahead k none inside in
    let grown : IsUnder target.1 (incoming p table target.0 target.0) = under_incoming target.1 p table target.0 (suc slot) target.0 (λ s j. f s (omega (arith, a.instruction.within))) a.above (under k none inside) in
    subst (λ o. IsUnder target.1 o) (sym (t.tight target.0 a.instruction.within)) grown

-- a slot that breaks no rule flows on
flows_on : (p : Subject) (table : Table) (slot : ℕ) (d : Description) → described table slot ≡ Some d → ((rule : ℕ) → Breaks p table slot rule → ⊥) → All (IsContained table) (flows_from p table slot) → IsKeptAt p table slot d
flows_on p table slot d found clean contained = by_result (flow p slot d) refl
  where
    by_result : (result : Result (List (ℕ × Description)) ℕ) → flow p slot d ≡ result → IsKeptAt p table slot d
    by_result (Err rule) e = absurd (clean rule (record { description = d; found = found; breaks = e }))
    by_result (Ok targets) e =
        let same : flows_from p table slot ≡ targets = ap (flows_by p slot) found ∙ ap targets_of e in
        (targets, e, subst (λ xs. All (IsContained table) xs) same contained)

-- the tight table of a text in which no slot breaks a rule is lawful
pub lawful_from_tight : (p : Subject) (table : Table) → IsWellFormed p.text → IsTightTable p table → FlowDescribed p table (slots_of p.text) → IsLawful p table
unfolding incoming
lawful_from_tight p table w t f =
    let first = first_instruction p.text w in
    record {
      start = (start_description, t.tight 0 first.within, description_below_self start_description);
      instructions = λ slot d found.
          let h = within_table p table slot d t.whole found in
          let i = described_instruction p table (slots_of p.text) first t.tight slot h in
          subst (λ o. IfSome o (λ d. IsInstruction p.text slot)) found i;
      kinds = λ slot. described_kinds p table t f slot;
      kept = λ slot d found.
          let h = within_table p table slot d t.whole found in
          flows_on p table slot d found (λ rule. t.clean slot rule h) (flows_contained p table w t f slot h);
    }
