-- The verifier is complete: what the tight table says lies under every lawful one, also one that says offsets
-- below -65536, so a slot that breaks a rule there leaves no lawful table.
use Rattle.std.proofs.Common.{◌≡◌, ℕ, zero, suc, ◌%◌, ◌<◌, ◌==◌, if◌then◌else◌, List, [], ◌∷◌, All, IfSome, Option, Some, None, Result, Ok, Err, refl, sym, ap, subst, ◌∙◌, inl, inr, arith}
use Rattle.std.specs.Prelude.{option_map}
use Rattle.std.proofs.lemmas.List.Elements.{All-nil, All-head, All-tail}
use Rattle.verifier_kinds.specs.declared.kind.Kind.{Kind}
use Rattle.verifier_kinds.specs.declared.description.StackSlot.TheVariants.{Bytes}
use Rattle.verifier_kinds.specs.declared.description.Description.{Description}
use Rattle.verifier_kinds.specs.Descriptions.{start_description, register_of, IsDescription}
use Rattle.verifier_kinds.specs.Wide.{raised_kind, IsWideAt}
use Rattle.verifier_kinds.proofs.Descriptions.{get_or-mapped, get_or-one}
use Rattle.verifier_kinds.proofs.Under.{IsKnownUnder, IsSlotUnder, IsDescriptionUnder, kind_under_raised, description_under_trans, join_under}
use Rattle.verifier_kinds.proofs.NarrowerKinds.{IsResultBelow}
use Rattle.verifier_kinds.proofs.NarrowerDescriptions.{IsNarrower, described_is_normal, wide_is_wide}
use Rattle.verifier.specs.Subject.{Subject}
use Rattle.verifier.specs.Flow.{flow}
use Rattle.verifier.specs.Table.{Table, described, flows_by, flows_from, targets_of, known_with, arrived, incoming, Breaks, IsContained}
use Rattle.verifier.specs.Wide.{IsKeptWide, IsWideLawful, HasNoLawful}
use Rattle.verifier.specs.Pass.{AreDescribed, FlowDescribed}
use Rattle.verifier.proofs.Tables.{if_same, below_next, IsTightBefore, IsDescription-known_with, IsDescription-incoming}
use Rattle.verifier.proofs.Narrower.{IsContainedUnder, AreTargetsUnder, flow_below}

-- ---- what flows from what is contained

-- a lawful table whose offsets are `extra` more, which is a multiple of 8
abbrev IsAbove : ℕ → Subject → Table → Type 0
IsAbove extra p table = (extra % 8 ≡ 0) × IsWideLawful p extra table

-- a normal description that is under one of a lawful table
contained_narrows : (extra : ℕ) (p : Subject) (table : Table) (slot : ℕ) (d e : Description) → IsAbove extra p table → IsDescription d → described table slot ≡ Some e → IsDescriptionUnder extra d e → IsNarrower extra d e
contained_narrows extra p table slot d e l q found below = record {
  whole = l.0;
  below = below;
  smaller = described_is_normal d q;
  larger = wide_is_wide slot e (subst (λ o. IfSome o (IsWideAt slot)) found (l.1.kinds slot));
}

-- from a description that a lawful table contains flows what it contains
flow_contained : (extra : ℕ) (p : Subject) (table : Table) (slot : ℕ) (d : Description) → IsAbove extra p table → IsDescription d → IsContainedUnder extra table (slot, d) → (targets : List (ℕ × Description)) × (flow p slot d ≡ Ok targets) × All (IsContainedUnder extra table) targets
flow_contained extra p table slot d l q (e, found, below) =
    let kept : IsKeptWide extra p table slot e = l.1.kept slot e found in
    by_result (flow p slot d) refl kept.0 kept.2 (subst (IsResultBelow (AreTargetsUnder extra) (flow p slot d)) kept.1 (flow_below extra p slot d e (contained_narrows extra p table slot d e l q found below)))
  where
    by_result : (r : Result (List (ℕ × Description)) ℕ) → flow p slot d ≡ r → (larger : List (ℕ × Description)) → All (IsContained table) larger → IsResultBelow (AreTargetsUnder extra) (flow p slot d) (Ok larger) → (targets : List (ℕ × Description)) × (flow p slot d ≡ Ok targets) × All (IsContainedUnder extra table) targets
    by_result (Ok targets) is larger all h =
        let order : AreTargetsUnder extra targets larger = subst (λ r. IsResultBelow (AreTargetsUnder extra) r (Ok larger)) is h in
        (targets, is, order table all)
    by_result (Err rule) is larger all h =
        let none : ⊥ = subst (λ r. IsResultBelow (AreTargetsUnder extra) r (Ok larger)) is h in
        absurd none

flows_contained : (extra : ℕ) (p : Subject) (table : Table) (slot : ℕ) (known : Option Description) → IsAbove extra p table → IfSome known IsDescription → IfSome known (λ d. IsContainedUnder extra table (slot, d)) → All (IsContainedUnder extra table) (flows_by p slot known)
flows_contained extra p table slot None l q h = All-nil (IsContainedUnder extra table)
flows_contained extra p table slot (Some d) l q h =
    let (targets, is, all) = flow_contained extra p table slot d l q h in
    let same : flows_by p slot (Some d) ≡ targets = ap targets_of is in
    subst (All (IsContainedUnder extra table)) (sym same) all

-- ---- what arrives at a slot

-- one table contains the join of what it contains
joined_contained : (extra : ℕ) (table : Table) (slot : ℕ) (known : Option Description) (d : Description) → IfSome known IsDescription → IsDescription d → IfSome known (λ e. IsContainedUnder extra table (slot, e)) → IsContainedUnder extra table (slot, d) → IsContainedUnder extra table (slot, known_with known d)
joined_contained extra table slot None d k q known h = h
joined_contained extra table slot (Some e) d k q (f, found, below) (g, also, above) =
    let same : g ≡ f = cc in
    (f, found, join_under extra e d f k q below (subst (IsDescriptionUnder extra d) same above))

arrived_contained : (extra : ℕ) (table : Table) (slot : ℕ) (known : Option Description) (targets : List (ℕ × Description)) → IfSome known IsDescription → AreDescribed targets → IfSome known (λ d. IsContainedUnder extra table (slot, d)) → All (IsContainedUnder extra table) targets → IfSome (arrived slot known targets) (λ d. IsContainedUnder extra table (slot, d))
arrived_contained extra table slot known [] k q h all = h
arrived_contained extra table slot known (t ∷ targets) k q h all =
    let head : IsDescription t.1 = All-head (λ t. IsDescription t.1) t targets q in
    let first : IsContainedUnder extra table t = All-head (IsContainedUnder extra table) t targets all in
    let here : t.0 ≡ slot → IsContainedUnder extra table (slot, t.1) = λ e. subst (λ s. IsContainedUnder extra table (s, t.1)) e first in
    let next : IfSome (if t.0 == slot then Some (known_with known t.1) else known) IsDescription = if_same (λ o. IfSome o IsDescription) t.0 slot (Some (known_with known t.1)) known (λ e. IsDescription-known_with known t.1 k head) (λ e. k) in
    let kept : IfSome (if t.0 == slot then Some (known_with known t.1) else known) (λ d. IsContainedUnder extra table (slot, d)) = if_same (λ o. IfSome o (λ d. IsContainedUnder extra table (slot, d))) t.0 slot (Some (known_with known t.1)) known (λ e. joined_contained extra table slot known t.1 k head h (here e)) (λ e. h) in
    arrived_contained extra table slot (if t.0 == slot then Some (known_with known t.1) else known) targets next (All-tail (λ t. IsDescription t.1) t targets q) kept (All-tail (IsContainedUnder extra table) t targets all)

known_under_raised : (extra : ℕ) (known : Option Kind) → IsKnownUnder extra known (option_map (raised_kind extra) known)
known_under_raised extra None = tt
known_under_raised extra (Some kind) = (kind, refl, kind_under_raised extra kind)

-- the start says nothing of offsets
start_under : (extra : ℕ) → IsDescriptionUnder extra start_description start_description
start_under extra = record {
  registers = λ i.
      subst (IsKnownUnder extra (register_of start_description i)) (sym (get_or-mapped (option_map (raised_kind extra)) None refl start_description.registers i)) (known_under_raised extra (register_of start_description i));
  slots = λ k. subst (λ s. IsSlotUnder extra s s) (sym (get_or-one 64 k (Bytes 0))) refl;
}

start_contained : (extra : ℕ) (table : Table) → IsContained table (0, start_description) → IsContainedUnder extra table (0, start_description)
start_contained extra table (d, found, above) = (d, found, description_under_trans extra start_description start_description d (start_under extra) above)

incoming_contained : (extra : ℕ) (p : Subject) (table tight : Table) (slot n : ℕ) → IsAbove extra p table → FlowDescribed p tight n → ((s : ℕ) → s < n → IfSome (described tight s) IsDescription) → ((s : ℕ) → s < n → IfSome (described tight s) (λ d. IsContainedUnder extra table (s, d))) → IfSome (incoming p tight slot n) (λ d. IsContainedUnder extra table (slot, d))
unfolding incoming
incoming_contained extra p table tight slot zero l f kinds before =
    if_same (λ o. IfSome o (λ d. IsContainedUnder extra table (slot, d))) slot 0 (Some start_description) None (λ e. subst (λ s. IsContainedUnder extra table (s, start_description)) (sym e) (start_contained extra table l.1.start)) (λ ne. tt)
incoming_contained extra p table tight slot (suc n) l f kinds before =
    let g : FlowDescribed p tight n = λ s h. f s (omega arith) in
    arrived_contained extra table slot (incoming p tight slot n) (flows_from p tight n)
    (IsDescription-incoming p tight slot n g) (f n (omega arith))
    (incoming_contained extra p table tight slot n l g (λ s h. kinds s (omega arith)) (λ s h. before s (omega arith)))
    (flows_contained extra p table n (described tight n) l (kinds n (omega arith)) (before n (omega arith)))

-- ---- tables

tight_kinds : (p : Subject) (tight : Table) (n s : ℕ) → FlowDescribed p tight n → IsTightBefore p tight n → s < n → IfSome (described tight s) IsDescription
tight_kinds p tight n s f t h = subst (λ o. IfSome o IsDescription) (sym (t s h)) (IsDescription-incoming p tight s s (λ r k. f r (omega arith)))

-- what a tight table says of a slot each lawful table contains
pub tight_contained : (extra : ℕ) (p : Subject) (table tight : Table) (n s : ℕ) → IsAbove extra p table → FlowDescribed p tight n → IsTightBefore p tight n → s < n → IfSome (described tight s) (λ d. IsContainedUnder extra table (s, d))
tight_contained extra p table tight zero s l f t h = absurd (omega arith)
tight_contained extra p table tight (suc n) s l f t h =
    let g : FlowDescribed p tight n = λ r k. f r (omega arith) in
    let before : (r : ℕ) → r < n → IfSome (described tight r) (λ d. IsContainedUnder extra table (r, d)) = λ r k. tight_contained extra p table tight n r l g (λ q j. t q (omega arith)) k in
    let kinds : (r : ℕ) → r < n → IfSome (described tight r) IsDescription = λ r k. tight_kinds p tight n r g (λ q j. t q (omega arith)) k in
    elim (below_next s n h) [
      | inl below ↦ before s below
      | inr same ↦
          let P : ℕ → Type 0 = λ s. IfSome (described tight s) (λ d. IsContainedUnder extra table (s, d)) in
          subst P (sym same) (subst (λ o. IfSome o (λ d. IsContainedUnder extra table (n, d))) (sym (t n (omega arith))) (incoming_contained extra p table tight n n l g kinds before))
    ]

-- a slot that breaks a rule in a tight table leaves no lawful one
pub broken_leaves_none : (p : Subject) (tight : Table) (slot rule : ℕ) → FlowDescribed p tight slot → IsTightBefore p tight (suc slot) → Breaks p tight slot rule → HasNoLawful p
broken_leaves_none p tight slot rule f t b extra table whole lawful =
    let l : IsAbove extra p table = (whole, lawful) in
    let g : IsTightBefore p tight slot = λ s h. t s (omega arith) in
    let before : (r : ℕ) → r < slot → IfSome (described tight r) (λ d. IsContainedUnder extra table (r, d)) = λ r k. tight_contained extra p table tight slot r l f g k in
    let kinds : (r : ℕ) → r < slot → IfSome (described tight r) IsDescription = λ r k. tight_kinds p tight slot r f g k in
    let known = incoming_contained extra p table tight slot slot l f kinds before in
    let here : Some b.description ≡ incoming p tight slot slot = sym b.found ∙ t slot (omega arith) in
    let contained : IsContainedUnder extra table (slot, b.description) = subst (λ o. IfSome o (λ d. IsContainedUnder extra table (slot, d))) (sym here) known in
    let kind : IsDescription b.description = subst (λ o. IfSome o IsDescription) (sym here) (IsDescription-incoming p tight slot slot f) in
    let (targets, is, all) = flow_contained extra p table slot b.description l kind contained in
    let clash : ◌≡◌ {A = Result (List (ℕ × Description)) ℕ} (Ok targets) (Err rule) = sym is ∙ b.breaks in
    absurd cc
