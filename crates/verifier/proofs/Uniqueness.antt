-- One answer at most: a subject has one refusal, or one tight table.
use Rattle.std.proofs.Common.{◌≡◌, ℕ, suc, ◌<◌, None, sym, ap, subst, ◌∙◌, ◌⊎◌, inl, inr, arith}
use Rattle.std.proofs.lemmas.List.{ext_get_or}
use Rattle.host_types.specs.declared.fault.Refused.{Refused}
use Rattle.bpf_decode.specs.Text.{slots_of}
use Rattle.verifier.specs.Subject.{Subject}
use Rattle.verifier.specs.Flow.{flow}
use Rattle.verifier.specs.Table.{Table, described, Breaks, IsTightTable, IsRefusal}
use Rattle.verifier.proofs.Tables.{tables_agree, IsTightBefore}

-- a slot that two tables describe alike breaks the same rules in both
breaks_alike : (p : Subject) (table other : Table) (slot rule : ℕ) → described table slot ≡ described other slot → Breaks p table slot rule → Breaks p other slot rule
breaks_alike p table other slot rule same b = record { description = b.description; found = sym same ∙ b.found; breaks = b.breaks }

-- a slot breaks one rule
one_rule : (p : Subject) (table other : Table) (slot rule other_rule : ℕ) → described table slot ≡ described other slot → Breaks p table slot rule → Breaks p other slot other_rule → rule ≡ other_rule
one_rule p table other slot rule other_rule same b c =
    let e : b.description ≡ c.description = cc (b.found, c.found, same) in
    let f : flow p slot b.description ≡ flow p slot c.description = ap (flow p slot) e in
    cc (f, b.breaks, c.breaks)

before_refusal : (p : Subject) (r : Refused) (i : IsRefusal p r) → IsTightBefore p i.table (suc r.slot)
before_refusal p r i s h = i.tight s (omega arith)

three_ways : (a b : ℕ) → (a < b) ⊎ (b < a) ⊎ (a ≡ b)
three_ways a b = grind arith

-- a refusal at an earlier slot excludes one at a later slot
none_earlier : (p : Subject) (r s : Refused) → IsRefusal p r → IsRefusal p s → r.slot < s.slot → ⊥
none_earlier p r s i j h =
    let agree = tables_agree p i.table j.table (suc r.slot) (before_refusal p r i) (λ n k. j.tight n (omega arith)) r.slot (omega arith) in
    j.first r.slot r.number h (breaks_alike p i.table j.table r.slot r.number agree i.breaks)

same_refusal : (p : Subject) (r s : Refused) → IsRefusal p r → IsRefusal p s → r.slot ≡ s.slot → r ≡ s
same_refusal p r s i j h =
    let agree = tables_agree p i.table j.table (suc r.slot) (before_refusal p r i) (λ n k. j.tight n (omega arith)) r.slot (omega arith) in
    let B : ℕ → Type 0 = λ slot. Breaks p j.table slot s.number in
    let numbers : r.number ≡ s.number = one_rule p i.table j.table r.slot r.number s.number agree i.breaks (subst B (sym h) j.breaks) in
    let refused : ℕ → ℕ → Refused = λ number slot. record { number = number; slot = slot } in
    ap (λ number. refused number r.slot) numbers ∙ ap (refused s.number) h

-- a subject has one refusal at most
pub one_refusal : (p : Subject) (r s : Refused) → IsRefusal p r → IsRefusal p s → r ≡ s
one_refusal p r s i j = elim (three_ways r.slot s.slot) [
  | inl before ↦ absurd (none_earlier p r s i j before)
  | inr (inl after) ↦ absurd (none_earlier p s r j i after)
  | inr (inr same) ↦ same_refusal p r s i j same
]

-- beside a refusal there is no tight table of the whole text
pub refusal_excludes : (p : Subject) (table : Table) (r : Refused) → IsTightTable p table → IsRefusal p r → ⊥
refusal_excludes p table r t i =
    let agree = tables_agree p i.table table (suc r.slot) (before_refusal p r i) (λ n k. t.tight n (omega (arith, i.within))) r.slot (omega arith) in
    t.clean r.slot r.number i.within (breaks_alike p i.table table r.slot r.number agree i.breaks)

-- a subject has one tight table at most
pub one_table : (p : Subject) (table other : Table) → IsTightTable p table → IsTightTable p other → table ≡ other
one_table p table other t u = ext_get_or None table other (t.whole ∙ sym u.whole) (λ k h. tables_agree p table other (slots_of p.text) t.tight u.tight k (omega (arith, t.whole)))
