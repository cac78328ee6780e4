-- The tight table of a text: each slot is described by what flows to it.
use Rattle.std.proofs.Common.{◌≡◌, ℕ, zero, suc, ◌<◌, ◌≤◌, [], ◌∷◌, ◌++◌, length, map, Option, None, refl, sym, ap, subst, ◌∙◌, ◌⊎◌, inl, inr, arith}
use Rattle.std.proofs.lemmas.List.{get_or_append_left, length-append, map-append}
use Rattle.std.proofs.Math.Seq.{get_or-append_seam}
use Rattle.bpf_decode.specs.Text.{slots_of}
use Rattle.verifier_kinds.specs.declared.description.Description.{Description}
use Rattle.verifier.specs.Subject.{Subject}
use Rattle.verifier.specs.Table.{Table, described, incoming, tight_up_to, tight_table}
use Rattle.verifier.specs.Pass.{kinds_in}
use Rattle.verifier.proofs.Tables.{incoming-agree, IsTightBefore}

tight_next : (p : Subject) (n : ℕ) → tight_up_to p (suc n) ≡ tight_up_to p n ++ (incoming p (tight_up_to p n) n n ∷ [])
unfolding tight_up_to
tight_next p n = refl

pub length-tight : (p : Subject) (n : ℕ) → length (tight_up_to p n) ≡ n
unfolding tight_up_to
length-tight p zero = refl
length-tight p (suc n) = length-append (tight_up_to p n) (incoming p (tight_up_to p n) n n ∷ []) ∙ omega (arith, length-tight p n)

at_most_next : (n m : ℕ) → n ≤ suc m → (n ≤ m) ⊎ (n ≡ suc m)
at_most_next n m h = grind arith

-- the first n slots stay
tight_stays : (p : Subject) (n m s : ℕ) → s < n → n ≤ m → described (tight_up_to p m) s ≡ described (tight_up_to p n) s
tight_stays p n zero s h k = absurd (omega arith)
tight_stays p n (suc m) s h k = elim (at_most_next n m k) [
  | inl below ↦
      ap (λ (t : Table). described t s) (tight_next p m)
      ∙ get_or_append_left (tight_up_to p m) (incoming p (tight_up_to p m) m m ∷ []) None s (omega (arith, length-tight p m))
      ∙ tight_stays p n m s h below
  | inr same ↦ let P : ℕ → Type 0 = λ k. described (tight_up_to p (suc m)) s ≡ described (tight_up_to p k) s in subst P (sym same) refl
]

tight_last : (p : Subject) (n : ℕ) → described (tight_up_to p (suc n)) n ≡ incoming p (tight_up_to p n) n n
tight_last p n =
    let known : Option Description = incoming p (tight_up_to p n) n n in
    let P : ℕ → Type 0 = λ s. described (tight_up_to p n ++ known ∷ []) s ≡ known in
    ap (λ (t : Table). described t n) (tight_next p n) ∙ subst P (length-tight p n) (get_or-append_seam (tight_up_to p n) known [] None)

-- each slot is described by what flows to it
pub tight_is_tight : (p : Subject) (m : ℕ) → IsTightBefore p (tight_up_to p m) m
tight_is_tight p m s h =
    tight_stays p (suc s) m s (omega arith) (omega arith)
    ∙ tight_last p s
    ∙ incoming-agree p (tight_up_to p s) (tight_up_to p m) s s (λ r k. sym (tight_stays p s m r k (omega arith)))

-- the kinds of one slot more
pub kept_next : (p : Subject) (n : ℕ) → n < slots_of p.text → map kinds_in (tight_up_to p (suc n)) ≡ map kinds_in (tight_up_to p n) ++ kinds_in (described (tight_table p) n) ∷ []
kept_next p n h =
    let last : described (tight_table p) n ≡ incoming p (tight_up_to p n) n n = tight_stays p (suc n) (slots_of p.text) n (omega arith) (omega arith) ∙ tight_last p n in
    ap (map kinds_in) (tight_next p n)
    ∙ map-append kinds_in (tight_up_to p n) (incoming p (tight_up_to p n) n n ∷ [])
    ∙ ap (λ o. map kinds_in (tight_up_to p n) ++ kinds_in o ∷ []) (sym last)
