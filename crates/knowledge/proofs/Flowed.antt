-- One step of the pass that finds what is known at each slot.
use Rattle.std.proofs.Common.{◌≡◌, ℕ, zero, suc, ◌+◌, ◌<◌, ◌≤◌, List, [], ◌∷◌, ◌++◌, length, get_or, IfSome, IfOk, Option, Some, None, Result, Ok, Err, refl, sym, ap, subst, ◌∙◌, ◌⊎◌, inl, inr, add-one, arith, All, replicate, set, ◌==◌, if◌then◌else◌}
use Rattle.std.proofs.lemmas.List.{ext_get_or}
use Rattle.std.proofs.lemmas.List.Elements.{All-head, All-tail, All-weaker}
use Rattle.bpf_decode.specs.Text.{slots_of, IsInstruction, IsWellFormed}
use Rattle.verifier_kinds.specs.declared.description.Description.{Description}
use Rattle.verifier_kinds.specs.Descriptions.{start_description, IsDescription}
use Rattle.verifier.specs.Subject.{Subject}
use Rattle.verifier.specs.Table.{Table, described, flows_by, flows_from, known_with, arrived, incoming, tight_table}
use Rattle.verifier.specs.declared.flow.Target.{Target}
use Rattle.verifier.specs.declared.flow.Onward.{Onward}
use Rattle.verifier.specs.Flow.{flow}
use Rattle.verifier.specs.Pass.{AreDescribed, target_in, targets_in, flow_in}
use Rattle.verifier.proofs.Tables.{if_same, below_next, arrived-elsewhere, IsDescription-incoming}
use Rattle.verifier.proofs.Flows.{IsAhead, flow_ahead}
use Rattle.verifier.proofs.Passes.{described_read}
use Rattle.verifier.proofs.Lawful.{first_instruction, described_instruction, flows_ahead}
use Rattle.verifier.proofs.Tight.{tight_is_tight, length-tight}
use Rattle.knowledge.specs.Knowledge.{HasFlowed, IsKnowledge}

-- targets that are reached in two parts
arrived-append : (slot : ℕ) (known : Option Description) (some more : List (ℕ × Description)) → arrived slot known (some ++ more) ≡ arrived slot (arrived slot known some) more
arrived-append slot known [] more = refl
arrived-append slot known (t ∷ some) more = arrived-append slot (if t.0 == slot then Some (known_with known t.1) else known) some more

-- what is known at the slot to which the pass has come is what the tight table says
pub known_here : (p : Subject) (table : Table) (slot : ℕ) → slot < slots_of p.text → HasFlowed p table slot → described table slot ≡ described (tight_table p) slot
known_here p table slot h f = f.known slot h ∙ sym (tight_is_tight p (slots_of p.text) slot h)

-- a slot that is reached is an instruction's
pub tight_instruction : (p : Subject) (slot : ℕ) → IsWellFormed p.text → slot < slots_of p.text → IfSome (described (tight_table p) slot) (λ d. IsInstruction p.text slot)
tight_instruction p slot w h = described_instruction p (tight_table p) (slots_of p.text) (first_instruction p.text w) (tight_is_tight p (slots_of p.text)) slot h

pub known_instruction : (p : Subject) (table : Table) (slot : ℕ) → IsWellFormed p.text → slot < slots_of p.text → HasFlowed p table slot → IfSome (described table slot) (λ d. IsInstruction p.text slot)
known_instruction p table slot w h f = subst (λ o. IfSome o (λ d. IsInstruction p.text slot)) (sym (known_here p table slot h f)) (tight_instruction p slot w h)

-- and what is known there is a description of the verifier
pub known_description : (p : Subject) (table : Table) (slot : ℕ) → slot < slots_of p.text → HasFlowed p table slot → IfSome (described table slot) IsDescription
known_description p table slot h f = subst (λ o. IfSome o IsDescription) (sym (f.known slot h)) (IsDescription-incoming p (tight_table p) slot slot f.flows)

-- a slot is passed over once all that flows from it has arrived
pub flowed_next : (p : Subject) (table after : Table) (slot : ℕ) (next jump : List (ℕ × Description)) → slot < slots_of p.text → HasFlowed p table slot → length after ≡ length table → next ++ jump ≡ flows_by p slot (described table slot) → AreDescribed (flows_by p slot (described table slot)) → ((s : ℕ) → described after s ≡ arrived s (arrived s (described table s) next) jump) → HasFlowed p after (slot + 1)
unfolding incoming
flowed_next p table after slot next jump h f len all kinds reached = rw add-one record {
  whole = len ∙ f.whole;
  known = λ s k.
      reached s
      ∙ sym (arrived-append s (described table s) next jump)
      ∙ ap (arrived s (described table s)) all
      ∙ ap (λ o. arrived s o (flows_by p slot (described table slot))) (f.known s k)
      ∙ ap (λ o. arrived s (incoming p (tight_table p) s slot) (flows_by p slot o)) here;
  flows = λ s k. elim (below_next s slot k) [
    | inl below ↦ f.flows s below
    | inr same ↦
        let Q : ℕ → Type 0 = λ s. AreDescribed (flows_from p (tight_table p) s) in
        subst Q (sym same) (subst AreDescribed (ap (flows_by p slot) here) kinds)
  ];
}
  where
    here : described table slot ≡ described (tight_table p) slot
    here = known_here p table slot h f

-- what flows from a slot on doesn't arrive there or before
resolved : (p : Subject) (s n : ℕ) → IsWellFormed p.text → s ≤ n → n ≤ slots_of p.text → incoming p (tight_table p) s n ≡ incoming p (tight_table p) s s
unfolding incoming
resolved p zero zero w h k = refl
resolved p (suc s) zero w h k = absurd (omega arith)
resolved p s (suc n) w h k = elim (at_most_next s n h) [
  | inl below ↦
      arrived-elsewhere s (incoming p (tight_table p) s n) (flows_from p (tight_table p) n)
      (All-weaker (IsAhead p n) (λ t. t.0 ≡ s → ⊥) (λ t a e. absurd (omega (arith, a.above, below, e))) (flows_from p (tight_table p) n) (flows_ahead p (tight_table p) n (tight_instruction p n w (omega arith))))
      ∙ resolved p s n w below (omega arith)
  | inr same ↦ let P : ℕ → Type 0 = λ m. incoming p (tight_table p) s m ≡ incoming p (tight_table p) s s in subst P same refl
]
  where
    at_most_next : (n m : ℕ) → n ≤ suc m → (n ≤ m) ⊎ (n ≡ suc m)
    at_most_next n m h = grind arith

-- after the last slot it is known what the tight table says
flowed_table : (p : Subject) (table : Table) (slot : ℕ) → IsWellFormed p.text → slot ≡ slots_of p.text → HasFlowed p table slot → table ≡ tight_table p
flowed_table p table slot w end f =
    ext_get_or None table (tight_table p) (f.whole ∙ sym (length-tight p (slots_of p.text)))
    (λ s h.
    let within : s < slots_of p.text = omega (arith, f.whole) in
    f.known s within
    ∙ resolved p s slot w (omega arith) (omega arith)
    ∙ sym (tight_is_tight p (slots_of p.text) s within))

pub flowed_all : (p : Subject) (table : Table) (slot : ℕ) → IsWellFormed p.text → slot ≡ slots_of p.text → HasFlowed p table slot → IsKnowledge p table
flowed_all p table slot w end f = record {
  whole = f.whole;
  tight = flowed_table p table slot w end f;
  flows = λ s h. f.flows s (rw end h);
}

-- a well-formed text has slots
pub has_slots : (text : List ℕ) → IsWellFormed text → 0 < slots_of text
has_slots text w = (first_instruction text w).within

-- of a list of nothing only what is set at its first location is read
pub started : (n : ℕ) (x : Option Description) (s : ℕ) → 0 < n → get_or (set (replicate n None) 0 x) s None ≡ (if s == 0 then x else None)
started zero x s h = absurd (omega arith)
started (suc n) x zero h = refl
started (suc n) x (suc s) h =
    let P : Option Description → Type 0 = λ o. o ≡ None in
    nothing n s ∙ sym (if_same P (suc s) 0 x None (λ e. absurd (omega (arith, e))) (λ ne. refl))
  where
    nothing : (n s : ℕ) → let none : Option Description = None in get_or (replicate n none) s none ≡ none
    nothing zero s = refl
    nothing (suc n) zero = refl
    nothing (suc n) (suc s) = nothing n s

-- before the first slot the start's description has flowed
pub begun : (p : Subject) (table : Table) (slots : ℕ) → IsWellFormed p.text → slots ≡ slots_of p.text → length table ≡ slots → table ≡ set (replicate slots None) 0 (Some start_description) → HasFlowed p table 0
unfolding incoming
begun p table slots w count len is = record {
  whole = len ∙ count;
  known = λ s k. ap (λ (t : Table). described t s) is ∙ started slots (Some start_description) s (rw count (has_slots p.text w));
  flows = λ s h. absurd (omega arith);
}

-- the same of an answer
pub begun_in : {A E : Type 0} (r : Result A E) (items : A → Table) (p : Subject) (slots : ℕ) → IsWellFormed p.text → slots ≡ slots_of p.text → IfOk r (λ known. length (items known) ≡ slots) → IfOk r (λ known. items known ≡ set (replicate slots None) 0 (Some start_description)) → IfOk r (λ known. HasFlowed p (items known) 0)
begun_in (Ok known) items p slots w count len is = begun p (items known) slots w count len is
begun_in (Err e) items p slots w count len is = tt

-- the slots to which an instruction leads are slots of the text
within_next : (p : Subject) (slot : ℕ) (next jump : Option Target) → All (IsAhead p slot) (target_in next ++ target_in jump) → IfSome next (λ t. t.slot < slots_of p.text)
within_next p slot None jump a = tt
within_next p slot (Some t) jump a = (All-head (IsAhead p slot) (t.slot, t.description) (target_in jump) a).instruction.within

within_one : (p : Subject) (slot : ℕ) (jump : Option Target) → All (IsAhead p slot) (target_in jump) → IfSome jump (λ t. t.slot < slots_of p.text)
within_one p slot None a = tt
within_one p slot (Some t) a = (All-head (IsAhead p slot) (t.slot, t.description) [] a).instruction.within

within_jump : (p : Subject) (slot : ℕ) (next jump : Option Target) → All (IsAhead p slot) (target_in next ++ target_in jump) → IfSome jump (λ t. t.slot < slots_of p.text)
within_jump p slot None jump a = within_one p slot jump a
within_jump p slot (Some u) jump a = within_one p slot jump (All-tail (IsAhead p slot) (u.slot, u.description) (target_in jump) a)

onward_ahead : (p : Subject) (slot : ℕ) (d : Description) (onward : Onward) → IsInstruction p.text slot → flow_in (Ok onward) ≡ flow p slot d → All (IsAhead p slot) (targets_in onward)
onward_ahead p slot d onward i e = flow_ahead p slot d (targets_in onward) i (sym e)

pub onward_next : (p : Subject) (slot : ℕ) (d : Description) (onward : Onward) → IsInstruction p.text slot → flow_in (Ok onward) ≡ flow p slot d → IfSome onward.next (λ t. t.slot < slots_of p.text)
onward_next p slot d onward i e = within_next p slot onward.next onward.jump (onward_ahead p slot d onward i e)

pub onward_jump : (p : Subject) (slot : ℕ) (d : Description) (onward : Onward) → IsInstruction p.text slot → flow_in (Ok onward) ≡ flow p slot d → IfSome onward.jump (λ t. t.slot < slots_of p.text)
onward_jump p slot d onward i e = within_jump p slot onward.next onward.jump (onward_ahead p slot d onward i e)

-- what an index reads of the slot to which the pass has come
read_here : (p : Subject) (table : Table) (slot : ℕ) (x : Option Description) → slot < slots_of p.text → HasFlowed p table slot → x ≡ get_or table slot x → described table slot ≡ x
read_here p table slot x h f e = described_read table slot x (omega (arith, f.whole, h)) e

pub read_instruction : (p : Subject) (table : Table) (slot : ℕ) (x : Option Description) → IsWellFormed p.text → slot < slots_of p.text → HasFlowed p table slot → x ≡ get_or table slot x → IfSome x (λ d. IsInstruction p.text slot)
read_instruction p table slot x w h f e = subst (λ o. IfSome o (λ d. IsInstruction p.text slot)) (read_here p table slot x h f e) (known_instruction p table slot w h f)

pub read_description : (p : Subject) (table : Table) (slot : ℕ) (x : Option Description) → slot < slots_of p.text → HasFlowed p table slot → x ≡ get_or table slot x → IfSome x IsDescription
read_description p table slot x h f e = subst (λ o. IfSome o IsDescription) (read_here p table slot x h f e) (known_description p table slot h f)

-- the slot is passed over once both its targets have arrived
pub passed_over : (p : Subject) (table entered after : Table) (slot : ℕ) (x : Option Description) (onward : Onward) → slot < slots_of p.text → HasFlowed p table slot → x ≡ get_or table slot x → targets_in onward ≡ flows_by p slot x → AreDescribed (flows_by p slot x) → length entered ≡ length table → ((s : ℕ) → described entered s ≡ arrived s (described table s) (target_in onward.next)) → length after ≡ length entered → ((s : ℕ) → described after s ≡ arrived s (described entered s) (target_in onward.jump)) → HasFlowed p after (slot + 1)
passed_over p table entered after slot x onward h f e all kinds len next more jump =
    let here : described table slot ≡ x = read_here p table slot x h f e in
    flowed_next p table after slot (target_in onward.next) (target_in onward.jump) h f (more ∙ len)
    (all ∙ ap (flows_by p slot) (sym here))
    (subst AreDescribed (ap (flows_by p slot) (sym here)) kinds)
    (λ s. jump s ∙ ap (λ o. arrived s o (target_in onward.jump)) (next s))
