-- What is read of a table that is known to be the tight one.
use Rattle.std.proofs.Common.{◌≡◌, ℕ, ◌<◌, get_or, IfSome, Option, Some, None, Ok, Err, sym, ap, subst, ◌∙◌, arith}
use Rattle.bpf_decode.specs.Text.{slots_of, IsInstruction, IsWellFormed}
use Rattle.verifier_kinds.specs.declared.description.Description.{Description}
use Rattle.verifier_kinds.specs.Descriptions.{IsDescription}
use Rattle.verifier.specs.Subject.{Subject}
use Rattle.verifier.specs.Table.{Table, described, flows_by, flows_from, tight_table, Breaks}
use Rattle.verifier.specs.declared.flow.Onward.{Onward}
use Rattle.verifier.specs.Flow.{flow}
use Rattle.verifier.specs.Pass.{flow_in, targets_in}
use Rattle.verifier.proofs.Tables.{IsDescription-incoming}
use Rattle.verifier.proofs.Passes.{described_read}
use Rattle.verifier.proofs.Tight.{tight_is_tight}
use Rattle.knowledge.specs.Knowledge.{IsKnowledge}
use Rattle.knowledge.proofs.Flowed.{tight_instruction}

-- what an index reads of the table
known_at : (p : Subject) (table : Table) (slot : ℕ) (x : Option Description) → slot < slots_of p.text → IsKnowledge p table → x ≡ get_or table slot x → described (tight_table p) slot ≡ x
known_at p table slot x h k e =
    ap (λ (t : Table). described t slot) (sym k.tight) ∙ described_read table slot x (omega (arith, k.whole, h)) e

-- it is known of instructions alone
pub known_instruction : (p : Subject) (table : Table) (slot : ℕ) (x : Option Description) → IsWellFormed p.text → slot < slots_of p.text → IsKnowledge p table → x ≡ get_or table slot x → IfSome x (λ d. IsInstruction p.text slot)
known_instruction p table slot x w h k e = subst (λ o. IfSome o (λ d. IsInstruction p.text slot)) (known_at p table slot x h k e) (tight_instruction p slot w h)

-- and it is a description of the verifier
pub known_description : (p : Subject) (table : Table) (slot : ℕ) (x : Option Description) → slot < slots_of p.text → IsKnowledge p table → x ≡ get_or table slot x → IfSome x IsDescription
known_description p table slot x h k e =
    subst (λ o. IfSome o IsDescription)
    (sym (tight_is_tight p (slots_of p.text) slot h) ∙ known_at p table slot x h k e)
    (IsDescription-incoming p (tight_table p) slot slot (λ s below. k.flows s (omega (arith, below, h))))

-- a rule that the slot breaks with what is known there
pub rule_broken : (p : Subject) (table : Table) (slot rule : ℕ) (x : Option Description) (d : Description) → slot < slots_of p.text → IsKnowledge p table → x ≡ get_or table slot x → x ≡ Some d → flow p slot d ≡ Err rule → Breaks p (tight_table p) slot rule
rule_broken p table slot rule x d h k e some breaks = record { description = d; found = known_at p table slot x h k e ∙ some; breaks = breaks }

-- a slot that leads on breaks none
pub none_broken : (p : Subject) (table : Table) (slot : ℕ) (x : Option Description) (d : Description) (onward : Onward) → slot < slots_of p.text → IsKnowledge p table → x ≡ get_or table slot x → x ≡ Some d → flow_in (Ok onward) ≡ flow p slot d → (rule : ℕ) → Breaks p (tight_table p) slot rule → ⊥
none_broken p table slot x d onward h k e some leads rule b =
    let same : Some d ≡ Some b.description = sym some ∙ sym (known_at p table slot x h k e) ∙ b.found in
    let Q : Option Description → Type 0 = λ o. IfSome o (λ c. flow p slot c ≡ flow_in (Ok onward)) in
    let on : flow p slot b.description ≡ flow_in (Ok onward) = subst Q same (sym leads) in
    absurd (clash (sym on ∙ b.breaks))
  where
    clash : flow_in (Ok onward) ≡ Err rule → ⊥
    clash q = absurd cc

-- nor does one that isn't reached
pub none_unreached : (p : Subject) (table : Table) (slot : ℕ) (x : Option Description) → slot < slots_of p.text → IsKnowledge p table → x ≡ get_or table slot x → x ≡ None → (rule : ℕ) → Breaks p (tight_table p) slot rule → ⊥
none_unreached p table slot x h k e none rule b =
    let same : None ≡ Some b.description = sym none ∙ sym (known_at p table slot x h k e) ∙ b.found in
    absurd cc

-- what flows from what was read flows from the tight table
pub flows_known : (p : Subject) (table : Table) (slot : ℕ) (x : Option Description) (onward : Onward) → slot < slots_of p.text → IsKnowledge p table → x ≡ get_or table slot x → targets_in onward ≡ flows_by p slot x → targets_in onward ≡ flows_from p (tight_table p) slot
flows_known p table slot x onward h k e flows = flows ∙ ap (flows_by p slot) (sym (known_at p table slot x h k e))
