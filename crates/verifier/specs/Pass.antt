-- One pass over the slots of a program, in order: what has been found out before a slot.
use Rattle.std.specs.Prelude.{◌≡◌, ℕ, suc, ◌<◌, ◌≤◌, Bool, if◌then◌else◌, List, [], ◌∷◌, ◌++◌, length, map, slice_index_or, All, Option, Some, None, option_map, Result, Ok, Err}
use Rattle.std.specs.Global.{Box}
use Rattle.bpf_decode.specs.Text.{slots_of, is_instruction}
use Rattle.verifier_kinds.specs.declared.kind.Kind.{Kind}
use Rattle.verifier_kinds.specs.declared.description.Description.{Description}
use Rattle.verifier_kinds.specs.Descriptions.{IsDescription}
use Rattle.verifier.specs.declared.flow.Target.{Target}
use Rattle.verifier.specs.declared.flow.Onward.{Onward}
use Rattle.verifier.specs.declared.table.Pass.{Pass}
use Rattle.verifier.specs.Subject.{Subject}
use Rattle.verifier.specs.Known.{Kept}
use Rattle.verifier.specs.Flow.{target}
use Rattle.verifier.specs.Table.{Table, flows_from, known_with, arrived, incoming, tight_up_to, tight_table, IsCleanBefore}

-- the target of an instruction that may lead to a slot
abbrev pub target_in : Option Target → List (ℕ × Description)
target_in None = []
target_in (Some t) = (t.slot, t.description) ∷ []

-- the targets of an instruction: the slot to which it falls through before the one to which it jumps
abbrev pub targets_in : Onward → List (ℕ × Description)
targets_in onward = target_in onward.next ++ target_in onward.jump

-- the same of an answer
abbrev pub flow_in : Result Onward ℕ → Result (List (ℕ × Description)) ℕ
flow_in (Ok onward) = Ok (targets_in onward)
flow_in (Err rule) = Err rule

-- the targets have descriptions of the verifier
abbrev pub AreDescribed : List (ℕ × Description) → Type 0
AreDescribed targets = All (λ t. IsDescription t.1) targets

-- from the first n slots flow descriptions of the verifier
abbrev pub FlowDescribed : Subject → Table → ℕ → Type 0
FlowDescribed p table n = (s : ℕ) → s < n → AreDescribed (flows_from p table s)

-- the kinds of the registers that are known
abbrev pub kinds_in : Option Description → Option (List (Option Kind))
kinds_in known = option_map (λ d. d.registers) known

-- what is known at a slot to which jumps led
abbrev pub pending_at : List (Option (Box Description)) → ℕ → Option Description
pending_at pending slot = option_map (λ b. b.value) (slice_index_or pending slot None)

-- what falls through to the next instruction, if anything does
abbrev pub falling : Bool → Description → Option Description
falling falls d = if falls then Some d else None

-- what is known, joined with what falls through
abbrev pub known_with_coming : Option Description → Option Description → Option Description
known_with_coming known None = known
known_with_coming known (Some d) = Some (known_with known d)

-- the slot of the first instruction from a slot on
abbrev pub next_at : List ℕ → ℕ → ℕ
next_at text slot = if is_instruction text slot then slot else suc slot

-- Before a slot the kinds that the tight table has are kept, and no rule is broken; of the slots from
-- there on it is known what flows there from the slots before.
pub record IsPassed (p : Subject) (kept : Kept) (pending : List (Option (Box Description))) (coming : Option Description) (slot : ℕ) : Type 0 where
  pub whole : length pending ≡ slots_of p.text
  pub kinds : kept ≡ map kinds_in (tight_up_to p slot)
  pub ahead : (s : ℕ) → slot ≤ s → s < slots_of p.text
      → arrived s (pending_at pending s) (target (next_at p.text slot) coming) ≡ incoming p (tight_table p) s slot
  pub clean : IsCleanBefore p (tight_table p) slot
  pub flows : FlowDescribed p (tight_table p) slot

-- the same of a pass
abbrev pub HasPassed : Subject → Pass → ℕ → Type 0
HasPassed p pass slot = IsPassed p pass.kept pass.pending.items (falling pass.falls pass.current) slot
