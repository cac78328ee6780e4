-- What is known at the slots of a text, refused or not.
use Rattle.std.specs.Prelude.{◌≡◌, ℕ, ◌<◌, length, Option, Some, None}
use Rattle.bpf_decode.specs.Text.{slots_of}
use Rattle.verifier_kinds.specs.declared.description.Description.{Description}
use Rattle.verifier_kinds.specs.declared.description.StackSlot.{StackSlot}
use Rattle.verifier_kinds.specs.declared.description.StackSlot.TheVariants.{Bytes}
use Rattle.verifier_kinds.specs.Descriptions.{slot_of}
use Rattle.verifier.specs.Subject.{Subject}
use Rattle.verifier.specs.Table.{Table, described, incoming, tight_table}
use Rattle.verifier.specs.Pass.{FlowDescribed}

-- what a description says of eight bytes of the stack, if there is one
abbrev pub stack_in : Option Description → ℕ → StackSlot
stack_in None location = Bytes 0
stack_in (Some d) location = slot_of d location

-- what is known of eight bytes of the stack at a slot: that none is written where the slot isn't reached
abbrev pub stack_at : Table → ℕ → ℕ → StackSlot
stack_at table slot location = stack_in (described table slot) location

-- Of each slot it is known what flows there from the first slots of the text.
pub record HasFlowed (p : Subject) (table : Table) (slot : ℕ) : Type 0 where
  pub whole : length table ≡ slots_of p.text
  pub known : (s : ℕ) → s < slots_of p.text → described table s ≡ incoming p (tight_table p) s slot
  pub flows : FlowDescribed p (tight_table p) slot

-- A table is the tight one of a whole text, and from its slots flow descriptions of the verifier.
pub record IsKnowledge (p : Subject) (table : Table) : Type 0 where
  pub whole : length table ≡ slots_of p.text
  pub tight : table ≡ tight_table p
  pub flows : FlowDescribed p (tight_table p) (slots_of p.text)
