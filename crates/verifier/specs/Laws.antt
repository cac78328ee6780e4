-- A subject has one answer at most, and the reserve of a verified program falls.
use Rattle.std.specs.Prelude.{◌≡◌, ℕ, ◌+◌, ◌%◌, ◌<◌, ◌≤◌, Bool, true, List, All, Ok}
use Rattle.host_types.specs.declared.fault.Refused.{Refused}
use Rattle.verifier_kinds.specs.declared.description.Description.{Description}
use Rattle.verifier_kinds.specs.Descriptions.{start_description, join_of}
use Rattle.verifier.specs.Subject.{Subject}
use Rattle.verifier.specs.Flow.{flow}
use Rattle.bpf_decode.specs.Text.{slots_of}
use Rattle.verifier.specs.Table.{Table, IsTightTable, IsRefusal, IsLawful}
use Rattle.verifier.specs.Wide.{IsWideLawful, HasNoLawful, raised_table}
use Rattle.verifier.specs.Verified.{Accepted, IsSubject}
use Rattle.verifier.specs.Named.{is_map}
use Rattle.verifier.specs.Reserve.{cost_at, reserve_from}
use Rattle.verifier.specs.Writes.{written_map, writes_from}

-- a subject has one refusal at most
abbrev pub HasOneRefusal : Type 0
HasOneRefusal = (p : Subject) (refused other : Refused) → IsRefusal p refused → IsRefusal p other → refused ≡ other

-- a subject has one tight table at most
abbrev pub HasOneTable : Type 0
HasOneTable = (p : Subject) (table other : Table) → IsTightTable p table → IsTightTable p other → table ≡ other

-- a subject that has a refusal has no tight table
abbrev pub RefusalExcludesTable : Type 0
RefusalExcludesTable = (p : Subject) (table : Table) (refused : Refused) → IsTightTable p table → IsRefusal p refused → ⊥

-- A text of bytes that has a refusal has no lawful table, whoever looks for one; nor has it one that says offsets
-- below -65536, which no flow makes, but to which a table may weaken what it says.
abbrev pub RefusalLeavesNoLawful : Type 0
RefusalLeavesNoLawful = (p : Subject) (refused : Refused) → IsSubject p → All (λ byte. byte < 256) p.text → IsRefusal p refused → HasNoLawful p

-- Each lawful table is one of those that it leaves none of, once its numbers of offsets are 0 more, or more by any
-- multiple of 8: the wider rules ask for nothing else.
abbrev pub RaisedStaysLawful : Type 0
RaisedStaysLawful = (p : Subject) (extra : ℕ) (table : Table) → extra % 8 ≡ 0 → IsLawful p table → IsWideLawful p extra (raised_table extra table)

-- a reading of a text contains a description at a slot
abbrev pub Contains : (ℕ → Description → Bool) → ℕ → Description → Type 0
Contains contains slot d = contains slot d ≡ true

-- it contains all targets of an instruction
abbrev pub AreContained : (ℕ → Description → Bool) → List (ℕ × Description) → Type 0
AreContained contains targets = All (λ t. Contains contains t.0 t.1) targets

-- A reading of a text says which descriptions it contains at each slot, whatever else it may know there: the
-- start's at slot 0, with any two their join, and what flows on from each, which breaks no rule.
pub record IsReading (p : Subject) (contains : ℕ → Description → Bool) : Type 0 where
  pub start : Contains contains 0 start_description
  pub joins : (slot : ℕ) (d e : Description) → Contains contains slot d → Contains contains slot e → Contains contains slot (join_of d e)
  pub flows : (slot : ℕ) (d : Description) → Contains contains slot d → (targets : List (ℕ × Description)) × (flow p slot d ≡ Ok targets) × AreContained contains targets

-- a text that has a refusal has no reading either, also none that knows of other kinds than a table does
abbrev pub RefusalLeavesNoReading : Type 0
RefusalLeavesNoReading = (p : Subject) (refused : Refused) (contains : ℕ → Description → Bool) → IsRefusal p refused → IsReading p contains → ⊥

-- what the instruction at a slot may need, and the reserve of a later slot, are reserved at the slot
abbrev pub ReserveCoversStep : Type 0
ReserveCoversStep = (v : Accepted) (slot later : ℕ) → slot < later → slot < slots_of v.subject.text → cost_at v slot + reserve_from v later ≤ reserve_from v slot

-- after the text nothing is reserved
abbrev pub ReserveEndsAtNone : Type 0
ReserveEndsAtNone = (v : Accepted) (slot : ℕ) → slots_of v.subject.text ≤ slot → reserve_from v slot ≡ 0

-- a map that a later slot or a later one writes is written from each slot before on
abbrev pub WritesFall : Type 0
WritesFall = (v : Accepted) (slot later m : ℕ) → slot ≤ later → writes_from v later m ≡ true → writes_from v slot m ≡ true

-- a map that a slot writes is written from that slot on
abbrev pub WritesHere : Type 0
WritesHere = (v : Accepted) (slot m : ℕ) → slot < slots_of v.subject.text → is_map (written_map v slot) m ≡ true → writes_from v slot m ≡ true
