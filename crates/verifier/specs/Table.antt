-- Tables: what is known at each slot of a program (this project's own profile).
use Rattle.std.specs.Prelude.{◌≡◌, ℕ, zero, suc, ◌<◌, ◌≤◌, ◌==◌, if◌then◌else◌, List, [], ◌∷◌, ◌++◌, length, slice_index_or, All, IfSome, Option, Some, None, Result, Ok, Err}
use Rattle.host_types.specs.declared.fault.Refused.{Refused}
use Rattle.bpf_decode.specs.Text.{slots_of, IsInstruction}
use Rattle.verifier_kinds.specs.declared.description.Description.{Description}
use Rattle.verifier_kinds.specs.Descriptions.{start_description, join_of, IsLawfulAt, IsDescriptionBelow}
use Rattle.verifier.specs.Subject.{Subject}
use Rattle.verifier.specs.Flow.{flow}

-- a description for some of the slots
abbrev pub Table : Type 0
Table = List (Option Description)

-- the description of a slot
abbrev pub described : Table → ℕ → Option Description
described table slot = slice_index_or table slot None

-- the targets of a flow that breaks no rule
abbrev pub targets_of : Result (List (ℕ × Description)) ℕ → List (ℕ × Description)
targets_of (Ok targets) = targets
targets_of (Err rule) = []

-- what flows from a slot with a description, or with none
abbrev pub flows_by : Subject → ℕ → Option Description → List (ℕ × Description)
flows_by p slot None = []
flows_by p slot (Some d) = targets_of (flow p slot d)

-- what flows from a slot of a table
abbrev pub flows_from : Subject → Table → ℕ → List (ℕ × Description)
flows_from p table slot = flows_by p slot (described table slot)

-- what is known, joined with what comes
abbrev pub known_with : Option Description → Description → Description
known_with None d = d
known_with (Some e) d = join_of e d

-- what is known at a slot once some targets are reached, in their order
abbrev pub arrived : ℕ → Option Description → List (ℕ × Description) → Option Description
arrived slot known [] = known
arrived slot known (t ∷ targets) = arrived slot (if t.0 == slot then Some (known_with known t.1) else known) targets

-- what flows to a slot from the first n slots of a table, in their order; slot 0 has the start's
-- description to begin with
unfoldable pub incoming : Subject → Table → ℕ → ℕ → Option Description
incoming p table slot zero = if slot == 0 then Some start_description else None
incoming p table slot (suc n) = arrived slot (incoming p table slot n) (flows_from p table n)

-- The table of the first n slots that says just what flows: a text without a refusal has it, and no other.
unfoldable pub tight_up_to : Subject → ℕ → Table
tight_up_to p zero = []
tight_up_to p (suc n) = tight_up_to p n ++ (incoming p (tight_up_to p n) n n ∷ [])

-- the same of a whole text
abbrev pub tight_table : Subject → Table
tight_table p = tight_up_to p (slots_of p.text)

-- up to a slot the table says just what flows from the slots before
abbrev pub IsTightUpTo : Subject → Table → ℕ → Type 0
IsTightUpTo p table slot = (s : ℕ) → s ≤ slot → described table s ≡ incoming p table s s

-- the table describes the slot, and the slot breaks the rule
pub record Breaks (p : Subject) (table : Table) (slot rule : ℕ) : Type 0 where
  pub description : Description
  pub found : described table slot ≡ Some description
  pub breaks : flow p slot description ≡ Err rule

-- before a slot no rule is broken
abbrev pub IsCleanBefore : Subject → Table → ℕ → Type 0
IsCleanBefore p table slot = (s rule : ℕ) → s < slot → Breaks p table s rule → ⊥

-- the table of a whole text that says just what flows, and in which no slot breaks a rule
pub record IsTightTable (p : Subject) (table : Table) : Type 0 where
  pub whole : length table ≡ slots_of p.text
  pub tight : (slot : ℕ) → slot < slots_of p.text → described table slot ≡ incoming p table slot slot
  pub clean : IsCleanBefore p table (slots_of p.text)

-- A text's refusal: the first slot that breaks a rule in the table that says just what flows up to it,
-- with the smallest number there.
pub record IsRefusal (p : Subject) (refused : Refused) : Type 0 where
  pub table : Table
  pub within : refused.slot < slots_of p.text
  pub tight : IsTightUpTo p table refused.slot
  pub first : IsCleanBefore p table refused.slot
  pub breaks : Breaks p table refused.slot refused.number

-- a target's description is contained in the table's
abbrev pub IsContained : Table → ℕ × Description → Type 0
IsContained table target = (d : Description) × (described table target.0 ≡ Some d) × IsDescriptionBelow target.1 d

-- at a slot with this description no rule is broken, and all that flows on is contained
abbrev pub IsKeptAt : Subject → Table → ℕ → Description → Type 0
IsKeptAt p table slot d = (targets : List (ℕ × Description)) × (flow p slot d ≡ Ok targets) × All (IsContained table) targets

-- A lawful table: it contains the start's description, it describes instructions alone, its ranges are
-- normal and name calls before the slot alone, and each described slot breaks no rule and flows to what
-- the table contains.
pub record IsLawful (p : Subject) (table : Table) : Type 0 where
  pub start : IsContained table (0, start_description)
  pub instructions : (slot : ℕ) (d : Description) → described table slot ≡ Some d → IsInstruction p.text slot
  pub kinds : (slot : ℕ) → IfSome (described table slot) (IsLawfulAt slot)
  pub kept : (slot : ℕ) (d : Description) → described table slot ≡ Some d → IsKeptAt p table slot d
