-- The lines of the counters as they are written, and what a write that failed leaves.
use Rattle.std.specs.Prelude.{◌≡◌, ℕ, List, [], ◌∷◌, ◌++◌, Option}
use Rattle.std.specs.Io.KnownBytes.{Appends}
use Rattle.ksm_counters.specs.Counters.{line_before}
use Rattle.ksm_counters.specs.declared.line.Line.{Line}

-- known bytes grow by a beginning of a text, and a byte of it at least is missing
abbrev pub AppendsBeginning : Option (List ℕ) → Option (List ℕ) → List ℕ → Type 0
AppendsBeginning old new text = (begun : List ℕ) × (byte : ℕ) × (missing : List ℕ) × (text ≡ begun ++ byte ∷ missing) × Appends old new begun

-- the text of some lines
unfoldable pub lines_text : List Line → List ℕ
lines_text [] = []
lines_text (line ∷ lines) = line_before line.name.now line.value (lines_text lines)
