-- Text from outside in a page: no byte of it begins a tag, a character reference, a comment or the end of a string.
use Rattle.std.specs.Prelude.{◌≢◌, ℕ, ◌≤◌, ◌<◌, All, List, Option}
use Rattle.std.specs.Io.KnownBytes.{Appends}

-- A byte of ASCII that prints, and that is neither `"`, `&`, `<` nor `>`.
pub record IsInert (byte : ℕ) : Type 0 where
  pub printed : 32 ≤ byte
  pub ascii : byte < 127
  pub no_quote : byte ≢ 34
  pub no_reference : byte ≢ 38
  pub no_tag : byte ≢ 60
  pub no_end : byte ≢ 62

-- A text that was written: some bytes more, each of them inert.
abbrev pub AppendsInert : Option (List ℕ) → Option (List ℕ) → Type 0
AppendsInert old new = (bytes : List ℕ) × All IsInert bytes × Appends old new bytes
