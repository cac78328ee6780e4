-- The program of an object file.
use Rattle.std.specs.Prelude.{◌≡◌, ℕ, ◌+◌, ◌%◌, ◌<◌, ◌≤◌, List, length, slice_index, All}
use Rattle.object_file.specs.Maps.{AreShapedMaps}
use Rattle.object_file.specs.Texts.{IsBeside}
use Rattle.object_file.specs.declared.program.Program.{Program}
use Rattle.object_file.specs.declared.text.Text.{Text}

-- a text that stands in a file but for the wide instructions that were filled in: whole slots, at most 4096 of them
pub record IsTextOf (file : List ℕ) (text : Text) : Type 0 where
  pub some : 1 ≤ length text.bytes.items
  pub slots : length text.bytes.items % 8 ≡ 0
  pub short : length text.bytes.items ≤ 32768
  pub within : text.begin + length text.bytes.items ≤ length file
  pub others_kept : (k : ℕ) → k < length text.bytes.items → All (λ at. IsBeside at k) text.filled.items
      → slice_index text.bytes.items k ≡ slice_index file (text.begin + k)

-- the texts of a program and of the functions that it calls
abbrev pub AreTextsOf : List ℕ → List Text → Type 0
AreTextsOf file texts = All (IsTextOf file) texts

-- a program: texts that stand in the file, and maps that a tenant may have
pub record IsProgramOf (file : List ℕ) (program : Program) : Type 0 where
  pub texts : AreTextsOf file program.texts.items
  pub maps : AreShapedMaps program.maps.items
