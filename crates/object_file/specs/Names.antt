-- Names in a string table (System V ABI, chapter 4): bytes up to a zero.
use Rattle.std.specs.Prelude.{◌≡◌, ◌≢◌, ℕ, ◌+◌, ◌<◌, List, length, slice_index}
use Rattle.object_file.specs.Numbers.{IsPartOfFile}

-- the name at an offset: no byte of it is zero, and the byte after it is
pub record IsNameAt (names : List ℕ) (at : ℕ) (name : List ℕ) : Type 0 where
  pub stands : IsPartOfFile names at name
  pub within : at + length name < length names
  pub short : length name < 256
  pub none_zero : (k : ℕ) → k < length name → slice_index names (at + k) ≢ 0
  pub ended : slice_index names (at + length name) ≡ 0
