-- Parts of a file, and numbers in it, the lowest byte first (System V ABI, chapter 4: ELFDATA2LSB).
use Rattle.std.specs.Prelude.{◌≡◌, ℕ, ◌+◌, ◌<◌, ◌≤◌, List, length, slice_index, drop}
use Rattle.byteorder.specs.Endian.{little_number}

-- the number of so many bytes at an offset
unfoldable pub file_number_at : ℕ → List ℕ → ℕ → ℕ
file_number_at size bytes at = little_number size (drop at bytes)

-- the bytes that stand in others from an offset on
pub record IsPartOfFile (whole : List ℕ) (at : ℕ) (part : List ℕ) : Type 0 where
  pub within : at + length part ≤ length whole
  pub each : (k : ℕ) → k < length part → slice_index part k ≡ slice_index whole (at + k)
