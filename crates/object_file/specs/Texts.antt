-- Texts of which wide instructions were filled in.
use Rattle.std.specs.Prelude.{◌≡◌, ◌≢◌, ℕ, ◌+◌, ◌*◌, ◌/◌, ◌%◌, ◌<◌, ◌≤◌, ◌⊎◌, List, length, slice_index}
use Rattle.object_file.specs.declared.relocation.Filled.{Filled}

-- bytes with a number of four of them written at an offset, the lowest first
pub record IsFilledIn (before after : List ℕ) (at number : ℕ) : Type 0 where
  pub same_length : length after ≡ length before
  pub lowest : slice_index after at ≡ number % 256
  pub second : slice_index after (at + 1) ≡ number / 256 % 256
  pub third : slice_index after (at + 2) ≡ number / 65536 % 256
  pub highest : slice_index after (at + 3) ≡ number / 16777216
  pub others_kept : (k : ℕ) → (k < at) ⊎ (at + 4 ≤ k) → slice_index after k ≡ slice_index before k

-- an index that is no field of a wide instruction which is filled in: its registers, and both immediates
pub record IsBeside (at k : ℕ) : Type 0 where
  pub registers : k ≢ at + 1
  pub imm : (k < at + 4) ⊎ (at + 8 ≤ k)
  pub next_imm : (k < at + 12) ⊎ (at + 16 ≤ k)

-- a text with the wide instruction at an offset filled in: it names the map, and all else stays
pub record IsFilled (before after : List ℕ) (at : ℕ) (with : Filled) : Type 0 where
  pub same_length : length after ≡ length before
  pub registers : slice_index after (at + 1) ≡ slice_index before (at + 1) % 16 + 16 * with.source
  pub map : slice_index after (at + 4) ≡ with.map % 256
  pub others_kept : (k : ℕ) → IsBeside at k → slice_index after k ≡ slice_index before k
