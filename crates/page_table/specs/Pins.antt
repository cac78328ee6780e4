-- How many pages of each map are pinned.
use Rattle.std.specs.Prelude.{◌≡◌, ℕ, ◌*◌, ◌<◌, ◌≤◌, Bool, if◌then◌else◌, List, length, sum_by, slice_index_or}
use Rattle.host_types.specs.Bytes.{part_of}

-- how many of some pages are pinned
abbrev pub pinned_among : List Bool → ℕ
pinned_among pins = sum_by (λ pin. if pin then 1 else 0) pins

-- the numbers are those of the maps' pinned pages, by the maps' indices, and the total is that of all; each map has 256 pages
pub record ArePinsOf (pins : List Bool) (numbers : List ℕ) (total : ℕ) : Type 0 where
  pub maps : length pins ≡ length numbers * 256
  pub each : (k : ℕ) → k < length numbers → slice_index_or numbers k 0 ≡ pinned_among (part_of pins (k * 256) 256)
  pub all : total ≡ pinned_among pins
  pub few : length pins ≤ 32768
