-- A row of cells, each empty or holding a value.
use Rattle.std.specs.Prelude.{◌≡◌, ℕ, ◌+◌, ◌≤◌, List, [], ◌∷◌, map, length, take, drop, Option, Some, None}

module _ {X : Type 0} where
  -- the values that are there
  abbrev pub somes : List (Option X) → List X
  somes [] = []
  somes (None ∷ cs) = somes cs
  somes (Some x ∷ cs) = x ∷ somes cs

  -- the len cells from the index from on hold values
  abbrev pub IsRun : List (Option X) → ℕ → ℕ → Type 0
  IsRun cs from len = (from + len ≤ length cs) × ((xs : List X) × (take len (drop from cs) ≡ map Some xs))
