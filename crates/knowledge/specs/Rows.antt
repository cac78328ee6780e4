-- The rows of a listing.
use Rattle.std.specs.Prelude.{◌≡◌, ℕ, ◌+◌, ◌≤◌, List, [], ◌∷◌}
use Rattle.knowledge.specs.declared.rows.Row.{Row}
use Rattle.knowledge.specs.declared.rows.Row.TheVariants.{Instruction, SecondHalf, Folded}

-- the first slot of a row
abbrev pub first_slot : Row → ℕ
first_slot (Instruction slot) = slot
first_slot (SecondHalf slot) = slot
first_slot (Folded first last) = first

-- its last one
abbrev pub last_slot : Row → ℕ
last_slot (Instruction slot) = slot
last_slot (SecondHalf slot) = slot
last_slot (Folded first last) = last

-- rows that have each slot once, in their order, from one on and up to an end
abbrev pub AreRows : List Row → ℕ → ℕ → Type 0
AreRows [] begin end = begin ≡ end
AreRows (row ∷ rows) begin end = (first_slot row ≡ begin) × (begin ≤ last_slot row) × AreRows rows (last_slot row + 1) end
