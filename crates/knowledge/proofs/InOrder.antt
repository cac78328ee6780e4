-- Rows that are put one after the other.
use Rattle.std.proofs.Common.{arith, ◌≡◌, ℕ, ◌+◌, ◌≤◌, List, [], ◌∷◌, ◌++◌, refl, sym, ◌∙◌}
use Rattle.knowledge.specs.declared.rows.Row.{Row}
use Rattle.knowledge.specs.Rows.{first_slot, last_slot, AreRows}

-- a row that begins where the others end
pub pushed_row : (rows : List Row) (begin middle : ℕ) (row : Row) → AreRows rows begin middle
    → first_slot row ≡ middle → middle ≤ last_slot row → AreRows (rows ++ row ∷ []) begin (last_slot row + 1)
pushed_row [] begin middle row is first last = (first ∙ sym is, omega (arith, is, last), refl)
pushed_row (r ∷ rows) begin middle row (at, low, rest) first last =
    (at, low, pushed_row rows (last_slot r + 1) middle row rest first last)
