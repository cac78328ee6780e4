-- What the cells end as, once a `&mut` into them has ended.
use Rattle.std.specs.Prelude.{ℕ, ◌+◌, List, ◌++◌, map, take, drop, Option, Some}
use Rattle.std.specs.Borrow.{Fml, RattleType, MutBor, Array, Lends}
use Rattle.std.specs.List.{refill}
use Rattle.frame_arena.specs.Offsets.{somes}
use Rattle.frame_arena.specs.declared.memory.Cells.{Cells}
use Rattle.frame_arena.specs.contracts.memory.Cells.{the_row}

module _ {X : Type 0} where
  abbrev pub with_slots : Cells X → List (Option X) → Cells X
  with_slots c cs = record { mark = c.mark; at = c.at; slots = cs }

  -- cs, with ws in place of the len from the index from on
  abbrev pub spliced : List (Option X) → ℕ → ℕ → List X → List (Option X)
  spliced cs from len ws = take from cs ++ (map Some ws ++ drop (from + len) cs)

abbrev pub lends_run : (R : RattleType) → MutBor (Cells R.Denot) → ℕ → ℕ → MutBor (List R.Denot) → Fml
lends_run R c from len r = Lends (the_row R) (Array R 0) c r (λ ws. with_slots c.now (spliced c.now.slots from len (refill len (somes (take len (drop from c.now.slots))) ws)))
