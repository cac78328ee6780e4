-- The pages of an arena, and how many calls have looked at one or two of them.
use Rattle.std.specs.Prelude.{ℕ, List}

pub record CountedPages : Type 0 where
  pub pages : List (List ℕ)
  pub steps : ℕ
