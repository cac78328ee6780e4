-- Numbers as digits to a base.
use Rattle.std.specs.Prelude.{ℕ, ◌+◌, ◌*◌, List, [], ◌∷◌}

-- each two neighbours as one digit to the base's square
abbrev pub digit_pairs : ℕ → List ℕ → List ℕ
digit_pairs base [] = []
digit_pairs base (x ∷ []) = []
digit_pairs base (x ∷ y ∷ rest) = (x * base + y) ∷ digit_pairs base rest
