-- How many binary digits a number has.
use Rattle.std.specs.Prelude.{ℕ, zero, suc, ◌/◌}

-- how often a number is halved until nothing is left, at most so often
unfoldable pub digits_within : ℕ → ℕ → ℕ
digits_within zero n = 0
digits_within (suc most) zero = 0
digits_within (suc most) (suc n) = suc (digits_within most (suc n / 2))

-- none for 0
abbrev pub digits : ℕ → ℕ
digits n = digits_within n n
