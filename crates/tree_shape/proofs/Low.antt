-- An even tree has few levels.
use Rattle.std.proofs.Common.{◌≡◌, ℕ, zero, suc, ◌+◌, ◌^◌, ◌<◌, ◌≤◌, ◌∷◌, length, refl, arith, ⊎_elim, length-append}
use Rattle.std.proofs.lemmas.Bool.{cases_lt}
use Rattle.tree_shape.specs.Shape.{Tree, leaf, fork, levels, in_order, IsEven}

-- the nodes of a tree are its sides' and one
pub nodes-fork : (at : ℕ) (l r : Tree) → length (in_order (fork at l r)) ≡ length (in_order l) + length (in_order r) + 1
unfolding in_order
nodes-fork at l r = let long = length-append (in_order l) (at ∷ in_order r) in omega (arith, long)

pub levels-leaf : levels leaf ≡ 0
unfolding levels
levels-leaf = refl

-- one more than the higher side
pub levels-above : (at most : ℕ) (l r : Tree) → levels l ≤ most → levels r ≤ most → levels (fork at l r) ≤ suc most
unfolding levels
levels-above at most l r left right = grind (arith, left, right)

power-twice : (d : ℕ) → 2 ^ suc d ≡ 2 ^ d + 2 ^ d
power-twice d = grind arith

-- a tree with fewer than 2 to the d nodes has at most twice d levels
pub even-low : (d : ℕ) (t : Tree) → IsEven t → length (in_order t) < 2 ^ d → levels t ≤ d + d
unfolding IsEven
even-low d leaf even few = let none = levels-leaf in omega (arith, none)
even-low zero (fork at l r) even few = let nodes = nodes-fork at l r in absurd (omega (arith, nodes, few))
even-low (suc d) (fork at l r) even few =
    let nodes = nodes-fork at l r in
    let twice = power-twice d in
    let left = even.0 in
    let right = even.1 in
    ⊎_elim
    (λ (less : length (in_order l) < 2 ^ d).
    let low = even-low d l even.2 less in
    let above = levels-above at (suc (d + d)) l r (omega (arith, low)) (omega (arith, low, right)) in
    omega (arith, above))
    (λ (ge : 2 ^ d ≤ length (in_order l)).
    let low = even-low d r even.3 (omega (arith, nodes, twice, few, ge)) in
    let above = levels-above at (suc (d + d)) l r (omega (arith, low, left)) (omega (arith, low)) in
    omega (arith, above))
    (cases_lt (length (in_order l)) (2 ^ d))
