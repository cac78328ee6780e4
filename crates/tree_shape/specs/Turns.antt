-- How a tree is made even again where one side of its first node is two levels higher than the other.
use Rattle.std.specs.Prelude.{ℕ, ◌+◌, nat_lt, if◌then◌else◌}
use Rattle.tree_shape.specs.Shape.{Tree, leaf, fork, levels}

-- the left side comes up
unfoldable pub left_up : ℕ → Tree → Tree → Tree
left_up at leaf r = fork at leaf r
left_up at (fork side a leaf) r = fork side a (fork at leaf r)
left_up at (fork side a (fork top b c)) r =
    if nat_lt (levels a) (levels (fork top b c)) then fork top (fork side a b) (fork at c r) else fork side a (fork at (fork top b c) r)

-- the right side comes up
unfoldable pub right_up : ℕ → Tree → Tree → Tree
right_up at l leaf = fork at l leaf
right_up at l (fork side leaf d) = fork side (fork at l leaf) d
right_up at l (fork side (fork top b c) d) =
    if nat_lt (levels d) (levels (fork top b c)) then fork top (fork at l b) (fork side c d) else fork side (fork at l (fork top b c)) d

-- a node between two sides
unfoldable pub balanced_at : ℕ → Tree → Tree → Tree
balanced_at at l r =
    if nat_lt (levels r + 1) (levels l) then left_up at l r else (if nat_lt (levels l + 1) (levels r) then right_up at l r else fork at l r)
