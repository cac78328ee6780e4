-- The levels of a node, reported of its far and near side.
use Rattle.std.proofs.Common.{◌≡◌, ℕ, suc, Bool, true, false, max, refl, ap, arith}
use Rattle.tree_shape.specs.Shape.{Tree, fork, levels}
use Rattle.tree_shape.specs.Sides.{sided}

pub levels-sided : (s : Bool) (at : ℕ) (t u : Tree) → levels (sided s (fork at) t u) ≡ suc (max (levels t) (levels u))
unfolding levels
levels-sided true at t u = refl
levels-sided false at t u = ap suc (omega arith)
