-- A way down an even tree has at most two levels for each binary digit of the number of its nodes.
use Rattle.std.proofs.Common.{ℕ, ◌*◌, ◌^◌, ◌<◌, ◌≤◌, List, length, arith}
use Rattle.tree_shape.specs.declared.Node.{Node}
use Rattle.tree_shape.specs.Shape.{Tree, in_order, IsEven, Holds, height_at}
use Rattle.tree_shape.proofs.Low.{even-low}
use Rattle.tree_shape.proofs.Holding.{holds-height}

pub height-few : (nodes : List Node) (link : ℕ) (t : Tree) (digits : ℕ) → Holds nodes link t → IsEven t → length (in_order t) < 2 ^ digits → height_at nodes link ≤ 2 * digits
height-few nodes link t digits holds even few =
    let one = holds-height nodes link t holds in
    let low = even-low digits t even few in
    omega (arith, one, low)
