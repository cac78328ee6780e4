use Rattle.tree_shape.specs.Shape.{height_at}
use Rattle.tree_shape.proofs.search.+enter.Given as goal

abbrev pub decreases-enter : goal.decreases-enter
decreases-enter l = height_at l.nodes.now l.link
