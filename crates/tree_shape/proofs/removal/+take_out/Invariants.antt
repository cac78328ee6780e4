use Rattle.tree_shape.specs.Shape.{height_at}
use Rattle.tree_shape.proofs.removal.+take_out.Given as goal

abbrev pub decreases-take_out : goal.decreases-take_out
decreases-take_out l = height_at l.nodes.now l.link
