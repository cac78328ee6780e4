use Rattle.tree_shape.specs.Shape.{height_at}
use Rattle.tree_shape.proofs.removal.+pop_least.Given as goal

abbrev pub decreases-pop_least : goal.decreases-pop_least
decreases-pop_least l = height_at l.nodes.now l.link
