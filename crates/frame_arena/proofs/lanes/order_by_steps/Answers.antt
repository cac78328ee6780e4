use Rattle.std.proofs.Common.{◌∙◌}
use Rattle.frame_arena.proofs.Vectors.{order_by_rest}
use Rattle.frame_arena.proofs.lanes.order_by_steps.Goals as goal

pub returns : goal.returns
returns c = c.cmp.ensures ∙ order_by_rest c.args.a.now c.args.b.now c.alike-at.result c.alike-at.ensures.alike
