use Rattle.std.proofs.Common.{vec_len}
use Rattle.loop_copies.proofs.order.Walk.leave.Given as goal

abbrev pub decreases-loop-top : goal.decreases-loop-top
decreases-loop-top l = vec_len l.self.path
