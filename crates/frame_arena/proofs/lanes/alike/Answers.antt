use Rattle.std.proofs.Common.{◌+◌, ◌≤◌, length, arith}
use Rattle.frame_arena.proofs.Vectors.{same_further}
use Rattle.frame_arena.proofs.lanes.alike.Goals as goal

pub loop-at-preserved : goal.loop-at-preserved
loop-at-preserved c =
    let room : c.loop-at.at + 256 ≤ length c.args.a.now = omega arith in
    (room, same_further c.args.a.now c.args.b.now c.loop-at.at 256 c.loop-at.invariant.1 (c.is_same_at.ensures.0 c.if-is_same_at.true))
