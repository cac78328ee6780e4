use Rattle.host_types.proofs.Lists.{length-part_of}
use Rattle.frame_arena.proofs.Vectors.{zeros-xor}
use Rattle.frame_arena.proofs.lanes.apart.Goals as goal

pub returns : goal.returns
returns c =
    rw (c.lanes_at.ensures, c.lanes_at-2.ensures)
    (zeros-xor 64 _ _ (length-part_of c.args.a.now c.args.at 64 c.requires.a) (length-part_of c.args.b.now c.args.at 64 c.requires.b))
