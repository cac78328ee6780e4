use Rattle.std.proofs.Common.{refl}
use Rattle.host_types.specs.Bytes.{part_of}
use Rattle.frame_arena.proofs.lanes.lanes_at.Goals as goal

pub returns : goal.returns
unfolding part_of
returns c = refl
