use Rattle.std.proofs.Common.{◌∙◌, ap, length}
use Rattle.host_types.specs.Bytes.{with_part}
use Rattle.frame_arena.proofs.Parts.{put_mid-with_part}
use Rattle.frame_arena.proofs.block.put.Goals as goal

pub returns : goal.returns
returns c =
    put_mid-with_part c.args.block.now c.copy_from_slice.new.self c.args.start (length c.args.bytes.now) (ap length c.copy_from_slice.ensures.after)
    ∙ ap (with_part c.args.block.now c.args.start) c.copy_from_slice.ensures.after
