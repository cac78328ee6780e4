use Rattle.std.proofs.Common.{◌∙◌, ap, length}
use Rattle.host_types.proofs.Lists.{length-part_of}
use Rattle.frame_arena.proofs.Parts.{part-range}
use Rattle.frame_arena.proofs.block.part.Goals as goal

pub returns-clause-bytes : goal.returns-clause-bytes
returns-clause-bytes c = part-range c.args.block.now c.args.start c.args.size

pub returns-clause-sized : goal.returns-clause-sized
returns-clause-sized c = ap length (part-range c.args.block.now c.args.start c.args.size) ∙ length-part_of c.args.block.now c.args.start c.args.size c.requires
