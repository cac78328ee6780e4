use Rattle.std.proofs.Common.{◌∙◌}
use Rattle.frame_arena.proofs.Pages.{within-block, read-part}
use Rattle.frame_arena.proofs.arena.FrameArena.part.Goals as goal

pub part-requires : goal.part-requires
part-requires c = within-block c.self.inside.frames c.args.frame c.args.at c.args.size c.offset.result c.self.inside.block c.as_slice.result.now c.args.self.now c.self.view_is c.self.invariant c.as_slice.ensures c.offset.ensures c.requires.frame c.requires.within

pub returns-clause-bytes : goal.returns-clause-bytes
returns-clause-bytes c = c.part.ensures.bytes ∙ read-part c.self.inside.frames c.args.frame c.args.at c.args.size c.offset.result c.self.inside.block c.as_slice.result.now c.args.self.now c.self.view_is c.as_slice.ensures c.offset.ensures c.requires.frame c.requires.within
