use Rattle.std.proofs.Common.{◌∙◌, arith}
use Rattle.frame_arena.proofs.Pages.{within-block, read-page}
use Rattle.frame_arena.proofs.arena.FrameArena.page.Goals as goal

pub part-requires : goal.part-requires
part-requires c = within-block c.self.inside.frames c.args.frame 0 4096 c.offset.result c.self.inside.block c.as_slice.result.now c.args.self.now c.self.view_is c.self.invariant c.as_slice.ensures c.offset.ensures c.requires (omega arith)

pub returns-clause-bytes : goal.returns-clause-bytes
returns-clause-bytes c = c.part.ensures.bytes ∙ read-page c.self.inside.frames c.args.frame c.offset.result c.self.inside.block c.as_slice.result.now c.args.self.now c.self.view_is c.as_slice.ensures c.offset.ensures c.requires
