use Rattle.std.proofs.Common.{◌≡◌, ◌∙◌, length, arith, ap}
use Rattle.host_types.specs.Pages.{zero_page}
use Rattle.frame_arena.proofs.Filling.{refill-same}
use Rattle.frame_arena.specs.Block.{pages_of}
use Rattle.frame_arena.proofs.Pages.{within-block, written-page, length-zero_page}
use Rattle.frame_arena.proofs.arena.FrameArena.clear.Goals as goal

pub clear-requires : goal.clear-requires
clear-requires c = within-block c.self.inside.frames c.args.frame 0 4096 c.offset.result c.self.inside.block c.as_mut_slice.result.now c.args.self.now c.self.view_is c.self.invariant c.as_mut_slice.ensures.value c.offset.ensures c.requires (omega arith)

pub returns : goal.returns
returns c =
    let wide : length c.clear.new.block ≡ length c.self.inside.block = omega (arith, c.clear.auto.block, ap length c.as_mut_slice.ensures.value) in
    ap (pages_of c.self.inside.frames) (refill-same c.self.inside.block c.clear.new.block wide ∙ c.clear.ensures) ∙ written-page c.self.inside.frames c.args.frame c.offset.result c.self.inside.block c.as_mut_slice.result.now zero_page c.args.self.now c.self.view_is c.self.invariant c.as_mut_slice.ensures.value c.offset.ensures c.requires length-zero_page
