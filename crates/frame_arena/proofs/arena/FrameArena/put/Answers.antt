use Rattle.std.proofs.Common.{◌≡◌, ◌∙◌, length, arith, ap}
use Rattle.frame_arena.proofs.Filling.{refill-same}
use Rattle.frame_arena.specs.Block.{pages_of}
use Rattle.frame_arena.proofs.Pages.{within-block, written-part}
use Rattle.frame_arena.proofs.arena.FrameArena.put.Goals as goal

pub put-requires : goal.put-requires
put-requires c = within-block c.self.inside.frames c.args.frame c.args.at (length c.args.bytes.now) c.offset-start.result c.self.inside.block c.as_mut_slice.result.now c.args.self.now c.self.view_is c.self.invariant c.as_mut_slice.ensures.value c.offset-start.ensures c.requires.frame c.requires.within

pub returns : goal.returns
returns c =
    let wide : length c.put.new.block ≡ length c.self.inside.block = omega (arith, c.put.auto.block, ap length c.as_mut_slice.ensures.value) in
    ap (pages_of c.self.inside.frames) (refill-same c.self.inside.block c.put.new.block wide ∙ c.put.ensures) ∙ written-part c.self.inside.frames c.args.frame c.args.at c.offset-start.result c.self.inside.block c.as_mut_slice.result.now c.args.bytes.now c.args.self.now c.self.view_is c.self.invariant c.as_mut_slice.ensures.value c.offset-start.ensures c.requires.frame c.requires.within
