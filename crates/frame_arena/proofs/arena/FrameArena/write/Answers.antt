use Rattle.std.proofs.Common.{◌≤◌, ◌≡◌, ◌∙◌, ◌+◌, length, arith, ap}
use Rattle.host_types.specs.Bytes.{bytes_of}
use Rattle.host_types.proofs.LittleEndian.{length-bytes_of}
use Rattle.frame_arena.proofs.Filling.{refill-same}
use Rattle.frame_arena.specs.Block.{pages_of}
use Rattle.frame_arena.proofs.Pages.{within-block, written-part}
use Rattle.frame_arena.proofs.arena.FrameArena.write.Goals as goal

pub put_number-requires-clause-within : goal.put_number-requires-clause-within
put_number-requires-clause-within c = within-block c.self.inside.frames c.args.frame c.args.at c.args.size c.offset-start.result c.self.inside.block c.as_mut_slice.result.now c.args.self.now c.self.view_is c.self.invariant c.as_mut_slice.ensures.value c.offset-start.ensures c.requires.frame c.requires.within

pub returns : goal.returns
returns c =
    let wide : length c.put_number.new.block ≡ length c.self.inside.block = omega (arith, c.put_number.auto.block, ap length c.as_mut_slice.ensures.value) in
    let fits : c.args.at + length (bytes_of c.args.size c.args.value) ≤ 4096 = rw (length-bytes_of c.args.size c.args.value) c.requires.within in
    ap (pages_of c.self.inside.frames) (refill-same c.self.inside.block c.put_number.new.block wide ∙ c.put_number.ensures) ∙ written-part c.self.inside.frames c.args.frame c.args.at c.offset-start.result c.self.inside.block c.as_mut_slice.result.now (bytes_of c.args.size c.args.value) c.args.self.now c.self.view_is c.self.invariant c.as_mut_slice.ensures.value c.offset-start.ensures c.requires.frame fits
