use Rattle.std.proofs.Common.{◌≡◌, ◌∙◌, length, arith, ap}
use Rattle.host_types.specs.Bytes.{with_part}
use Rattle.frame_arena.specs.Pages.{page_at}
use Rattle.frame_arena.proofs.Filling.{refill-same}
use Rattle.frame_arena.specs.Block.{pages_of}
use Rattle.frame_arena.proofs.Pages.{within-block, written-page, read-page, length-page}
use Rattle.frame_arena.proofs.arena.FrameArena.copy.Goals as goal

pub copy-requires-clause-from : goal.copy-requires-clause-from
copy-requires-clause-from c = within-block c.self.inside.frames c.args.from 0 4096 c.offset-from.result c.self.inside.block c.as_mut_slice.result.now c.args.self.now c.self.view_is c.self.invariant c.as_mut_slice.ensures.value c.offset-from.ensures c.requires.from (omega arith)

pub copy-requires-clause-to : goal.copy-requires-clause-to
copy-requires-clause-to c = within-block c.self.inside.frames c.args.to 0 4096 c.offset-to.result c.self.inside.block c.as_mut_slice.result.now c.args.self.now c.self.view_is c.self.invariant c.as_mut_slice.ensures.value c.offset-to.ensures c.requires.to (omega arith)

pub returns : goal.returns
returns c =
    let source = read-page c.self.inside.frames c.args.from c.offset-from.result c.self.inside.block c.as_mut_slice.result.now c.args.self.now c.self.view_is c.as_mut_slice.ensures.value c.offset-from.ensures c.requires.from in
    let wide : length c.copy.new.block ≡ length c.self.inside.block = omega (arith, c.copy.auto.block, ap length c.as_mut_slice.ensures.value) in
    ap (pages_of c.self.inside.frames) (refill-same c.self.inside.block c.copy.new.block wide ∙ c.copy.ensures ∙ ap (with_part c.as_mut_slice.result.now c.offset-to.result) source)
    ∙ written-page c.self.inside.frames c.args.to c.offset-to.result c.self.inside.block c.as_mut_slice.result.now (page_at c.args.self.now c.args.from) c.args.self.now c.self.view_is c.self.invariant c.as_mut_slice.ensures.value c.offset-to.ensures c.requires.to (length-page c.self.inside.frames c.args.from c.self.inside.block c.args.self.now c.self.view_is c.self.invariant c.requires.from)
