use Rattle.std.proofs.Common.{◌≡◌, ◌*◌, ◌∙◌, ap, replicate, rules, arith}
use Rattle.frame_arena.specs.Block.{pages_of}
use Rattle.frame_arena.proofs.Pages.{pages_of-zeros}
use Rattle.frame_arena.proofs.arena.FrameArena.new.Goals as goal

pub returns : goal.returns
returns c =
    let zeros : c.in_ok-block.block ≡ replicate c.offset.result 0 = search rules in
    let wide : c.offset.result ≡ c.args.frames * 4096 = omega arith in
    ap (pages_of c.args.frames) (zeros ∙ ap (λ n. replicate n 0) wide) ∙ pages_of-zeros c.args.frames
