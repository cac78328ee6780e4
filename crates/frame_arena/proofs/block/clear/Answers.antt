use Rattle.std.proofs.Common.{◌≡◌, ◌+◌, ◌-◌, ◌∙◌, ap, length, take, drop, replicate}
use Rattle.host_types.specs.Bytes.{with_part}
use Rattle.host_types.specs.Pages.{zero_page}
use Rattle.host_types.proofs.Lists.{length-part_of}
use Rattle.frame_arena.proofs.Pages.{length-zero_page}
use Rattle.frame_arena.proofs.Parts.{put_mid-with_part, part-range}
use Rattle.frame_arena.proofs.block.clear.Goals as goal

pub returns : goal.returns
unfolding zero_page
returns c =
    let wide : length (take (c.args.start + 4096 - c.args.start) (drop c.args.start c.args.block.now)) ≡ 4096 =
    ap length (part-range c.args.block.now c.args.start 4096) ∙ length-part_of c.args.block.now c.args.start 4096 c.requires in
    let zeros : c.fill.new.self ≡ zero_page = c.fill.ensures.after (λ y e. e) ∙ ap (λ n. replicate n 0) wide in
    put_mid-with_part c.args.block.now c.fill.new.self c.args.start 4096 (ap length zeros ∙ length-zero_page)
    ∙ ap (with_part c.args.block.now c.args.start) zeros
