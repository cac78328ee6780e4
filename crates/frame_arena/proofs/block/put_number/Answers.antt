use Rattle.std.proofs.Common.{◌≡◌, ◌+◌, ◌-◌, ◌∙◌, ap, length, take, drop}
use Rattle.host_types.specs.Bytes.{bytes_of, with_part}
use Rattle.host_types.proofs.LittleEndian.{length-bytes_of}
use Rattle.host_types.proofs.Lists.{length-part_of}
use Rattle.frame_arena.proofs.Parts.{put_mid-with_part, part-range}
use Rattle.frame_arena.proofs.block.put_number.Goals as goal

pub returns : goal.returns
returns c =
    let wide : length (take (c.args.start + c.args.size - c.args.start) (drop c.args.start c.args.block.now)) ≡ c.args.size =
    ap length (part-range c.args.block.now c.args.start c.args.size) ∙ length-part_of c.args.block.now c.args.start c.args.size c.requires.within in
    let written : c.write_number.new.bytes ≡ bytes_of c.args.size c.args.value = c.write_number.ensures ∙ ap (λ n. bytes_of n c.args.value) wide in
    put_mid-with_part c.args.block.now c.write_number.new.bytes c.args.start c.args.size (ap length written ∙ length-bytes_of c.args.size c.args.value)
    ∙ ap (with_part c.args.block.now c.args.start) written
