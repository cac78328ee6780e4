use Rattle.std.proofs.Common.{◌≡◌, ◌∙◌, ap, sym, arith}
use Rattle.host_types.specs.Bytes.{part_of}
use Rattle.host_types.proofs.Lists.{length-part_of}
use Rattle.frame_arena.proofs.Parts.{with_part-drop, with_part-take, part_of-take, part_of-following, with_part-same}
use Rattle.frame_arena.proofs.block.copy.Goals as goal

pub returns-then-from-to : goal.returns-then-from-to
returns-then-from-to c =
    let block = c.args.block.now in
    let parts = c.split_at_mut-low.ensures in
    let page : c.part.result.now ≡ part_of block c.args.from 4096 =
    c.part.ensures.bytes ∙ ap (λ l. part_of l c.args.from 4096) parts.front ∙ part_of-take block c.args.from 4096 c.args.to (omega arith) in
    rw (c.put.ensures, page, parts.front, parts.back) (with_part-drop block (part_of block c.args.from 4096) c.args.to)

pub returns-then-to-from : goal.returns-then-to-from
returns-then-to-from c =
    let block = c.args.block.now in
    let parts = c.split_at_mut-low-then-to-from.ensures in
    let page : c.part-then-to-from.result.now ≡ part_of block c.args.from 4096 =
    c.part-then-to-from.ensures.bytes ∙ ap (λ l. part_of l 0 4096) parts.back ∙ part_of-following block c.args.from 4096 in
    let wide = length-part_of block c.args.from 4096 c.requires.from in
    rw (c.put-then-to-from.ensures, page, parts.front, parts.back) (with_part-take block (part_of block c.args.from 4096) c.args.to c.args.from (omega (arith, wide)) (omega arith))

pub returns-else-to-from : goal.returns-else-to-from
returns-else-to-from c =
    let same : c.args.from ≡ c.args.to = omega arith in
    rw same (sym (with_part-same c.args.block.now c.args.to 4096 c.requires.to))
