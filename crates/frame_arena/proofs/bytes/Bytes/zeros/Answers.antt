use Rattle.std.proofs.Common.{◌≡◌, ◌∙◌, sym, ap, length, replicate, slice_set, arith, map, Some}
use Rattle.std.proofs.lemmas.List.{length-map, length-replicate}
use Rattle.frame_arena.specs.Offsets.{somes}
use Rattle.frame_arena.proofs.Filling.{begun, next-filled, all-filled, somes-map}
use Rattle.frame_arena.proofs.bytes.Bytes.zeros.Goals as goal

pub loop-index-preserved : goal.loop-index-preserved
loop-index-preserved c =
    let inv = c.loop-index.invariant in (
      c.write.ensures.0 ∙ inv.0,
      c.write.ensures.1 ∙ ap (λ l. slice_set l c.loop-index.index (Some 0)) inv.1 ∙ next-filled 0 c.loop-index.index c.args.len c.loop-index-test.true,
    )

pub invariant_of-result : goal.invariant_of-result
invariant_of-result c =
    let made = c.in_ok-base.ensures in
    let inv = c.loop-index.invariant in
    let ended : c.loop-index.index ≡ c.args.len = omega arith in
    let zeros = replicate c.args.len 0 in
    let all : c.loop-index.cells.slots ≡ map Some zeros = inv.1 ∙ ap (λ n. begun 0 n c.args.len) ended ∙ all-filled 0 c.args.len in
    record {
      filled = rw all (sym (ap (map Some) (somes-map zeros)));
      sized = ap length all ∙ length-map zeros Some ∙ length-replicate c.args.len 0;
      here = inv.0;
      freed = made.2;
      whole = made.3;
      owner = made.4;
    }

pub returns : goal.returns
returns c =
    let ended : c.loop-index.index ≡ c.args.len = omega arith in
    ap somes (c.loop-index.invariant.1 ∙ ap (λ n. begun 0 n c.args.len) ended ∙ all-filled 0 c.args.len) ∙ somes-map (replicate c.args.len 0)
