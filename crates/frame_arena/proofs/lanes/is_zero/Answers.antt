use Rattle.std.proofs.Common.{◌≡◌, ◌+◌, ◌≤◌, ◌%◌, ◌∙◌, refl, sym, ap, arith}
use Rattle.host_types.specs.Bytes.{part_of}
use Rattle.frame_arena.proofs.Vectors.{part_of-zero_page, zero_page-from, zeros_further}
use Rattle.frame_arena.proofs.lanes.is_zero.Goals as goal

pub returns-then-not-is_zero_at : goal.returns-then-not-is_zero_at
returns-then-not-is_zero_at c =
    let room : c.loop-at.at + 256 ≤ 4096 = omega (arith, c.loop-at.invariant, c.loop-at-test.true) in
    (λ t. absurd cc, λ e. sym c.if-not-is_zero_at.true ∙ c.is_zero_at.ensures.1 (ap (λ l. part_of l c.loop-at.at 256) e ∙ part_of-zero_page c.loop-at.at room))

pub loop-at-preserved : goal.loop-at-preserved
loop-at-preserved c =
    let room : c.loop-at.at + 256 ≤ 4096 = omega (arith, c.loop-at.invariant, c.loop-at-test.true) in
    let further : (c.loop-at.at + 256) % 256 ≡ 0 = omega (arith, c.loop-at.invariant) in
    (room, further, zeros_further c.args.page.now c.loop-at.at 256 c.loop-at.invariant.2 (c.is_zero_at.ensures.0 c.if-not-is_zero_at.false))

pub returns : goal.returns
returns c =
    let end : c.loop-at.at ≡ 4096 = omega (arith, c.loop-at.invariant, c.loop-at-test.false) in
    (λ _. zero_page-from c.args.page.now c.loop-at.at c.requires end c.loop-at.invariant.2, λ _. refl)
