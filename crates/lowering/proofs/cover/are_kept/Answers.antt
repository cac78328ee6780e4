use Rattle.std.proofs.Common.{◌≡◌, ℕ, true, rules}
use borrow.Author.Count.{below_more}
use Rattle.bpf_decode.specs.Text.{is_instruction}
use Rattle.lowering.specs.Covering.{KeepsOriginAt}
use Rattle.lowering.proofs.cover.are_kept.Goals as goal

pub loop-at-preserved : goal.loop-at-preserved
loop-at-preserved c =
    let kept = λ (s : ℕ). is_instruction c.args.whole.now s ≡ true → KeepsOriginAt c.args.whole.now c.args.lowered.now c.args.far.now c.args.near.now c.args.origins.now s in
    below_more kept c.loop-at.at c.loop-at.invariant (c.is_kept.ensures.0 (search rules))
