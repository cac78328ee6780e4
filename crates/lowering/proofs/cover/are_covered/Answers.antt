use Rattle.std.proofs.Common.{◌≡◌, ℕ, true, rules}
use borrow.Author.Count.{below_more}
use Rattle.bpf_decode.specs.Text.{is_instruction}
use Rattle.lowering.specs.Covering.{IsCoveredAt}
use Rattle.lowering.proofs.cover.are_covered.Goals as goal

pub loop-at-preserved : goal.loop-at-preserved
loop-at-preserved c =
    let covered = λ (s : ℕ). is_instruction c.args.lowered.now s ≡ true → IsCoveredAt c.args.text.now c.args.lowered.now c.args.origins.now s in
    below_more covered c.loop-at.at c.loop-at.invariant (c.is_covered.ensures.0 (search rules))
