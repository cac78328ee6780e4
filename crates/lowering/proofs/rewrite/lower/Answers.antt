use Rattle.std.proofs.Common.{◌≡◌}
use Rattle.bpf_decode.specs.Text.{out_of_memory}
use Rattle.lowering.specs.Lowering.{subject_with}
use Rattle.lowering.proofs.Shortened.{shortened_ends_alike, shortened_keeps_faultless}
use Rattle.lowering.proofs.Refusals.{accepted_is_refused_for_memory}
use Rattle.lowering.proofs.rewrite.lower.Goals as goal

pub returns-in-Ok-rewritten-clause-runs : goal.returns-in-Ok-rewritten-clause-runs
returns-in-Ok-rewritten-clause-runs c = shortened_ends_alike _ _ _ c.in-Ok-rewritten.ensures.shortened

pub returns-in-Ok-rewritten-clause-faults : goal.returns-in-Ok-rewritten-clause-faults
returns-in-Ok-rewritten-clause-faults c = shortened_keeps_faultless _ _ _ c.in-Ok-rewritten.ensures.shortened

pub returns-in-Ok-rewritten-clause-unchanged : goal.returns-in-Ok-rewritten-clause-unchanged
returns-in-Ok-rewritten-clause-unchanged c = λ accepted.
    let p = subject_with c.args.text.now c.args.shapes.now c.args.context_size in
    let scarce : c.in-Err.refused ≡ out_of_memory = accepted_is_refused_for_memory p c.in-Err.refused accepted c.in-Err.ensures.refused in
    absurd (cc (c.is_for_memory.ensures.1 scarce, c.if-is_for_memory.false))
