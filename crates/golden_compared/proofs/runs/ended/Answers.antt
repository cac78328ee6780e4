use Rattle.golden_compared.proofs.runs.ended.Goals as goal

pub steps-preserved : goal.steps-preserved
steps-preserved c =
    let (s, stands) = c.steps.invariant in
    let (t, makes, same, quiet, less, next) = c.in-Private.ensures.follows s stands in
    (t, next)
