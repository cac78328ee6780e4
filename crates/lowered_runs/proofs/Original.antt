-- An end of a lowered text is one of the original.
use Rattle.std.proofs.Common.{subst}
use Rattle.interp.specs.Machine.{Exits}
use Rattle.host_core.specs.World.{Beginning, Leads}
use Rattle.lowered_runs.specs.Laws.{OpenRunsEndAsTheOriginal, RunsEndAsTheOriginal}

pub runs_end_alike : RunsEndAsTheOriginal
runs_end_alike text v context old new reply alike run = (alike context old.maps reply.ret new.maps).1 (reply.steps, run.runs)

pub open_runs_end_alike : OpenRunsEndAsTheOriginal
open_runs_end_alike text context maps r t number steps w alike begun (left, leads, few, there) =
    let ends = subst (λ (beginning : Beginning). Leads r.program.text beginning steps (Exits number left)) begun leads in
    (left, (alike context maps number left).1 (steps, ends), there)
