use Rattle.lowering.proofs.Running.{ends_alike, states_have_origins, failures_have_origins, failures_are_kept, keeps_faultless}
use Rattle.lowering.proofs.laws.covering_keeps_runs.Goals as goal

pub returns : goal.returns
returns c = record { ends = ends_alike; states = states_have_origins; failures = failures_have_origins; kept = failures_are_kept; faultless = keeps_faultless }
