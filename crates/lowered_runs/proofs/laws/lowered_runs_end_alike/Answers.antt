use Rattle.lowered_runs.proofs.Original.{open_runs_end_alike, runs_end_alike}
use Rattle.lowered_runs.proofs.laws.lowered_runs_end_alike.Goals as goal

pub returns : goal.returns
returns c = record { runs = runs_end_alike; hosts = open_runs_end_alike }
