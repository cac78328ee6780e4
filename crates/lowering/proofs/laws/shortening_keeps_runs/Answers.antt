use Rattle.lowering.proofs.Shortened.{shortened_ends_alike, shortened_states_have_origins, shortened_failures_have_origins, shortened_failures_are_kept, shortened_keeps_faultless}
use Rattle.lowering.proofs.laws.shortening_keeps_runs.Goals as goal

pub returns : goal.returns
returns c =
    record {
      ends = shortened_ends_alike;
      states = shortened_states_have_origins;
      failures = shortened_failures_have_origins;
      kept = shortened_failures_are_kept;
      faultless = shortened_keeps_faultless;
    }
