use Rattle.interp.proofs.Beginning.{begun_without_maps}
use Rattle.golden_compared.proofs.runs.run_to_end.Goals as goal

pub ended-requires : goal.ended-requires
ended-requires c = begun_without_maps _ _ _ c.requires c.in-Ok.ensures.begun
