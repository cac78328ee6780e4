use Rattle.std.proofs.Common.{refl}
use Rattle.verifier.proofs.WithoutMaps.{accepted_without_maps}
use Rattle.golden_compared.proofs.runs.verdict.Goals as goal

pub returns : goal.returns
returns c = accepted_without_maps c.verify.result _ refl c.verify.ensures.subject
