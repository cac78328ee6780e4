use Rattle.verifier.proofs.Reserves.{reserve_covers, reserve_end}
use Rattle.verifier.proofs.laws.reserve_falls.Goals as goal

pub returns : goal.returns
returns c = record { step = reserve_covers; end = reserve_end }
