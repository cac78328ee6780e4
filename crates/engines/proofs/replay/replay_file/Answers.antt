use Rattle.std.proofs.Common.{refl}
use Rattle.engines.specs.Replay.{refused}
use Rattle.engines.proofs.replay.replay_file.Goals as goal

pub returns-in_ok-refuse-in-Err-clause-replayed : goal.returns-in_ok-refuse-in-Err-clause-replayed
returns-in_ok-refuse-in-Err-clause-replayed g c =
    refused c.in-Err.fault c.in-Err.ensures.refused refl c.in_ok-refuse-in-Err.ensures.line
