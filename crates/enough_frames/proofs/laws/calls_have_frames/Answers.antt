use Rattle.enough_frames.proofs.Calls.{calls}
use Rattle.enough_frames.proofs.Runs.{many-have}
use Rattle.enough_frames.proofs.Systems.{balances}
use Rattle.enough_frames.proofs.laws.calls_have_frames.Goals as goal

pub returns-clause-next : goal.returns-clause-next
returns-clause-next c = λ x x' call reply stands enough happens.
    calls x call reply x' (balances c.args.host.now x c.facts.ensures stands) enough happens

pub returns-clause-many : goal.returns-clause-many
returns-clause-many c = λ x x' t k contexts size rets n reply stands enough runs.
    many-have x x' t k contexts size rets n reply (balances c.args.host.now x c.facts.ensures stands).kept enough runs
