use Rattle.host_core.proofs.Joined.{AllHappen-join, AllHappen-split}
use Rattle.host_core.proofs.host.lists_join.Goals as goal

pub returns-clause-joined : goal.returns-clause-joined
returns-clause-joined c = AllHappen-join

pub returns-clause-split : goal.returns-clause-split
returns-clause-split c = AllHappen-split
