use Rattle.isolation.proofs.Isolated.{tenants_are_isolated, plenty_leaves_nothing_to_see}
use Rattle.isolation.proofs.laws.tenants_are_isolated.Goals as goal

pub returns-clause-isolated : goal.returns-clause-isolated
returns-clause-isolated c = tenants_are_isolated

pub returns-clause-plenty : goal.returns-clause-plenty
returns-clause-plenty c = plenty_leaves_nothing_to_see
