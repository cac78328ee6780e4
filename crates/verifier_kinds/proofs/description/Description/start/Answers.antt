use Rattle.verifier_kinds.proofs.Descriptions.{start_is_description}
use Rattle.verifier_kinds.proofs.description.Description.start.Goals as goal

pub returns-clause-description : goal.returns-clause-description
returns-clause-description c = start_is_description
