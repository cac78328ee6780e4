use Rattle.std.proofs.Common.{refl, sym, subst}
use Rattle.verifier_kinds.specs.Descriptions.{IsDescription, with_answer_known}
use Rattle.verifier_kinds.proofs.Descriptions.{resolved_is_description}
use Rattle.verifier_kinds.proofs.description.Description.resolve.Goals as goal

pub returns-clause-with_answer_known : goal.returns-clause-with_answer_known
unfolding with_answer_known
returns-clause-with_answer_known c = rw (c.resolved_registers-self.ensures, c.resolved_stack-self.ensures) refl

pub returns-clause-description : goal.returns-clause-description
returns-clause-description c = λ p q. subst IsDescription (sym (returns-clause-with_answer_known c)) (resolved_is_description c.args.call c.args.kind c.args.self.now q p)
