use Rattle.std.proofs.Common.{ℕ, IfNone, subst}
use Rattle.verifier.specs.Subject.{Subject}
use Rattle.verifier.specs.Table.{tight_table, Breaks}
use Rattle.knowledge.proofs.knowledge.Knowledge.breaks.Goals as goal

pub returns-clause-none : goal.returns-clause-none
returns-clause-none c =
    subst (λ (p : Subject). IfNone c.broken.result ((rule : ℕ) → Breaks p (tight_table p) c.args.slot rule → ⊥)) c.self.view_is c.broken.ensures.none
