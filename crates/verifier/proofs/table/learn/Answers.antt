use Rattle.std.proofs.Common.{ap, ◌∙◌}
use Rattle.verifier_kinds.specs.declared.kind.Kind.TheVariants.{Scalar}
use Rattle.verifier_kinds.specs.declared.description.Description.{Description}
use Rattle.verifier_kinds.specs.Descriptions.{with_kind}
use Rattle.verifier.proofs.Successors.{written_twice}
use Rattle.verifier.proofs.table.learn.Goals as goal

pub returns-clause-same : goal.returns-clause-same
returns-clause-same c kind =
    ap (λ (d : Description). with_kind d c.args.dst kind) c.set_register.ensures.set
    ∙ written_twice c.args.d.now c.args.dst (Scalar c.in-Some.range) kind
