use Rattle.std.proofs.Common.{arith}
use Rattle.std.proofs.lemmas.Int.{ints}
use Rattle.verifier_kinds.proofs.Values.{kept_offsets}
use Rattle.verifier_kinds.proofs.arithmetic.within_value.Goals as goal

pub returns-clause-kind : goal.returns-clause-kind
returns-clause-kind c =
    kept_offsets c.args.align _ _ c.normalized-range.result c.of.result c.normalized-range.ensures c.of.ensures (omega (arith, ints)) (omega (arith, ints))
    (c.requires.divided _ (omega (arith, ints)))
