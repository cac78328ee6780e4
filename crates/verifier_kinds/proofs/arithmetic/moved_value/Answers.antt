use Rattle.std.proofs.Common.{rules, ◌∙◌, sym, arith}
use Rattle.std.proofs.lemmas.Int.{ints}
use Rattle.verifier_kinds.specs.Arithmetic.{signed_offset}
use Rattle.verifier_kinds.proofs.Values.{added_divided, near_number, signed_ordered, wide_sum}
use Rattle.verifier_kinds.proofs.arithmetic.moved_value.Goals as goal

pub within_value-requires-clause-ordered : goal.within_value-requires-clause-ordered
within_value-requires-clause-ordered c =
    let low = wide_sum c.args.offsets.low c.from.result c.signed_offset.result (signed_offset c.args.by c.args.by.low) c.from.ensures c.signed_offset.ensures (search rules) (near_number c.args.by c.args.by.low (search rules)) in
    let high = wide_sum c.args.offsets.high c.from-2.result c.signed_offset-2.result (signed_offset c.args.by c.args.by.high) c.from-2.ensures c.signed_offset-2.ensures (search rules) (near_number c.args.by c.args.by.high (search rules)) in
    let ends = signed_ordered c.args.by c.requires.by.ordered in
    let ordered = c.requires.offsets.normal.ordered in
    rw (low, high) (omega (arith, ints))

pub within_value-requires-clause-divided : goal.within_value-requires-clause-divided
within_value-requires-clause-divided c = λ n e.
    let low = wide_sum c.args.offsets.low c.from.result c.signed_offset.result (signed_offset c.args.by c.args.by.low) c.from.ensures c.signed_offset.ensures (search rules) (near_number c.args.by c.args.by.low (search rules)) in
    rw c.least.ensures (added_divided c.args.offsets c.args.by n c.requires.offsets.normal c.requires.by (sym low ∙ e))

pub returns-clause-result : goal.returns-clause-result
returns-clause-result c =
    let low = wide_sum c.args.offsets.low c.from.result c.signed_offset.result (signed_offset c.args.by c.args.by.low) c.from.ensures c.signed_offset.ensures (search rules) (near_number c.args.by c.args.by.low (search rules)) in
    let high = wide_sum c.args.offsets.high c.from-2.result c.signed_offset-2.result (signed_offset c.args.by c.args.by.high) c.from-2.ensures c.signed_offset-2.ensures (search rules) (near_number c.args.by c.args.by.high (search rules)) in
    rw (← low, ← high, ← c.least.ensures) c.within_value.ensures.result
