use Rattle.std.proofs.Common.{Some, arith}
use Rattle.std.proofs.lemmas.Str.Pattern.{split_once_first}
use Rattle.engines.proofs.check.request.shape_of.Goals as goal

-- what stands before the colon is no number
pub returns-in_err-number_of-clause-none : goal.returns-in_err-number_of-clause-none
returns-in_err-number_of-clause-none c =
    let parts = split_once_first 58 c.args.word.now (Some (c.in_ok-value_size.value_size, c.in_ok-value_size.entries)) c.in_ok-value_size.ensures.cases (omega arith) in
    rw c.from_residual-in_err-number_of.ensures (λ shape asked. c.in_err-number_of.ensures.none shape.value_size (rw parts.1 asked.0))
