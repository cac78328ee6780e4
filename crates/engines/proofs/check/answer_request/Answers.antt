use Rattle.std.proofs.Common.{refl, inl, inr}
use Rattle.engines.specs.Check.{acceptance_of}
use Rattle.host_types.specs.Refusals.{refusal_text}
use Rattle.engines.specs.Lines.{line_of}
use Rattle.engines.proofs.check.answer_request.Goals as goal

pub returns-in_ok-print_accepted-in-Ok-clause-verdict : goal.returns-in_ok-print_accepted-in-Ok-clause-verdict
returns-in_ok-print_accepted-in-Ok-clause-verdict g c = (
  line_of (acceptance_of c.in-Ok.program),
  inl (refl, (c.in-Ok.program, refl, c.in-Ok.ensures.accepted)),
  c.in_ok-print_accepted-in-Ok.ensures.line,
)

pub returns-in_ok-write_refusal-in-Err-clause-verdict : goal.returns-in_ok-write_refusal-in-Err-clause-verdict
returns-in_ok-write_refusal-in-Err-clause-verdict g c = (
  line_of (refusal_text c.in-Err.fault),
  inr (refl, (c.in-Err.fault, refl, c.in-Err.ensures.refused)),
  c.in_ok-write_refusal-in-Err.ensures.line,
)
