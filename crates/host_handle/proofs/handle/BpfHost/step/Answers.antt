use Rattle.host_handle.specs.Answered.{Steps}
use Rattle.host_handle.proofs.Answering.{answered}
use Rattle.host_handle.proofs.handle.BpfHost.step.Goals as goal

pub returns : goal.returns
returns c =
    answered (Steps c.args.tenant c.args.steps) c.unwrap_or.result c.in-Some.ensures.host c.deref_mut.ensures.value c.put.ensures
    (λ x stands. let made = c.make_steps-last.ensures.steps x stands in (made.0, made.1, (c.make_steps-last.result, c.unwrap_or.ensures, made.2)))
