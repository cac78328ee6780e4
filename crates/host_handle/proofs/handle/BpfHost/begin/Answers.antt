use Rattle.host_types.specs.declared.event.Event.TheVariants.{Begin}
use Rattle.host_handle.specs.Answered.{Serves}
use Rattle.host_handle.proofs.Answering.{answered}
use Rattle.host_handle.proofs.handle.BpfHost.begin.Goals as goal

pub returns : goal.returns
returns c =
    answered (Serves (Begin c.args.tenant c.args.program c.args.context.now)) c.begin-reply.result c.in-Some.ensures.host c.deref_mut.ensures.value c.put.ensures
    (λ x stands. let served = c.begin-reply.ensures x stands in (served.0, served.1, (served.2, served.3, served.4)))
