use Rattle.host_types.specs.declared.event.Event.TheVariants.{HostUpdate}
use Rattle.host_handle.specs.Answered.{Serves}
use Rattle.host_handle.proofs.Answering.{answered}
use Rattle.host_handle.proofs.handle.BpfHost.update.Goals as goal

pub returns : goal.returns
returns c =
    answered (Serves (HostUpdate c.args.tenant c.args.map c.args.key c.args.value.now)) c.update-reply.result c.in-Some.ensures.host c.deref_mut.ensures.value c.put.ensures
    (λ x stands. let served = c.update-reply.ensures x stands in (served.0, served.1, (served.2, served.3, served.4)))
