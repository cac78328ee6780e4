use Rattle.host_handle.specs.Answered.{RunsWhole}
use Rattle.host_handle.proofs.Answering.{answered}
use Rattle.host_handle.proofs.handle.BpfHost.run.Goals as goal

pub returns : goal.returns
returns c = answered (RunsWhole c.args.tenant c.args.program c.args.context.now) c.run-reply.result c.in-Some.ensures.host c.deref_mut.ensures.value c.put.ensures c.run-reply.ensures
