use Rattle.host_handle.specs.Answered.{VisitsAndCounts}
use Rattle.host_handle.proofs.Answering.{answered}
use Rattle.host_handle.proofs.handle.BpfHost.visit.Goals as goal

pub returns : goal.returns
returns c =
    answered (VisitsAndCounts c.args.visits) c.visit_all-reply.result c.in-Some.ensures.host c.deref_mut.ensures.value c.put.ensures c.visit_all-reply.ensures
