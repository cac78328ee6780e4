use Rattle.host_handle.proofs.InOrder.{loads}
use Rattle.host_handle.proofs.loading.load_object.Goals as goal

pub returns-in-Ok-clause-loads : goal.returns-in-Ok-clause-loads
returns-in-Ok-clause-loads c = loads c.args.tenant c.args.mergeable c.args.object.now c.in-Ok.last c.args.host.now c.load_whole.new.host c.in-Ok.ensures.accepted c.in-Ok.ensures.loaded
