use Rattle.std.proofs.Common.{subst}
use Rattle.page_table.specs.Reads.{ReadsAs}
use Rattle.host_types.specs.declared.event.Event.TheVariants.{Begin}
use Rattle.host_core.specs.HostView.{HostView}
use Rattle.host_core.proofs.Hosting.{hosts-covered}
use Rattle.host_core.proofs.host.Host.begin.Goals as goal

pub returns : goal.returns
returns c =
    let reads : ReadsAs c.serve_tenant-reply.new.self.memory = subst (λ (view : HostView). ReadsAs view.memory) c.self.view_is c.facts.ensures in
    hosts-covered c.args.self.now c.serve_tenant-reply.new.self (Begin c.args.tenant c.args.program c.args.context.now) c.serve_tenant-reply.result c.serve_tenant-reply.ensures reads
