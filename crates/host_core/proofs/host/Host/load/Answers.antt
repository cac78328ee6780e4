use Rattle.std.proofs.Common.{subst}
use Rattle.page_table.specs.Reads.{ReadsAs}
use Rattle.host_types.specs.declared.event.Event.TheVariants.{Load}
use Rattle.host_core.specs.HostView.{HostView}
use Rattle.host_core.proofs.Hosting.{hosts-covered}
use Rattle.host_core.proofs.host.Host.load.Goals as goal

pub returns : goal.returns
returns c =
    let reads : ReadsAs c.serve_tenant-reply.new.self.memory = subst (λ (view : HostView). ReadsAs view.memory) c.self.view_is c.facts.ensures in
    hosts-covered c.args.self.now c.serve_tenant-reply.new.self (Load c.args.tenant c.args.text.now c.args.context_size) c.serve_tenant-reply.result c.serve_tenant-reply.ensures reads
