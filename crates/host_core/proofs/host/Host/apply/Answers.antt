use Rattle.std.proofs.Common.{subst, sym}
use Rattle.page_table.specs.Reads.{ReadsAs}
use Rattle.host_core.specs.HostView.{HostView}
use Rattle.host_core.proofs.Hosting.{Hosts, hosts-covered}
use Rattle.host_core.proofs.host.Host.apply.Goals as goal
use Rattle.host_core.proofs.host.Host.apply.Goals.{in-Step, in_default}

pub returns : goal.returns
returns c =
    let hosts : Hosts c.args.self.now c.args.event.now c.match-event.reply c.match-event.self = elim c.match-event.branch [
      | in-Step w ↦ subst (λ event. Hosts c.args.self.now event c.match-event.reply c.match-event.self) (sym w.in-Step.is) (rw (w.self-is, w.reply-is) w.serve_tenant-reply.ensures)
      | in_default w ↦ rw (w.self-is, w.reply-is) w.serve-reply.ensures
    ] in
    let reads : ReadsAs c.match-event.self.memory = subst (λ (view : HostView). ReadsAs view.memory) c.self.view_is c.facts.ensures in
    hosts-covered c.args.self.now c.match-event.self c.args.event.now c.match-event.reply hosts reads
