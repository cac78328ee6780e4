use Rattle.std.proofs.Common.{sym}
use Rattle.host_types.specs.declared.event.Event.TheVariants.{Load, Begin, HostUpdate}
use Rattle.host_core.proofs.Hosting.{hosts-uncovered, hosts-unmerge}
use Rattle.host_core.proofs.host.Host.serve.Goals as goal

pub returns-in-CreateMap : goal.returns-in-CreateMap
returns-in-CreateMap c = rw c.in-CreateMap.is c.create_map.ensures

pub returns-in-Load : goal.returns-in-Load
returns-in-Load c = rw (c.in-Load.is, sym c.as_slice.ensures) (hosts-uncovered c.args.self.now c.load.new.self (Load c.in-Load.tenant c.as_slice.result.now c.in-Load.context_size) c.load.result c.load.ensures)

pub returns-in-Begin : goal.returns-in-Begin
returns-in-Begin c = rw (c.in-Begin.is, sym c.as_slice-in-Begin.ensures) (hosts-uncovered c.args.self.now c.begin.new.self (Begin c.in-Begin.tenant c.in-Begin.program c.as_slice-in-Begin.result.now) c.begin.result c.begin.ensures)

pub returns-in-Step : goal.returns-in-Step
returns-in-Step c = rw c.in-Step.is c.serve_tenant.ensures

pub returns-in-HostUpdate : goal.returns-in-HostUpdate
returns-in-HostUpdate c = rw (c.in-HostUpdate.is, sym c.as_slice-in-HostUpdate.ensures) (hosts-uncovered c.args.self.now c.update.new.self (HostUpdate c.in-HostUpdate.tenant c.in-HostUpdate.map c.in-HostUpdate.key c.as_slice-in-HostUpdate.result.now) c.update.result c.update.ensures)

pub returns-in-HostLookup : goal.returns-in-HostLookup
returns-in-HostLookup c = rw c.in-HostLookup.is c.read.ensures

pub returns-in-Unload : goal.returns-in-Unload
returns-in-Unload c = rw c.in-Unload.is c.unload.ensures

pub returns-in-DropMap : goal.returns-in-DropMap
returns-in-DropMap c = rw c.in-DropMap.is c.drop_map.ensures

pub returns-in-Visit : goal.returns-in-Visit
returns-in-Visit c = rw c.in-Visit.is c.visit.ensures

pub returns-in-Unmerge : goal.returns-in-Unmerge
returns-in-Unmerge c = hosts-unmerge c.args.self.now c.unmerge.new.self c.args.event.now c.into_reply-in-Unmerge.result c.unmerge.result c.in-Unmerge.is c.into_reply-in-Unmerge.ensures c.unmerge.ensures
