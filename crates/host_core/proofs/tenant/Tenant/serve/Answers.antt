use Rattle.host_core.proofs.tenant.Tenant.serve.Goals as goal
use Rattle.host_core.proofs.tenant.Tenant.serve.Goals.{in-CreateMap, in-Load, in-Begin, in-Step, in-Update, in-Lookup, in-Unload, in-DropMap}

pub returns : goal.returns
returns c = elim c.match-event.branch [
  | in-CreateMap w ↦ rw (w.in-CreateMap.is, c.into_reply.ensures, w.served-is, w.self-is, w.memory-is) w.create_map-served.ensures
  | in-Load w ↦ rw (w.in-Load.is, c.into_reply.ensures, w.served-is, w.self-is, w.memory-is) w.load-served.ensures
  | in-Begin w ↦ rw (w.in-Begin.is, c.into_reply.ensures, w.served-is, w.self-is, w.memory-is) w.begin-served.ensures
  | in-Step w ↦ rw (w.in-Step.is, c.into_reply.ensures, w.served-is, w.self-is, w.memory-is) w.step.ensures
  | in-Update w ↦ rw (w.in-Update.is, c.into_reply.ensures, w.served-is, w.self-is, w.memory-is) w.update-served.ensures
  | in-Lookup w ↦ rw (w.in-Lookup.is, c.into_reply.ensures, w.served-is, w.self-is, w.memory-is) w.lookup-served.ensures
  | in-Unload w ↦ rw (w.in-Unload.is, c.into_reply.ensures, w.served-is, w.self-is, w.memory-is) w.unload-served.ensures
  | in-DropMap w ↦ rw (w.in-DropMap.is, c.into_reply.ensures, w.served-is, w.self-is, w.memory-is) w.drop_map-served.ensures
]
