use Rattle.tenant_runs.proofs.Rooms.{there_below}
use Rattle.tenant_runs.proofs.needs.look_up.Goals as goal

pub lookup-requires-clause-map : goal.lookup-requires-clause-map
lookup-requires-clause-map c = there_below _ c.args.map c.in-Some.shape c.requires (c.in-Some.ensures.shape)
