-- What opens a run.
use Rattle.host_types.specs.declared.event.Event.{Event}
use Rattle.host_types.specs.declared.event.Event.TheVariants.{Begin}
use Rattle.engines.specs.declared.beginning.Beginning.{Beginning}

-- the event that opens it
abbrev pub begin_event : Beginning → Event
begin_event beginning = Begin beginning.tenant beginning.program beginning.context.now
