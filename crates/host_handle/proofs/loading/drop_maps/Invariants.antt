use Rattle.std.proofs.Common.{List}
use Rattle.host_core.specs.declared.reply.Reply.{Reply}
use Rattle.host_handle.specs.Loading.{HappenWith, drops_of}
use Rattle.host_handle.proofs.loading.drop_maps.Given as goal

-- the maps so far are dropped
abbrev pub invariant-loop-map : goal.invariant-loop-map
invariant-loop-map l = (replies : List Reply) × HappenWith (drops_of l.tenant l.map) replies l.fn.host l.host
