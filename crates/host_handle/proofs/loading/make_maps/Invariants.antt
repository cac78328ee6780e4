use Rattle.std.proofs.Common.{take, None}
use Rattle.host_handle.specs.Loading.{HappenUpTo, events_of_maps}
use Rattle.host_handle.proofs.loading.make_maps.Given as goal

-- the maps so far are made
abbrev pub invariant-loop-number : goal.invariant-loop-number
invariant-loop-number l = HappenUpTo (events_of_maps l.tenant l.mergeable 0 (take l.number l.maps)) None l.fn.host l.host
