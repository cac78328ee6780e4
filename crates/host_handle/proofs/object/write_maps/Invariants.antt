use Rattle.host_handle.proofs.WrittenMaps.{AreFirstWritten}
use Rattle.host_handle.proofs.object.write_maps.Given as goal

abbrev pub invariant-loop-number : goal.invariant-loop-number
invariant-loop-number l = AreFirstWritten l.maps l.fn.written l.written l.number
