use Rattle.object_file.specs.Maps.{AreShapedMaps}
use Rattle.object_file.proofs.data.add_read_only.Given as goal

abbrev pub invariant-loop-number : goal.invariant-loop-number
invariant-loop-number l = AreShapedMaps l.initial.maps.maps.items → AreShapedMaps l.maps.maps.items
