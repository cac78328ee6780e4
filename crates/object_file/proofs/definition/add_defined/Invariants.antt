use Rattle.object_file.specs.Maps.{AreShapedMaps}
use Rattle.object_file.proofs.definition.add_defined.Given as goal

abbrev pub invariant-loop-variable : goal.invariant-loop-variable
invariant-loop-variable l = AreShapedMaps l.initial.maps.maps.items → AreShapedMaps l.maps.maps.items
