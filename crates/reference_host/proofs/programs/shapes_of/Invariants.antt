use Rattle.std.proofs.Common.{◌≡◌, length, All, IfSome}
use Rattle.host_types.specs.Shapes.{IsShape}
use Rattle.reference_host.proofs.programs.shapes_of.Given as goal

abbrev pub invariant-loop-map : goal.invariant-loop-map
invariant-loop-map l = (length l.shapes ≡ 8) × All (λ shape. IfSome shape IsShape) l.shapes
