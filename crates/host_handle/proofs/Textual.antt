-- The shapes that C gives, and why a text isn't verified or lowered.
use Rattle.std.proofs.Common.{◌≤◌, All, List, IfSome, length, arith}
use Rattle.host_types.specs.Shapes.{IsShape}
use Rattle.verifier.specs.Verified.{AreShapes}
use Rattle.host_handle.specs.declared.structs.BpfHostShape.{BpfHostShape}
use Rattle.host_handle.specs.Texts.{shapes_given}

-- there are eight numbers of maps
pub eight_shapes : (given : List BpfHostShape) → All (λ shape. IfSome shape IsShape) (shapes_given given) → AreShapes (shapes_given given)
eight_shapes given each =
    let few : length (shapes_given given) ≤ 8 = omega arith in
    record { few = few; each = each }
