-- The shapes of the maps that a program names are within the limits.
use Rattle.std.specs.Prelude.{ℕ}
use Rattle.std.proofs.Common.{arith}
use Rattle.verifier_kinds.specs.Kinds.{IsSetting}
use Rattle.verifier.specs.Subject.{Subject}
use Rattle.verifier.specs.Verified.{HasShapes}
use Rattle.verifier.proofs.NamedMaps.{named_have_shapes}
use Rattle.interp.specs.Fits.{setting_of}

-- what kinds speak of in a program is within the limits
pub is_setting : (p : Subject) (answers : ℕ → ℕ) → HasShapes p.shapes → IsSetting (setting_of p answers)
is_setting p answers h = grind (arith, named_have_shapes)
