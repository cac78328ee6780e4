-- Bytes of inert text, one after the other.
use Rattle.std.proofs.Common.{arith, ℕ, List, [], ◌∷◌, ◌++◌}
use Rattle.std.specs.Prelude.{All, Option}
use Rattle.std.specs.Io.KnownBytes.{Appends}
use Rattle.std.proofs.lemmas.List.Elements.{All-push}
use Rattle.html_page.specs.Inert.{AppendsInert, IsInert}

-- there are none
pub no_bytes : All IsInert []
no_bytes k d within = absurd (omega (arith, within))

-- a further byte
pub pushed_byte : (bytes : List ℕ) (byte : ℕ) → All IsInert bytes → IsInert byte → All IsInert (bytes ++ byte ∷ [])
pushed_byte bytes byte = All-push IsInert bytes byte

-- bytes that are inert were written
pub appended-inert : (was is : Option (List ℕ)) (bytes : List ℕ) → All IsInert bytes → Appends was is bytes → AppendsInert was is
appended-inert was is bytes inert appended = (bytes, inert, appended)
