-- What a call on a text alone returns and writes.
use Rattle.std.specs.Prelude.{◌≡◌, ◌⊎◌, ℕ, ◌<◌, ◌≤◌, nat_le, ◌==◌, ◌&&◌, List, [], ◌∷◌, length, slice_get, if◌then◌else◌, Option, Some, None, option_and_then}
use Rattle.host_types.specs.Bytes.{with_part}
use Rattle.host_types.specs.declared.shape.Shape.{Shape}
use Rattle.host_types.specs.declared.fault.Refused.{Refused}
use Rattle.host_types.specs.declared.fault.Fault.{Fault}
use Rattle.host_types.specs.declared.fault.Fault.TheVariants.{Program, TooManyMaps, BadShape, BadContext, OutOfMemory}
use Rattle.host_types.specs.Refusals.{fault_number}
use Rattle.verifier.specs.Subject.{Subject, IsContextSize}
use Rattle.verifier.specs.Verified.{AreShapes}
use Rattle.lowering.specs.declared.rewrite.NotLowered.{NotLowered}
use Rattle.loop_copies.specs.declared.stop.Stop.TheVariants as stop
use Rattle.lowering.specs.Laws.{EndAlike, KeepsFaultless}
use Rattle.lowering.specs.Lowering.{VerifierAccepts, IsRefusedBy, IsLowered}
use Rattle.host_calls.specs.Programs.{IsVerdict, subject_for}
use Rattle.host_handle.specs.declared.structs.BpfHostRefused.{BpfHostRefused}
use Rattle.host_handle.specs.declared.structs.BpfHostShape.{BpfHostShape}
use Rattle.host_handle.specs.Codes.{fault_written}

-- the shape of a map that two numbers give: none where both are 0
abbrev pub shape_given : BpfHostShape → Option Shape
shape_given given =
    if given.value_size == 0 && given.entries == 0 then None else Some (record { value_size = given.value_size; entries = given.entries })

-- the shape of the map with a number
abbrev pub shape_numbered : List BpfHostShape → ℕ → Option Shape
shape_numbered given number = option_and_then shape_given (slice_get given number)

-- the shapes of maps by number: there are eight numbers
abbrev pub shapes_given : List BpfHostShape → List (Option Shape)
shapes_given given =
    shape_numbered given 0 ∷ (shape_numbered given 1 ∷ (shape_numbered given 2 ∷ (shape_numbered given 3
    ∷ (shape_numbered given 4 ∷ (shape_numbered given 5 ∷ (shape_numbered given 6 ∷ (shape_numbered given 7 ∷ [])))))))

-- a text as a program for maps of these shapes
abbrev pub subject_given : List ℕ → List BpfHostShape → ℕ → Subject
subject_given text given size = subject_for (shapes_given given) text size

-- a text may have these maps and a context of this size
pub record AreAllowed (given : List BpfHostShape) (size : ℕ) : Type 0 where
  pub few : length given ≤ 8
  pub shapes : AreShapes (shapes_given given)
  pub context : IsContextSize size

-- why it may not: the first of these that holds, in their order
abbrev pub RefusesLimits : List BpfHostShape → ℕ → Fault → Type 0
RefusesLimits given size TooManyMaps = 8 < length given
RefusesLimits given size BadShape = (length given ≤ 8) × ¬ (AreShapes (shapes_given given))
RefusesLimits given size BadContext = (length given ≤ 8) × AreShapes (shapes_given given) × ¬ (IsContextSize size)
RefusesLimits given size fault = ⊥

-- why the verifier refuses a text: for its maps or its context, or by its first fault or the first rule that it breaks
abbrev pub RefusesText : List ℕ → List BpfHostShape → ℕ → Fault → Type 0
RefusesText text given size fault =
    RefusesLimits given size fault ⊎ (AreAllowed given size × IsVerdict (subject_given text given size) fault)

-- a call is refused: it returns the refusal's number, and writes what the refusal says beside it
abbrev pub HasRefused : Fault → ℕ → BpfHostRefused → BpfHostRefused → Type 0
HasRefused fault result old new = (result ≡ fault_number fault) × (new ≡ fault_written fault old)

-- a call gives the verifier's verdict on a text
abbrev pub IsVerdictOn : List ℕ → List BpfHostShape → ℕ → ℕ → BpfHostRefused → BpfHostRefused → Type 0
IsVerdictOn text given size result old new =
    ((result ≡ 0) × (new ≡ old) × AreAllowed given size × VerifierAccepts (subject_given text given size))
    ⊎ ((fault : Fault) × HasRefused fault result old new × RefusesText text given size fault)

-- Bytes are put at the beginning of a buffer. One that is too short stays as it is, and 102 is returned.
abbrev pub put_into : List ℕ → List ℕ → List ℕ
put_into bytes old = if nat_le (length bytes) (length old) then with_part old 0 bytes else old

abbrev pub put_code : List ℕ → List ℕ → ℕ
put_code bytes old = if nat_le (length bytes) (length old) then 0 else 102

-- What the lowering makes of a text: the verifier accepts it, its runs end as those of the text, and where no run of it fails, no run of
-- the text does. A text that the verifier accepts is left as it is.
pub record IsLoweredText (text : List ℕ) (given : List BpfHostShape) (size : ℕ) (lowered : List ℕ) : Type 0 where
  pub allowed : AreAllowed given size
  pub origins : List ℕ
  pub covers : IsLowered text lowered origins
  pub runs : EndAlike text lowered
  pub faults : KeepsFaultless text lowered
  pub accepted : VerifierAccepts (subject_given lowered given size)
  pub unchanged : VerifierAccepts (subject_given text given size) → lowered ≡ text

-- a refusal of a text by the verifier, as a host answers it
abbrev pub host_fault : Refused → Fault
host_fault refused = if refused.number == 41 then OutOfMemory else Program refused

-- why a text isn't lowered, as a refusal: for want of memory, or as the verifier refuses the text
abbrev pub IsFaultOf : NotLowered → Fault → Type 0
IsFaultOf stopped fault =
    ((stopped.stop ≡ stop.OutOfMemory) × (fault ≡ OutOfMemory)) ⊎ (¬ (stopped.stop ≡ stop.OutOfMemory) × (fault ≡ host_fault stopped.refused))

abbrev pub RefusesLowering : List ℕ → List BpfHostShape → ℕ → Fault → Type 0
RefusesLowering text given size fault =
    RefusesLimits given size fault ⊎ (AreAllowed given size × ((fault ≡ OutOfMemory)
    ⊎ ((refused : Refused) × (fault ≡ host_fault refused) × IsRefusedBy (subject_given text given size) refused)))

-- A call lowers a text: it writes what the lowering makes of it and how many bytes that has, or is refused.
abbrev pub IsLoweringOf : List ℕ → List BpfHostShape → ℕ → ℕ → List ℕ → List ℕ → ℕ → ℕ → BpfHostRefused → BpfHostRefused → Type 0
IsLoweringOf text given size result old new was is before after =
    ((lowered : List ℕ) × IsLoweredText text given size lowered × (result ≡ put_code lowered old) × (new ≡ put_into lowered old)
    × (is ≡ length lowered) × (after ≡ before))
    ⊎ ((fault : Fault) × HasRefused fault result before after × RefusesLowering text given size fault × (new ≡ old) × (is ≡ was))

-- A call explains a text: it writes words, and how many bytes they have, or there is no memory for them.
abbrev pub IsExplained : ℕ → List ℕ → List ℕ → ℕ → ℕ → Type 0
IsExplained result old new was is =
    ((words : List ℕ) × (result ≡ put_code words old) × (new ≡ put_into words old) × (is ≡ length words))
    ⊎ ((result ≡ 41) × (new ≡ old) × (is ≡ was))
