-- What `check` verifies (this project's own command, docs/HOST.md).
use Rattle.std.specs.Prelude.{◌≡◌, ℕ, ◌<◌, ◌≤◌, ◌==◌, Bool, List, ◌++◌, length, codes, decimal, All, ◌⊎◌, Option, IfSome, IsSomeAnd, Ok}
use Rattle.std.specs.Borrow.{Bor}
use Rattle.std.specs.Io.KnownBytes.{Appends}
use Rattle.std.specs.List.{AllZip, before_first, after_first}
use Rattle.std.specs.Str.Parse.{IsNumeral, digits_value}
use Rattle.hex.specs.Hex.{decode_of}
use Rattle.host_types.specs.declared.fault.Fault.{Fault}
use Rattle.host_types.specs.declared.fault.Fault.TheVariants.{TooManyMaps, BadShape, BadContext}
use Rattle.host_types.specs.declared.shape.Shape.{Shape}
use Rattle.host_types.specs.Shapes.{IsShape}
use Rattle.bpf_decode.specs.Text.{slots_of, instructions_of}
use Rattle.verifier.specs.Subject.{Subject, IsContextSize}
use Rattle.admission.specs.Reserve.{whole_need}
use Rattle.verifier.specs.Verified.{Accepted, AreShapes, IsVerified}
use Rattle.host_calls.specs.Programs.{IsVerdict, subject_for}
use Rattle.engines.specs.declared.check.request.CheckRequest.{CheckRequest}
use Rattle.host_types.specs.Refusals.{refusal_text}
use Rattle.engines.specs.Lines.{line_of}

-- a word is a decimal number up to 4294967295: digits alone
abbrev pub IsDecimal : List ℕ → ℕ → Type 0
IsDecimal word n = IsNumeral 10 word × (digits_value 10 word ≡ n) × (n ≤ 4294967295)

abbrev pub is_colon : ℕ → Bool
is_colon c = c == 58

-- a word V:E gives the shape of a map: the numbers before and after its first colon
abbrev pub IsShapeWord : List ℕ → Shape → Type 0
IsShapeWord word shape = IsDecimal (before_first is_colon word) shape.value_size × IsDecimal (after_first is_colon word) shape.entries

-- words give the shapes of maps, each that of the map with its number
abbrev pub AreShapeWords : List (Bor (List ℕ)) → List (Option Shape) → Type 0
AreShapeWords words shapes = AllZip (λ word shape. IsSomeAnd shape (IsShapeWord word.now)) words shapes

-- what the words ask for: a text as hex, the shapes of its maps, and the size of its context as a decimal number
abbrev pub IsAsked : List ℕ → List (Bor (List ℕ)) → List ℕ → CheckRequest → Type 0
IsAsked hex maps context asked =
    (decode_of hex ≡ Ok asked.text) × AreShapeWords maps asked.shapes.items × IsDecimal context asked.context_size

-- the program that is verified
abbrev pub subject_asked : CheckRequest → Subject
subject_asked asked = subject_for asked.shapes.items asked.text asked.context_size

-- why a program is refused: the first refusal, in this order, whose condition holds; that of its text comes last
abbrev pub IsCheckRefusal : CheckRequest → Fault → Type 0
IsCheckRefusal asked TooManyMaps = 8 < length asked.shapes.items
IsCheckRefusal asked BadShape = (length asked.shapes.items ≤ 8) × ¬ (All (λ shape. IfSome shape IsShape) asked.shapes.items)
IsCheckRefusal asked BadContext = AreShapes asked.shapes.items × ¬ (IsContextSize asked.context_size)
IsCheckRefusal asked fault = AreShapes asked.shapes.items × IsContextSize asked.context_size × IsVerdict (subject_asked asked) fault

-- a program is accepted: it has a lawful table
abbrev pub IsAccepted : Subject → Accepted → Type 0
IsAccepted p accepted = (accepted.subject ≡ p) × IsVerified accepted

-- a program of so many slots and instructions is accepted, for a run of which so many frames are reserved
abbrev pub acceptance_text : ℕ → ℕ → ℕ → List ℕ
acceptance_text slots instructions reserve =
    codes "accepted slots " ++ decimal slots ++ codes " instructions " ++ decimal instructions ++ codes " reserve " ++ decimal reserve

-- what is printed of an accepted program; its reserve is that of a whole run, where no page is pinned
abbrev pub acceptance_of : Accepted → List ℕ
acceptance_of v = acceptance_text (slots_of v.subject.text) (instructions_of v.subject.text) (whole_need v)

-- A status and a line give the verdict: 0 that the program is accepted; 1 that it is refused, with the refusal
-- that was found, which may be want of memory.
abbrev pub PrintsVerdict : CheckRequest → ℕ → List ℕ → Type 0
PrintsVerdict asked status line =
    ((status ≡ 0) × ((accepted : Accepted) × (line ≡ line_of (acceptance_of accepted)) × IsAccepted (subject_asked asked) accepted))
    ⊎ ((status ≡ 1) × ((fault : Fault) × (line ≡ line_of (refusal_text fault)) × IsCheckRefusal asked fault))

-- a status and what an output took give the verdict of what is asked for
abbrev pub AnswersRequest : CheckRequest → Option (List ℕ) → Option (List ℕ) → ℕ → Type 0
AnswersRequest asked old new status = (line : List ℕ) × PrintsVerdict asked status line × Appends old new line

-- a status and what an output took give the verdict of what the words ask for
abbrev pub AnswersWords : List ℕ → List (Bor (List ℕ)) → List ℕ → Option (List ℕ) → Option (List ℕ) → ℕ → Type 0
AnswersWords hex maps context old new status = (asked : CheckRequest) × IsAsked hex maps context asked × AnswersRequest asked old new status

-- the words ask for nothing that can be verified
abbrev pub AskNothing : List ℕ → List (Bor (List ℕ)) → List ℕ → Type 0
AskNothing hex maps context = (asked : CheckRequest) → IsAsked hex maps context asked → ⊥
