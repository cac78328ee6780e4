-- What the call that reads an object file returns and writes.
use Rattle.std.specs.Prelude.{◌≡◌, ◌⊎◌, ℕ, List, map}
use Rattle.host_types.specs.declared.fault.Fault.{Fault}
use Rattle.host_types.specs.declared.fault.Fault.TheVariants.{BadContext, OutOfMemory}
use Rattle.verifier.specs.Subject.{IsContextSize}
use Rattle.inlining.specs.Whole.{IsWholeText}
use Rattle.object_file.specs.declared.map.Map.{Map}
use Rattle.object_file.specs.Maps.{AreShapedMaps}
use Rattle.host_handle.specs.declared.not_read.NotRead.{NotRead}
use Rattle.host_handle.specs.declared.not_read.NotRead.TheVariants as reason
use Rattle.host_handle.specs.declared.object.BpfHostObject.{BpfHostObject}
use Rattle.host_handle.specs.declared.structs.BpfHostRefused.{BpfHostRefused}
use Rattle.host_handle.specs.Texts.{HasRefused, IsLoweredText, RefusesLowering}
use Rattle.host_handle.specs.Written.{AreWords, IsProgramWritten, shape_for_c}

-- A program of an object file is lowered: its text has whole slots and calls no function, its maps are such as a tenant may have, and the
-- verifier accepts for them what the lowering makes of the text.
pub record IsProgramRead (size : ℕ) (lowered : List ℕ) (maps : List Map) : Type 0 where
  pub text : List ℕ
  pub whole : IsWholeText text
  pub shaped : AreShapedMaps maps
  pub lowers : IsLoweredText text (map shape_for_c maps) size lowered

-- the lowering of such a text is refused; a rule's slot is one of the text before it
abbrev pub RefusesTextOfObject : ℕ → Fault → Type 0
RefusesTextOfObject size fault =
    (text : List ℕ) × (maps : List Map) × IsWholeText text × AreShapedMaps maps × RefusesLowering text (map shape_for_c maps) size fault

-- why none is read: no context may have this size; or else for want of memory, or as the lowering is refused
abbrev pub RefusesObject : ℕ → Fault → Type 0
RefusesObject size fault =
    ((fault ≡ BadContext) × ¬ (IsContextSize size)) ⊎ (IsContextSize size × ((fault ≡ OutOfMemory) ⊎ RefusesTextOfObject size fault))

-- a call that reads no program returns 103, as the file isn't taken, or is refused
abbrev pub AnswersReason : ℕ → ℕ → BpfHostRefused → BpfHostRefused → Type 0
AnswersReason size result before after =
    ((result ≡ 103) × IsContextSize size × (after ≡ before)) ⊎ ((fault : Fault) × HasRefused fault result before after × RefusesObject size fault)

-- a reason that holds
abbrev pub IsReason : ℕ → NotRead → Type 0
IsReason size reason.BadContext = ¬ (IsContextSize size)
IsReason size reason.OutOfMemory = IsContextSize size
IsReason size (reason.File words) = IsContextSize size
IsReason size (reason.Text fault words) = IsContextSize size × RefusesTextOfObject size fault

-- a reason that lies in the file, or want of memory
abbrev pub IsOfFile : NotRead → Type 0
IsOfFile reason.BadContext = ⊥
IsOfFile reason.OutOfMemory = Unit {0}
IsOfFile (reason.File words) = Unit {0}
IsOfFile (reason.Text fault words) = ⊥

-- the refusal of a text, or want of memory for its words
abbrev pub IsOfText : Fault → NotRead → Type 0
IsOfText fault reason.OutOfMemory = Unit {0}
IsOfText fault (reason.Text refused words) = refused ≡ fault
IsOfText fault other = ⊥

-- A call is refused: it writes words for that, and no other member of the object.
abbrev pub IsObjectRefused : ℕ → ℕ → BpfHostObject → BpfHostObject → BpfHostRefused → BpfHostRefused → Type 0
IsObjectRefused size result old new before after =
    (new ≡ record old { why = new.why }) × ((words : List ℕ) × AreWords words old.why new.why) × AnswersReason size result before after

-- A call reads an object file: it writes a program with its maps, or is refused.
abbrev pub IsObjectRead : ℕ → ℕ → BpfHostObject → BpfHostObject → BpfHostRefused → BpfHostRefused → Type 0
IsObjectRead size result old new before after =
    ((lowered : List ℕ) × (maps : List Map) × IsProgramRead size lowered maps × (result ≡ 0) × IsProgramWritten lowered maps size old new
    × (after ≡ before))
    ⊎ IsObjectRefused size result old new before after
