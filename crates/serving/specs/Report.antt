-- Lines of `serve`, each of what an event of its file was answered (docs/HOST.md).
use Rattle.std.specs.Prelude.{◌≡◌, ℕ, ◌||◌, Bool, false, List, [], ◌∷◌, ◌++◌, Option}
use Rattle.std.specs.Io.KnownBytes.{Appends}
use Rattle.host_types.specs.declared.event.Event.{Event}
use Rattle.host_core.specs.declared.reply.Reply.{Reply}
use Rattle.engines.specs.Lines.{reply_lines}
use Rattle.engines.specs.Replay.{is_refusal}

-- what a line gives: what an event was answered, with the number of its run among those that its tenant began
pub data Telling : Type 0 where
  Answered : Event → ℕ → Reply → Telling

-- what is written of it
abbrev pub printed_text : Telling → List ℕ
printed_text (Answered event run reply) = reply_lines event run reply

-- whether that is a refusal
abbrev pub prints_refusal : Telling → Bool
prints_refusal (Answered event run reply) = is_refusal reply

-- what is written of all of them, in order
abbrev pub all_printed : List Telling → List ℕ
all_printed [] = []
all_printed (report ∷ tellings) = printed_text report ++ all_printed tellings

-- whether one of them is a refusal
abbrev pub print_refusal : List Telling → Bool
print_refusal [] = false
print_refusal (report ∷ tellings) = prints_refusal report || print_refusal tellings

-- these lines were written, and it was noted whether a refusal is among them
pub record HasWritten (tellings : List Telling) (before after : Bool) (old new : Option (List ℕ)) : Type 0 where
  pub refused : after ≡ (before || print_refusal tellings)
  pub written : Appends old new (all_printed tellings)
