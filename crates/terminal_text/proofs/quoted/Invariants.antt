use Rattle.std.specs.String.{string_bytes}
use Rattle.terminal_text.specs.Plain.{IsPlainText}
use Rattle.terminal_text.proofs.quoted.Given as goal

abbrev pub invariant-loop-c : goal.invariant-loop-c
invariant-loop-c l = IsPlainText (string_bytes l.shown)
