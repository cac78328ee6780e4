use Rattle.std.specs.Prelude.{All}
use Rattle.std.specs.String.{string_bytes}
use Rattle.std.specs.Char.Iter.{escape_rest}
use Rattle.terminal_text.specs.Plain.{IsPlain, IsPlainText}
use Rattle.terminal_text.proofs.push_plain.Given as goal

abbrev pub invariant-loop-escaped : goal.invariant-loop-escaped
invariant-loop-escaped l = All IsPlain (escape_rest l.escaped-iterator)
    × (IsPlainText (string_bytes l.initial.shown) → IsPlainText (string_bytes l.shown))
