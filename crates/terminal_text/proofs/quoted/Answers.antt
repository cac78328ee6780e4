use Rattle.std.specs.String.{string_bytes}
use Rattle.terminal_text.proofs.Plain.{nothing_plain, plain_dotted}
use Rattle.terminal_text.proofs.quoted.Goals as goal
use Rattle.terminal_text.proofs.quoted.Goals.{then-count-gt-MOST+in_ok-push_str, else-count-gt-MOST}

pub loop-c-init : goal.loop-c-init
loop-c-init c = rw (c.new-shown.ensures.bytes) nothing_plain

pub loop-c-preserved : goal.loop-c-preserved
loop-c-preserved c = c.in_ok-push_plain.ensures c.loop-c.invariant

pub returns : goal.returns
returns c =
    elim c.if-count-gt-MOST.branch [
      | then-count-gt-MOST+in_ok-push_str w ↦ rw (w.shown-is, w.in_ok-push_str.ensures.bytes)
          (plain_dotted (string_bytes c.loop-c.shown) c.loop-c.invariant)
      | else-count-gt-MOST w ↦ rw (w.shown-is) c.loop-c.invariant
    ]
