use Rattle.std.specs.String.{string_bytes}
use Rattle.std.specs.Char.Iter.{escape_rest}
use Rattle.terminal_text.proofs.Plain.{escape_plain, first_plain, plain_pushed}
use Rattle.terminal_text.proofs.push_plain.Goals as goal

pub loop-escaped-init : goal.loop-escaped-init
loop-escaped-init c =
    let rest = c.escape_unicode-escaped-items.ensures.rest in
    let same = c.into_iter-escaped-iterator.ensures.into_iter_gives in
    (rw (same, rest) (escape_plain c.args.c), λ plain. plain)

pub loop-escaped-preserved : goal.loop-escaped-preserved
loop-escaped-preserved c =
    let rest = c.in-Some.ensures.steps in
    let front = first_plain (escape_rest c.loop-escaped.escaped-iterator) c.in-Some.escaped (escape_rest c.next.new.self) rest.1.0 c.loop-escaped.invariant.0 in (
      front.1,
      λ plain. rw (c.in_ok-push-2.ensures.bytes)
          (plain_pushed (string_bytes c.loop-escaped.shown) c.in-Some.escaped (c.loop-escaped.invariant.1 plain) front.0),
    )

pub returns-then-is_plain : goal.returns-then-is_plain
returns-then-is_plain c = λ plain. rw (c.in_ok-push.ensures.bytes)
    (plain_pushed (string_bytes c.args.shown.now) c.args.c plain (c.is_plain.ensures.0 c.if-is_plain.true))
