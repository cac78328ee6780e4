use Rattle.std.proofs.Common.{◌≡◌, ◌≤◌, ◌∙◌, ◌+◌, ap, is_ok, arith}
use mir.Val.{bool_byte}
use Rattle.std.specs.Slice.Iter.{iter_rest}
use Rattle.engines.specs.Beginnings.{begin_event}
use Rattle.serving.proofs.RunLines.{byte-most, made-count, runs-more}
use Rattle.serving.proofs.Tellings.{upto-next}
use Rattle.serving.proofs.results.print_tenant.Goals as goal

pub loop-number-preserved : goal.loop-number-preserved
loop-number-preserved g c =
    let so_far = c.loop-number.invariant in
    let answer = c.in-Some-next.answer.now in
    let byte : c.from.result ≡ bool_byte (is_ok answer) = c.from.ensures ∙ ap bool_byte c.is_ok.ensures.value in
    let most : c.from.result ≤ 1 = rw byte (byte-most (is_ok answer)) in
    let sum : c.saturating_add-begun.result ≡ c.loop-number.begun + c.from.result =
    omega (arith, c.saturating_add-begun.ensures, so_far.few, most, c.loop-number-test.true, c.loop-number.auto.number-end) in
    let counted = sum ∙ ap (λ made. c.loop-number.begun + made) byte ∙ made-count answer c.loop-number.begun in
    record {
      few = omega (arith, sum, so_far.few, most);
      lines = upto-next _ _ _ _ _ _ _ _ _ _
          (runs-more c.args.tenant c.args.commands.now c.loop-number.number c.index-commands-number.result (begin_event c.in-Some.beginning) (iter_rest c.loop-number.replies) (iter_rest c.next.new.self)
          answer c.loop-number.begun c.saturating_add-begun.result c.loop-number-test.true c.index-commands-number.is c.in-Some.ensures.begins c.in-Some-next.ensures.steps counted)
          (rw c.reply_of.ensures at c.in_ok-print_run.ensures.refused) (rw c.reply_of.ensures at c.in_ok-print_run.ensures.written) so_far.lines;
    }
