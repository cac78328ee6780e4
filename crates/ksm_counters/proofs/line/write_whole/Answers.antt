use Rattle.std.proofs.Common.{◌-◌, ◌≤◌, [], length, take, drop, subst, sym, append-nil, arith}
use Rattle.std.proofs.Math.Seq.{take-add}
use Rattle.std.proofs.lemmas.List.{take_rest, length-drop}
use Rattle.std.specs.Io.KnownBytes.{Appends}
use Rattle.ksm_counters.proofs.Written.{Appends-join, Appends-kept, begun-so_far, on_err}
use Rattle.ksm_counters.proofs.line.write_whole.Goals as goal

pub returns-in_err-taken-clause-beginning : goal.returns-in_err-taken-clause-beginning
returns-in_err-taken-clause-beginning g c =
    let was = g.W.Write.contents c.args.writer.now in
    let half = g.W.Write.contents c.loop-written.writer in
    let is = g.W.Write.contents c.write_uninterrupted.new.writer in
    let n = c.loop-written.written in
    let bytes = c.args.bytes.now in
    on_err c.from_residual.result (begun-so_far was is n bytes c.loop-written-test.true
    (Appends-kept was half is (take n bytes) c.loop-written.invariant.1 c.in_err-taken.ensures.bytes))

pub returns-in-0-clause-beginning : goal.returns-in-0-clause-beginning
returns-in-0-clause-beginning g c =
    let was = g.W.Write.contents c.args.writer.now in
    let half = g.W.Write.contents c.loop-written.writer in
    let is = g.W.Write.contents c.write_uninterrupted.new.writer in
    let n = c.loop-written.written in
    let bytes = c.args.bytes.now in
    let nothing = subst (λ k. Appends half is (take k (take (length bytes - n) (drop n bytes)))) c.in-0.is c.in_ok-taken.ensures.bytes in
    begun-so_far was is n bytes c.loop-written-test.true
    (subst (Appends was is) (append-nil (take n bytes)) (Appends-join was half is (take n bytes) [] c.loop-written.invariant.1 nothing))

pub loop-written-preserved : goal.loop-written-preserved
loop-written-preserved g c =
    let was = g.W.Write.contents c.args.writer.now in
    let half = g.W.Write.contents c.loop-written.writer in
    let is = g.W.Write.contents c.write_uninterrupted.new.writer in
    let n = c.loop-written.written in
    let taken = c.in_ok-taken.taken in
    let bytes = c.args.bytes.now in
    let took = subst (λ xs. Appends half is (take taken xs)) (take_rest bytes n) c.in_ok-taken.ensures.bytes in
    let some = subst (λ xs. taken ≤ length xs) (take_rest bytes n) c.in_ok-taken.ensures.bound in
    let within = subst (λ k. taken ≤ k) (length-drop n bytes) some in (
      grind (arith),
      subst (Appends was is) (sym (take-add n taken bytes))
          (Appends-join was half is (take n bytes) (take taken (drop n bytes)) c.loop-written.invariant.1 took),
    )
