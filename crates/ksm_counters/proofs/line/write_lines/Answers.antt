use Rattle.std.proofs.Common.{subst}
use Rattle.std.proofs.lemmas.List.{take_all}
use Rattle.std.specs.Io.KnownBytes.{Appends}
use Rattle.ksm_counters.specs.Lines.{lines_text}
use Rattle.ksm_counters.proofs.Lines.{begun-more, begun-none, begun-within}
use Rattle.ksm_counters.proofs.Written.{Appends-none, on_err}
use Rattle.ksm_counters.proofs.line.write_lines.Goals as goal

pub loop-line-init : goal.loop-line-init
loop-line-init g c =
    let was = g.W.Write.contents c.args.writer.now in
    begun-none was c.args.lines.now (Appends-none was)

pub returns-in_err-write-clause-beginning : goal.returns-in_err-write-clause-beginning
returns-in_err-write-clause-beginning g c =
    let was = g.W.Write.contents c.args.writer.now in
    let half = g.W.Write.contents c.loop-line.writer in
    let is = g.W.Write.contents c.write.new.writer in
    on_err c.from_residual.result
    (begun-within was half is c.args.lines.now c.loop-line.line-index _ c.loop-line-test.true c.loop-line.invariant c.in_err-write.ensures.beginning)

pub loop-line-preserved : goal.loop-line-preserved
loop-line-preserved g c =
    let was = g.W.Write.contents c.args.writer.now in
    let half = g.W.Write.contents c.loop-line.writer in
    let is = g.W.Write.contents c.write.new.writer in
    begun-more was half is c.args.lines.now c.loop-line.line-index _ c.loop-line-test.true c.loop-line.invariant c.in_ok-write.ensures.line

pub returns-clause-lines : goal.returns-clause-lines
returns-clause-lines g c =
    let was = g.W.Write.contents c.args.writer.now in
    let is = g.W.Write.contents c.loop-line.writer in
    subst (λ lines. Appends was is (lines_text lines)) (take_all c.loop-line.line-index c.args.lines.now c.loop-line-test.false) c.loop-line.invariant
