use Rattle.std.proofs.Common.{[], ◌∷◌, ◌++◌, ◌∙◌, codes, decimal, subst}
use Rattle.std.proofs.lemmas.Result.{on_err_weaker}
use Rattle.std.specs.Io.KnownBytes.{Appends}
use Rattle.ksm_counters.specs.Lines.{AppendsBeginning}
use Rattle.ksm_counters.proofs.Written.{Appends-join, begun-after, begun-before, on_err}
use Rattle.ksm_counters.proofs.line.Line.write.Goals as goal

pub returns-in_err-write_whole-clause-beginning : goal.returns-in_err-write_whole-clause-beginning
returns-in_err-write_whole-clause-beginning g c =
    let was = g.W.Write.contents c.args.writer.now in
    let is = g.W.Write.contents c.write_whole.new.writer in
    let line = c.args.self.now in
    on_err c.from_residual.result
    (begun-before was is (line.name.now ++ codes " " ++ decimal line.value) (10 ∷ [])
    (begun-before was is (line.name.now ++ codes " ") (decimal line.value)
    (begun-before was is line.name.now (codes " ")
    (subst (AppendsBeginning was is) c.as_bytes.ensures.value c.in_err-write_whole.ensures.beginning))))

pub returns-in_err-write_whole-2-clause-beginning :
    goal.returns-in_err-write_whole-2-clause-beginning
returns-in_err-write_whole-2-clause-beginning g c =
    let was = g.W.Write.contents c.args.writer.now in
    let named = g.W.Write.contents c.write_whole.new.writer in
    let is = g.W.Write.contents c.write_whole-2.new.writer in
    let line = c.args.self.now in
    let name = subst (Appends was named) c.as_bytes.ensures.value c.in_ok-write_whole.ensures.whole in
    on_err c.from_residual-in_err-write_whole-2.result
    (begun-before was is (line.name.now ++ codes " " ++ decimal line.value) (10 ∷ [])
    (begun-before was is (line.name.now ++ codes " ") (decimal line.value)
    (begun-after was named is line.name.now (codes " ") name c.in_err-write_whole-2.ensures.beginning)))

pub returns-in_err-write_whole-3-clause-beginning :
    goal.returns-in_err-write_whole-3-clause-beginning
returns-in_err-write_whole-3-clause-beginning g c =
    let was = g.W.Write.contents c.args.writer.now in
    let named = g.W.Write.contents c.write_whole.new.writer in
    let spaced = g.W.Write.contents c.write_whole-2.new.writer in
    let is = g.W.Write.contents c.write_whole-3.new.writer in
    let line = c.args.self.now in
    let name = subst (Appends was named) c.as_bytes.ensures.value c.in_ok-write_whole.ensures.whole in
    let front = Appends-join was named spaced line.name.now (codes " ") name c.in_ok-write_whole-2.ensures.whole in
    let digits = subst (AppendsBeginning spaced is) (c.as_bytes-2.ensures.value ∙ c.format.ensures.text) c.in_err-write_whole-3.ensures.beginning in
    on_err c.from_residual-in_err-write_whole-3.result
    (begun-before was is (line.name.now ++ codes " " ++ decimal line.value) (10 ∷ [])
    (begun-after was spaced is (line.name.now ++ codes " ") (decimal line.value) front digits))

pub returns-clause-beginning : goal.returns-clause-beginning
returns-clause-beginning g c =
    let was = g.W.Write.contents c.args.writer.now in
    let named = g.W.Write.contents c.write_whole.new.writer in
    let spaced = g.W.Write.contents c.write_whole-2.new.writer in
    let valued = g.W.Write.contents c.write_whole-3.new.writer in
    let is = g.W.Write.contents c.write_whole-4.new.writer in
    let line = c.args.self.now in
    let name = subst (Appends was named) c.as_bytes.ensures.value c.in_ok-write_whole.ensures.whole in
    let front = Appends-join was named spaced line.name.now (codes " ") name c.in_ok-write_whole-2.ensures.whole in
    let digits = subst (Appends spaced valued) (c.as_bytes-2.ensures.value ∙ c.format.ensures.text) c.in_ok-write_whole-3.ensures.whole in
    let all = Appends-join was spaced valued (line.name.now ++ codes " ") (decimal line.value) front digits in
    on_err_weaker c.write_whole-4.result
    (λ begun. begun-after was valued is (line.name.now ++ codes " " ++ decimal line.value) (10 ∷ []) all begun)
    c.write_whole-4.ensures.beginning
