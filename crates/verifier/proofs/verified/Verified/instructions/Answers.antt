use Rattle.std.proofs.Common.{arith}
use Rattle.bpf_decode.specs.Text.{slots_of}
use Rattle.bpf_decode.proofs.Numbering.{instructions_fit}
use Rattle.verifier.proofs.verified.Verified.instructions.Goals as goal

pub overflow_cast-result : goal.overflow_cast-result
overflow_cast-result c =
    let text = c.args.self.now.subject.text in
    let whole = rw c.program.ensures at c.code.ensures.whole in
    omega (arith, whole, instructions_fit text (slots_of text), c.facts.ensures.subject.text.sized)
