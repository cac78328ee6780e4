use Rattle.std.proofs.Common.{◌≡◌, false, ◌∙◌, sym}
use Rattle.bpf_decode.specs.Text.{is_instruction}
use Rattle.verifier.specs.Pass.{falling}
use Rattle.verifier.proofs.Passes.{passed_between}
use Rattle.verifier.proofs.table.Pass.pass_slot.Goals as goal

pub returns-in_ok-skip-clause-passed : goal.returns-in_ok-skip-clause-passed
returns-in_ok-skip-clause-passed c =
    let before = c.args.self.now in
    let p = c.args.candidate.now in
    let between : is_instruction p.text c.args.slot ≡ false = sym c.begins.ensures ∙ c.if-begins.false in
    rw (c.in_ok-skip.ensures.pending, c.in_ok-skip.ensures.current, c.in_ok-skip.ensures.falls)
    (passed_between p before.kept c.skip.new.self.kept before.pending.items (falling before.falls before.current) c.args.slot c.requires.text c.requires.slot between c.requires.passed c.in_ok-skip.ensures.kept)
