use Rattle.std.proofs.Common.{IfSome, subst}
use Rattle.bpf_decode.specs.Text.{IsInstruction}
use Rattle.knowledge.proofs.Flowed.{onward_next, onward_jump}
use Rattle.knowledge.proofs.knowledge.leads.Goals as goal

pub returns-in-Ok-clause-next : goal.returns-in-Ok-clause-next
returns-in-Ok-clause-next c =
    let p = c.args.candidate.now in
    let instruction = subst (λ o. IfSome o (λ d. IsInstruction p.text c.args.slot)) c.in-Some.is c.requires.instruction in
    onward_next p c.args.slot c.in-Some.known c.in-Ok.onward instruction c.in-Ok.ensures.flow

pub returns-in-Ok-clause-jump : goal.returns-in-Ok-clause-jump
returns-in-Ok-clause-jump c =
    let p = c.args.candidate.now in
    let instruction = subst (λ o. IfSome o (λ d. IsInstruction p.text c.args.slot)) c.in-Some.is c.requires.instruction in
    onward_jump p c.args.slot c.in-Some.known c.in-Ok.onward instruction c.in-Ok.ensures.flow
