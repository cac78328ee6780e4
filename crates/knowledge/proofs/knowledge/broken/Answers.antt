use Rattle.std.proofs.Common.{IfSome, subst}
use Rattle.bpf_decode.specs.Text.{IsInstruction}
use Rattle.verifier_kinds.specs.Descriptions.{IsDescription}
use Rattle.knowledge.proofs.Read.{known_instruction, known_description}
use Rattle.knowledge.proofs.knowledge.broken.Goals as goal

pub flow-requires-clause-instruction : goal.flow-requires-clause-instruction
flow-requires-clause-instruction c =
    let p = c.args.candidate.now in
    let known = known_instruction p c.args.slots.now.items c.args.slot c.index.result.now c.requires.text c.requires.slot c.requires.known c.index.ensures in
    subst (λ o. IfSome o (λ d. IsInstruction p.text c.args.slot)) c.in-Some.is known

pub flow-requires-clause-description : goal.flow-requires-clause-description
flow-requires-clause-description c =
    let known = known_description c.args.candidate.now c.args.slots.now.items c.args.slot c.index.result.now c.requires.slot c.requires.known c.index.ensures in
    subst (λ o. IfSome o IsDescription) c.in-Some.is known
