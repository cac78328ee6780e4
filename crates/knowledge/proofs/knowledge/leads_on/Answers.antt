use Rattle.knowledge.proofs.Read.{known_instruction, known_description, flows_known}
use Rattle.knowledge.proofs.knowledge.leads_on.Goals as goal

pub leads-requires-clause-instruction : goal.leads-requires-clause-instruction
leads-requires-clause-instruction c =
    known_instruction c.args.candidate.now c.args.slots.now.items c.args.slot c.index.result.now c.requires.text c.requires.slot c.requires.known c.index.ensures

pub leads-requires-clause-description : goal.leads-requires-clause-description
leads-requires-clause-description c =
    known_description c.args.candidate.now c.args.slots.now.items c.args.slot c.index.result.now c.requires.slot c.requires.known c.index.ensures

pub returns : goal.returns
returns c =
    flows_known c.args.candidate.now c.args.slots.now.items c.args.slot c.index.result.now c.leads.result c.requires.slot c.requires.known c.index.ensures c.leads.ensures.flows
