use Rattle.knowledge.proofs.Flowed.{read_instruction, passed_over}
use Rattle.knowledge.proofs.knowledge.pass_slot.Goals as goal

pub leads-onward-requires-clause-instruction : goal.leads-onward-requires-clause-instruction
leads-onward-requires-clause-instruction c =
    read_instruction c.args.candidate.now c.args.slots.now.items c.args.slot c.index.result.now c.requires.text c.requires.slot c.requires.flowed c.index.ensures

pub returns : goal.returns
returns c =
    passed_over c.args.candidate.now c.args.slots.now.items c.arrive.new.slots.items c.arrive-2.new.slots.items c.args.slot c.index.result.now c.leads-onward.result
    c.requires.slot c.requires.flowed c.index.ensures c.leads-onward.ensures.flows c.leads-onward.ensures.described
    c.arrive.ensures.len c.arrive.ensures.arrived c.arrive-2.ensures.len c.arrive-2.ensures.arrived
