use Rattle.knowledge.proofs.Flowed.{begun_in}
use Rattle.knowledge.proofs.knowledge.begin.Goals as goal

pub returns : goal.returns
returns c = begun_in c.start.result (λ known. known.items) c.args.candidate.now c.slots.result c.slots.ensures.subject.text c.slots.ensures.number c.start.ensures.len c.start.ensures.start
