use Rattle.std.proofs.Common.{◌∙◌}
use Rattle.host_calls.proofs.Answers.{unpinned}
use Rattle.host_calls.proofs.update.host_update.Goals as goal

pub returns-clause-updated : goal.returns-clause-updated
returns-clause-updated c =
    c.update_as.ensures.part ∙ unpinned c.args.memory.now c.update_as.new.memory c.args.tenant c.args.map c.args.key 0 c.args.value.now c.update_as.ensures.sharing
