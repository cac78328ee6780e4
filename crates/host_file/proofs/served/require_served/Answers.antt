use Rattle.std.proofs.Common.{rules}
use Rattle.host_file.proofs.Taken.{one_more_served, all_served}
use Rattle.host_file.proofs.served.require_served.Goals as goal

pub loop-number-preserved : goal.loop-number-preserved
loop-number-preserved c = one_more_served c.args.file.now.tenants c.args.file.now.commands c.loop-number.number c.command-item.result
    (Prim.search rules) c.loop-number.invariant (Prim.search rules)

pub returns-clause-served : goal.returns-clause-served
returns-clause-served c = all_served c.args.file.now.tenants c.args.file.now.commands c.loop-number.number
    (Prim.search rules) c.loop-number.invariant
