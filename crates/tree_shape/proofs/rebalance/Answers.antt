use Rattle.std.proofs.Common.{arith}
use Rattle.tree_shape.proofs.Settling.{ready-joinable, rebalance-left, rebalance-right, rebalance-flat}
use Rattle.tree_shape.proofs.rebalance.Goals as goal

pub height-lefts-requires : goal.height-lefts-requires
height-lefts-requires c = (ready-joinable c.args.nodes.now c.args.left c.args.at c.args.right c.requires).lefts

pub height-rights-requires : goal.height-rights-requires
height-rights-requires c = (ready-joinable c.args.nodes.now c.args.left c.args.at c.args.right c.requires).rights

pub overflow_add-rights : goal.overflow_add-rights
overflow_add-rights c = let low = (ready-joinable c.args.nodes.now c.args.left c.args.at c.args.right c.requires).low_right in omega (arith, low)

pub returns-then-rights-lefts : goal.returns-then-rights-lefts
returns-then-rights-lefts c = λ l r are.
    rebalance-left c.args.nodes.now c.args.left c.args.at c.args.right l r are c.side_up.new.nodes c.side_up.result (omega arith) (c.side_up.ensures l r are)

pub overflow_add-lefts : goal.overflow_add-lefts
overflow_add-lefts c = let low = (ready-joinable c.args.nodes.now c.args.left c.args.at c.args.right c.requires).low_left in omega (arith, low)

pub returns-then-lefts-rights : goal.returns-then-lefts-rights
returns-then-lefts-rights c = λ l r are.
    rebalance-right c.args.nodes.now c.args.left c.args.at c.args.right l r are c.side_up-then-lefts-rights.new.nodes c.side_up-then-lefts-rights.result (omega arith) (c.side_up-then-lefts-rights.ensures r l are)

pub join-requires : goal.join-requires
join-requires c = ready-joinable c.args.nodes.now c.args.left c.args.at c.args.right c.requires

pub returns : goal.returns
returns c = λ l r are.
    rw c.join.ensures (rebalance-flat c.args.nodes.now c.args.left c.args.at c.args.right l r are (omega arith) (omega arith))
