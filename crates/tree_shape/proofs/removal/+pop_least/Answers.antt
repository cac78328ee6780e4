use Rattle.std.proofs.Common.{true, arith}
use Rattle.tree_shape.specs.Shape.{fork}
use Rattle.tree_shape.proofs.Searching.{falls, node-some, node-inside}
use Rattle.tree_shape.proofs.Popping.{pop-here, popper, popped-inner, popped-ready, popped-all}
use Rattle.tree_shape.proofs.removal.+pop_least.Goals as goal

pub slice_copy_out-node : goal.slice_copy_out-node
slice_copy_out-node t c = node-inside c.args.nodes.now c.args.link c.requires.0 c.requires.1.0 c.requires.1.1.sound.holds

pub returns-then-node : goal.returns-then-node
returns-then-node t c = pop-here c.args.nodes.now c.args.link c.if-node.true

pub pop_least-popped-requires : goal.pop_least-popped-requires
pop_least-popped-requires t c =
    let o = popper c.args.nodes.now c.args.link c.requires.0 c.requires.1.0 c.if-node.false c.requires.1.1 in
    let less = falls true c.args.nodes.now c.args.link (fork c.args.link c.requires.0 c.requires.1.0) (node-some c.args.nodes.now c.args.link c.requires.0 c.requires.1.0 c.requires.1.1.sound.holds) c.requires.1.1.sound.holds in
    (omega (arith, less, c.decreases), (o.a, (o.b, popped-inner c.args.nodes.now c.args.link o)))

pub rebalance-root-requires : goal.rebalance-root-requires
rebalance-root-requires t c =
    let o = popper c.args.nodes.now c.args.link c.requires.0 c.requires.1.0 c.if-node.false c.requires.1.1 in
    popped-ready c.args.nodes.now c.args.link c.pop_least-popped.new.nodes c.pop_least-popped.result c.pop_least-popped.ensures o

pub returns : goal.returns
returns t c =
    popped-all c.args.nodes.now c.args.link c.pop_least-popped.new.nodes c.pop_least-popped.result c.pop_least-popped.ensures c.if-node.false c.rebalance-root.new.nodes c.rebalance-root.result c.rebalance-root.ensures
