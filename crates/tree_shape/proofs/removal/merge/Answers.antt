use Rattle.tree_shape.proofs.Merging.{merge-none, merger, merge-ready, merge-all}
use Rattle.tree_shape.proofs.removal.merge.Goals as goal

pub returns-then-right-eq-NONE : goal.returns-then-right-eq-NONE
returns-then-right-eq-NONE c = merge-none c.args.nodes.now c.args.left c.args.right c.if-right-eq-NONE.true

pub pop_least-popped-requires : goal.pop_least-popped-requires
pop_least-popped-requires c =
    let o = merger c.args.nodes.now c.args.left c.args.right c.requires.0 c.requires.1.0 c.if-right-eq-NONE.false c.requires.1.1 in
    (o.a, (o.b, o.are.rights))

pub rebalance-requires : goal.rebalance-requires
rebalance-requires c =
    let o = merger c.args.nodes.now c.args.left c.args.right c.requires.0 c.requires.1.0 c.if-right-eq-NONE.false c.requires.1.1 in
    merge-ready c.args.nodes.now c.pop_least-popped.new.nodes c.args.left c.args.right c.pop_least-popped.result c.pop_least-popped.ensures o

pub returns : goal.returns
returns c =
    merge-all c.args.nodes.now c.pop_least-popped.new.nodes c.args.left c.args.right c.pop_least-popped.result c.pop_least-popped.ensures c.if-right-eq-NONE.false c.rebalance.new.nodes c.rebalance.result c.rebalance.ensures
