use Rattle.std.proofs.Common.{true, false, None, Some, sym, ◌∙◌, arith}
use Rattle.tree_shape.specs.Searches.{order_to}
use Rattle.tree_shape.proofs.Searching.{falls, node-inside, searched-node, framed-inside, framed-page, find-none, find-on, find-here}
use Rattle.tree_shape.proofs.search.find.Goals as goal

pub bounds-nodes-at : goal.bounds-nodes-at
bounds-nodes-at c =
    let o = searched-node c.args.nodes.now c.args.frames.now c.args.arena.now.pages c.loop-at.at c.loop-at-test.true c.loop-at.invariant.0.0 c.loop-at.invariant.0.1 in
    node-inside c.args.nodes.now c.loop-at.at o.l o.r o.is.holds

pub order_at-requires-clause-inside : goal.order_at-requires-clause-inside
order_at-requires-clause-inside c =
    let o = searched-node c.args.nodes.now c.args.frames.now c.args.arena.now.pages c.loop-at.at c.loop-at-test.true c.loop-at.invariant.0.0 c.loop-at.invariant.0.1 in
    framed-inside c.args.nodes.now c.args.frames.now c.args.arena.now.pages c.loop-at.at o.l o.r o.is

pub order_at-requires-clause-framed : goal.order_at-requires-clause-framed
order_at-requires-clause-framed c =
    let o = searched-node c.args.nodes.now c.args.frames.now c.args.arena.now.pages c.loop-at.at c.loop-at-test.true c.loop-at.invariant.0.0 c.loop-at.invariant.0.1 in
    rw c.loop-at.invariant.2 (framed-page c.args.nodes.now c.args.frames.now c.args.arena.now.pages c.loop-at.at o.l o.r o.is)

pub loop-at-smaller-in-Less : goal.loop-at-smaller-in-Less
loop-at-smaller-in-Less c = falls false c.args.nodes.now c.loop-at.at c.loop-at.invariant.0.0 c.loop-at-test.true c.loop-at.invariant.0.1.holds

pub loop-at-smaller : goal.loop-at-smaller
loop-at-smaller c = falls true c.args.nodes.now c.loop-at.at c.loop-at.invariant.0.0 c.loop-at-test.true c.loop-at.invariant.0.1.holds

pub loop-at-preserved-in-Less : goal.loop-at-preserved-in-Less
loop-at-preserved-in-Less c =
    let on = find-on c.args.nodes.now c.args.frames.now c.args.arena.now.pages c.loop-at.at (order_to c.args.arena.now.pages c.args.frames.now c.args.frame) false c.loop-at-test.true (rw c.loop-at.invariant.2 at (sym c.in-Less.ensures.answered)) c.loop-at.invariant.0.0 c.loop-at.invariant.0.1 in
    let few = c.loop-at.invariant.3 in
    ((on.side, on.is), λ result inner. c.loop-at.invariant.1 result (on.finds result inner), c.order_at.ensures.pages ∙ c.loop-at.invariant.2, omega (arith, few, on.lower, c.order_at.ensures.steps))

pub loop-at-preserved : goal.loop-at-preserved
loop-at-preserved c =
    let on = find-on c.args.nodes.now c.args.frames.now c.args.arena.now.pages c.loop-at.at (order_to c.args.arena.now.pages c.args.frames.now c.args.frame) true c.loop-at-test.true (rw c.loop-at.invariant.2 at (sym c.in-Greater.ensures.answered)) c.loop-at.invariant.0.0 c.loop-at.invariant.0.1 in
    let few = c.loop-at.invariant.3 in
    ((on.side, on.is), λ result inner. c.loop-at.invariant.1 result (on.finds result inner), c.order_at.ensures.pages ∙ c.loop-at.invariant.2, omega (arith, few, on.lower, c.order_at.ensures.steps))

pub returns-in-Equal-clause-slot : goal.returns-in-Equal-clause-slot
returns-in-Equal-clause-slot c =
    c.loop-at.invariant.1 (Some c.loop-at.at) (find-here c.args.nodes.now c.args.frames.now c.args.arena.now.pages c.loop-at.at (order_to c.args.arena.now.pages c.args.frames.now c.args.frame) c.loop-at-test.true (rw c.loop-at.invariant.2 at (sym c.in-Equal.ensures.answered)))

pub returns-in-Equal-clause-few : goal.returns-in-Equal-clause-few
returns-in-Equal-clause-few c =
    let less = falls false c.args.nodes.now c.loop-at.at c.loop-at.invariant.0.0 c.loop-at-test.true c.loop-at.invariant.0.1.holds in
    let few = c.loop-at.invariant.3 in
    omega (arith, less, few, c.order_at.ensures.steps)

pub returns-clause-slot : goal.returns-clause-slot
returns-clause-slot c = c.loop-at.invariant.1 None (find-none c.args.nodes.now c.args.frames.now c.args.arena.now.pages c.loop-at.at (order_to c.args.arena.now.pages c.args.frames.now c.args.frame) c.loop-at-test.false)
