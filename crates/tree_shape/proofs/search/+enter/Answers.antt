use Rattle.std.proofs.Common.{◌≡◌, ◌<◌, ℕ, Bool, true, slice_index_or, sym, ap, ◌∙◌, arith}
use Rattle.tree_shape.specs.Shape.{fork, height_at}
use Rattle.tree_shape.specs.Searches.{order_to}
use Rattle.tree_shape.proofs.Searching.{toward, equal-order, side-order, falls, node-inside, framed-inside, framed-page}
use Rattle.tree_shape.proofs.Entering.{enter-none, grower, grower-by, growing-searched, growing-side}
use Rattle.tree_shape.proofs.Entries.{here-there, side-there, side-ready, side-root}
use Rattle.tree_shape.proofs.search.+enter.Goals as goal
use Rattle.tree_shape.proofs.search.+enter.Goals.{After-far}

-- the side on which the slot is put in, and that it is lower
toward_it : (t : ℕ) (c : After-far t) → order_to c.args.arena.now.pages c.args.frames.now (slice_index_or c.args.frames.now c.args.new 0) c.args.link ≡ toward c.is_gt-left.result
toward_it t c =
    sym c.order_at-order.ensures.answered ∙ side-order c.order_at-order.result (sym c.is_eq.ensures ∙ c.if-is_eq.false) ∙ ap (λ (left : Bool). toward left) (sym c.is_gt-left.ensures)

lower : (t : ℕ) (c : After-far t) → height_at c.args.nodes.now c.far.result < height_at c.args.nodes.now c.args.link
lower t c = rw c.far.ensures (falls c.is_gt-left.result c.args.nodes.now c.args.link c.requires.tree.0 c.if-link-eq-NONE.false c.requires.tree.1.sound.holds)

pub returns-then-link-eq-NONE-clause-entry : goal.returns-then-link-eq-NONE-clause-entry
returns-then-link-eq-NONE-clause-entry t c = rw c.join.ensures (enter-none c.args.nodes.now c.args.frames.now c.args.arena.now.pages c.args.link c.args.new (order_to c.args.arena.now.pages c.args.frames.now (slice_index_or c.args.frames.now c.args.new 0)) c.if-link-eq-NONE.true)

pub slice_copy_out-node : goal.slice_copy_out-node
slice_copy_out-node t c =
    let o = grower c.args.nodes.now c.args.frames.now c.args.arena.now.pages c.args.link c.args.new c.if-link-eq-NONE.false c.requires.tree.0 c.requires.tree.1 in
    node-inside c.args.nodes.now c.args.link o.l o.r o.is.sound.holds

pub order_at-order-requires-clause-inside : goal.order_at-order-requires-clause-inside
order_at-order-requires-clause-inside t c =
    let o = grower c.args.nodes.now c.args.frames.now c.args.arena.now.pages c.args.link c.args.new c.if-link-eq-NONE.false c.requires.tree.0 c.requires.tree.1 in
    let s = growing-searched c.args.nodes.now c.args.frames.now c.args.arena.now.pages c.args.link c.args.new (fork c.args.link o.l o.r) o.is in
    framed-inside c.args.nodes.now c.args.frames.now c.args.arena.now.pages c.args.link o.l o.r s

pub order_at-order-requires-clause-framed : goal.order_at-order-requires-clause-framed
order_at-order-requires-clause-framed t c =
    let o = grower c.args.nodes.now c.args.frames.now c.args.arena.now.pages c.args.link c.args.new c.if-link-eq-NONE.false c.requires.tree.0 c.requires.tree.1 in
    let s = growing-searched c.args.nodes.now c.args.frames.now c.args.arena.now.pages c.args.link c.args.new (fork c.args.link o.l o.r) o.is in
    framed-page c.args.nodes.now c.args.frames.now c.args.arena.now.pages c.args.link o.l o.r s

pub returns-then-is_eq-clause-entry : goal.returns-then-is_eq-clause-entry
returns-then-is_eq-clause-entry t c = here-there c.args.nodes.now c.args.frames.now c.args.arena.now.pages c.args.link c.args.new (order_to c.args.arena.now.pages c.args.frames.now (slice_index_or c.args.frames.now c.args.new 0)) c.if-link-eq-NONE.false (sym c.order_at-order.ensures.answered ∙ equal-order c.order_at-order.result (sym c.is_eq.ensures ∙ c.if-is_eq.true))

pub returns-then-is_eq-clause-few : goal.returns-then-is_eq-clause-few
returns-then-is_eq-clause-few t c =
    let less = falls true c.args.nodes.now c.args.link c.requires.tree.0 c.if-link-eq-NONE.false c.requires.tree.1.sound.holds in
    omega (arith, less, c.order_at-order.ensures.steps)

pub enter-requires : goal.enter-requires
enter-requires t c =
    let o = grower-by c.is_gt-left.result c.args.nodes.now c.args.frames.now c.args.arena.now.pages c.args.link c.args.new c.if-link-eq-NONE.false c.requires.tree.0 c.requires.tree.1 in
    let less = lower t c in
    (omega (arith, less, c.decreases), ((o.t, rw (c.order_at-order.ensures.pages, c.far.ensures) (growing-side c.is_gt-left.result c.args.nodes.now c.args.frames.now c.args.arena.now.pages c.args.link c.args.new o.t o.u o.is)), (c.requires.inside, rw c.order_at-order.ensures.pages c.requires.framed)))

pub rebalance_by-requires : goal.rebalance_by-requires
rebalance_by-requires t c =
    let o = grower-by c.is_gt-left.result c.args.nodes.now c.args.frames.now c.args.arena.now.pages c.args.link c.args.new c.if-link-eq-NONE.false c.requires.tree.0 c.requires.tree.1 in
    rw c.near.ensures (side-ready c.args.nodes.now c.args.frames.now c.args.arena.now.pages c.args.link c.args.new (order_to c.args.arena.now.pages c.args.frames.now (slice_index_or c.args.frames.now c.args.new 0)) c.if-link-eq-NONE.false c.is_gt-left.result c.enter.new.nodes o.t o.u o.is c.in-Root.root (rw (c.order_at-order.ensures.pages, c.far.ensures) at c.in-Root.ensures.entry))

pub returns-in-There-clause-entry : goal.returns-in-There-clause-entry
returns-in-There-clause-entry t c =
    side-there c.args.nodes.now c.args.frames.now c.args.arena.now.pages c.args.link c.args.new (order_to c.args.arena.now.pages c.args.frames.now (slice_index_or c.args.frames.now c.args.new 0)) c.if-link-eq-NONE.false c.is_gt-left.result c.enter.new.nodes (toward_it t (goal.at.returns-in-There-clause-entry t c).After-far) c.in-There.at (rw (c.order_at-order.ensures.pages, c.far.ensures) at c.in-There.ensures.entry)

pub returns-in-There-clause-few : goal.returns-in-There-clause-few
returns-in-There-clause-few t c = let less = lower t (goal.at.returns-in-There-clause-few t c).After-far in omega (arith, less, c.order_at-order.ensures.steps, c.enter.ensures.few)

pub returns-in-Root-clause-entry : goal.returns-in-Root-clause-entry
returns-in-Root-clause-entry t c =
    side-root c.args.nodes.now c.args.frames.now c.args.arena.now.pages c.args.link c.args.new (order_to c.args.arena.now.pages c.args.frames.now (slice_index_or c.args.frames.now c.args.new 0)) c.if-link-eq-NONE.false c.is_gt-left.result c.enter.new.nodes (toward_it t (goal.at.returns-in-Root-clause-entry t c).After-far) c.rebalance_by.new.nodes c.in-Root.root c.rebalance_by.result (rw (c.order_at-order.ensures.pages, c.far.ensures) at c.in-Root.ensures.entry) (rw c.near.ensures at c.rebalance_by.ensures)

pub returns-in-Root-clause-few : goal.returns-in-Root-clause-few
returns-in-Root-clause-few t c = let less = lower t (goal.at.returns-in-Root-clause-few t c).After-far in omega (arith, less, c.order_at-order.ensures.steps, c.enter.ensures.few)
