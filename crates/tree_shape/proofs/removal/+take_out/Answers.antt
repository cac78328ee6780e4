use Rattle.std.proofs.Common.{true, false, sym, ◌∙◌, arith}
use Rattle.tree_shape.specs.Shape.{fork}
use Rattle.tree_shape.specs.Searches.{order_to}
use Rattle.tree_shape.specs.Removals.{is_alone}
use Rattle.tree_shape.proofs.Searching.{falls, node-inside, framed-inside, framed-page}
use Rattle.tree_shape.proofs.Taking.{take-none, taker, taking-searched, taking-side, taking-both, here-stays, here-some, side-none, side-stays, side-ready, side-some}
use Rattle.tree_shape.proofs.removal.+take_out.Goals as goal

pub returns-then-link-eq-NONE-clause-out : goal.returns-then-link-eq-NONE-clause-out
returns-then-link-eq-NONE-clause-out t c =
    take-none c.args.nodes.now c.args.frames.now c.args.arena.now.pages c.args.link (order_to c.args.arena.now.pages c.args.frames.now c.args.frame) (is_alone c.args.frames.now c.args.sizes.now c.args.frame) c.if-link-eq-NONE.true

pub slice_copy_out-node : goal.slice_copy_out-node
slice_copy_out-node t c =
    let o = taker c.args.nodes.now c.args.frames.now c.args.arena.now.pages c.args.link c.if-link-eq-NONE.false c.requires.tree.0 c.requires.tree.1 in
    node-inside c.args.nodes.now c.args.link o.l o.r o.is.shrinks.sound.holds

pub order_at-requires-clause-inside : goal.order_at-requires-clause-inside
order_at-requires-clause-inside t c =
    let o = taker c.args.nodes.now c.args.frames.now c.args.arena.now.pages c.args.link c.if-link-eq-NONE.false c.requires.tree.0 c.requires.tree.1 in
    let s = taking-searched c.args.nodes.now c.args.frames.now c.args.arena.now.pages c.args.link (fork c.args.link o.l o.r) o.is in
    framed-inside c.args.nodes.now c.args.frames.now c.args.arena.now.pages c.args.link o.l o.r s

pub order_at-requires-clause-framed : goal.order_at-requires-clause-framed
order_at-requires-clause-framed t c =
    let o = taker c.args.nodes.now c.args.frames.now c.args.arena.now.pages c.args.link c.if-link-eq-NONE.false c.requires.tree.0 c.requires.tree.1 in
    let s = taking-searched c.args.nodes.now c.args.frames.now c.args.arena.now.pages c.args.link (fork c.args.link o.l o.r) o.is in
    framed-page c.args.nodes.now c.args.frames.now c.args.arena.now.pages c.args.link o.l o.r s

pub take_out-requires : goal.take_out-requires
take_out-requires t c =
    let o = taker c.args.nodes.now c.args.frames.now c.args.arena.now.pages c.args.link c.if-link-eq-NONE.false c.requires.tree.0 c.requires.tree.1 in
    let less = falls false c.args.nodes.now c.args.link c.requires.tree.0 c.if-link-eq-NONE.false c.requires.tree.1.shrinks.sound.holds in
    (omega (arith, less, c.decreases), ((o.r, rw c.order_at.ensures.pages (taking-side false c.args.nodes.now c.args.frames.now c.args.arena.now.pages c.args.link o.r o.l o.is)), (rw c.order_at.ensures.pages c.requires.frame, c.requires.sized)))

pub take_out-requires-in-Greater : goal.take_out-requires-in-Greater
take_out-requires-in-Greater t c =
    let o = taker c.args.nodes.now c.args.frames.now c.args.arena.now.pages c.args.link c.if-link-eq-NONE.false c.requires.tree.0 c.requires.tree.1 in
    let less = falls true c.args.nodes.now c.args.link c.requires.tree.0 c.if-link-eq-NONE.false c.requires.tree.1.shrinks.sound.holds in
    (omega (arith, less, c.decreases), ((o.l, rw c.order_at.ensures.pages (taking-side true c.args.nodes.now c.args.frames.now c.args.arena.now.pages c.args.link o.l o.r o.is)), (rw c.order_at.ensures.pages c.requires.frame, c.requires.sized)))

pub rebalance-requires : goal.rebalance-requires
rebalance-requires t c =
    let o = taker c.args.nodes.now c.args.frames.now c.args.arena.now.pages c.args.link c.if-link-eq-NONE.false c.requires.tree.0 c.requires.tree.1 in
    side-ready c.args.nodes.now c.args.frames.now c.args.arena.now.pages c.args.link (order_to c.args.arena.now.pages c.args.frames.now c.args.frame) (is_alone c.args.frames.now c.args.sizes.now c.args.frame) c.if-link-eq-NONE.false false c.take_out.new.nodes o.r o.l o.is c.in-Out.taken (rw c.order_at.ensures.pages at c.in-Out.ensures.out)

pub rebalance-requires-in-Out-take_out : goal.rebalance-requires-in-Out-take_out
rebalance-requires-in-Out-take_out t c =
    let o = taker c.args.nodes.now c.args.frames.now c.args.arena.now.pages c.args.link c.if-link-eq-NONE.false c.requires.tree.0 c.requires.tree.1 in
    side-ready c.args.nodes.now c.args.frames.now c.args.arena.now.pages c.args.link (order_to c.args.arena.now.pages c.args.frames.now c.args.frame) (is_alone c.args.frames.now c.args.sizes.now c.args.frame) c.if-link-eq-NONE.false true c.take_out-in-Greater.new.nodes o.l o.r o.is c.in-Out-take_out.taken (rw c.order_at.ensures.pages at c.in-Out-take_out.ensures.out)

pub merge-requires : goal.merge-requires
merge-requires t c =
    let o = taker c.args.nodes.now c.args.frames.now c.args.arena.now.pages c.args.link c.if-link-eq-NONE.false c.requires.tree.0 c.requires.tree.1 in
    (o.l, (o.r, taking-both c.args.nodes.now c.args.frames.now c.args.arena.now.pages c.args.link o.l o.r o.is))

pub returns-in-Nowhere-clause-out : goal.returns-in-Nowhere-clause-out
returns-in-Nowhere-clause-out t c =
    side-none c.args.nodes.now c.args.frames.now c.args.arena.now.pages c.args.link (order_to c.args.arena.now.pages c.args.frames.now c.args.frame) (is_alone c.args.frames.now c.args.sizes.now c.args.frame) c.if-link-eq-NONE.false false c.take_out.new.nodes (sym c.in-Less.ensures.answered) (rw c.order_at.ensures.pages at c.in-Nowhere.ensures.out)

pub returns-in-Nowhere-take_out-clause-out : goal.returns-in-Nowhere-take_out-clause-out
returns-in-Nowhere-take_out-clause-out t c =
    side-none c.args.nodes.now c.args.frames.now c.args.arena.now.pages c.args.link (order_to c.args.arena.now.pages c.args.frames.now c.args.frame) (is_alone c.args.frames.now c.args.sizes.now c.args.frame) c.if-link-eq-NONE.false true c.take_out-in-Greater.new.nodes (sym c.in-Greater.ensures.answered) (rw c.order_at.ensures.pages at c.in-Nowhere-take_out.ensures.out)

pub returns-in-Out-clause-out : goal.returns-in-Out-clause-out
returns-in-Out-clause-out t c =
    side-some c.args.nodes.now c.args.frames.now c.args.arena.now.pages c.args.link (order_to c.args.arena.now.pages c.args.frames.now c.args.frame) (is_alone c.args.frames.now c.args.sizes.now c.args.frame) c.if-link-eq-NONE.false false c.take_out.new.nodes (sym c.in-Less.ensures.answered) c.rebalance.new.nodes c.in-Out.taken c.rebalance.result (rw c.order_at.ensures.pages at c.in-Out.ensures.out) (λ r l. c.rebalance.ensures l r)

pub returns-in-Out-take_out-clause-out : goal.returns-in-Out-take_out-clause-out
returns-in-Out-take_out-clause-out t c =
    side-some c.args.nodes.now c.args.frames.now c.args.arena.now.pages c.args.link (order_to c.args.arena.now.pages c.args.frames.now c.args.frame) (is_alone c.args.frames.now c.args.sizes.now c.args.frame) c.if-link-eq-NONE.false true c.take_out-in-Greater.new.nodes (sym c.in-Greater.ensures.answered) c.rebalance-in-Out-take_out.new.nodes c.in-Out-take_out.taken c.rebalance-in-Out-take_out.result (rw c.order_at.ensures.pages at c.in-Out-take_out.ensures.out) c.rebalance-in-Out-take_out.ensures

pub returns-else-not-is_alone-clause-out : goal.returns-else-not-is_alone-clause-out
returns-else-not-is_alone-clause-out t c =
    here-some c.args.nodes.now c.args.frames.now c.args.arena.now.pages c.args.link (order_to c.args.arena.now.pages c.args.frames.now c.args.frame) (is_alone c.args.frames.now c.args.sizes.now c.args.frame) c.if-link-eq-NONE.false (sym c.in-Equal.ensures.answered) (sym c.is_alone.ensures ∙ c.if-not-is_alone.false) c.merge.new.nodes c.merge.result c.merge.ensures

pub returns-in-Nowhere-clause-few : goal.returns-in-Nowhere-clause-few
returns-in-Nowhere-clause-few t c =
    let less = falls false c.args.nodes.now c.args.link c.requires.tree.0 c.if-link-eq-NONE.false c.requires.tree.1.shrinks.sound.holds in
    omega (arith, less, c.order_at.ensures.steps, c.take_out.ensures.few)

pub returns-in-Out-clause-few : goal.returns-in-Out-clause-few
returns-in-Out-clause-few t c =
    let less = falls false c.args.nodes.now c.args.link c.requires.tree.0 c.if-link-eq-NONE.false c.requires.tree.1.shrinks.sound.holds in
    omega (arith, less, c.order_at.ensures.steps, c.take_out.ensures.few)

pub returns-else-not-is_alone-clause-few : goal.returns-else-not-is_alone-clause-few
returns-else-not-is_alone-clause-few t c =
    let less = falls false c.args.nodes.now c.args.link c.requires.tree.0 c.if-link-eq-NONE.false c.requires.tree.1.shrinks.sound.holds in
    omega (arith, less, c.order_at.ensures.steps)

pub returns-in-Nowhere-take_out-clause-few : goal.returns-in-Nowhere-take_out-clause-few
returns-in-Nowhere-take_out-clause-few t c =
    let less = falls true c.args.nodes.now c.args.link c.requires.tree.0 c.if-link-eq-NONE.false c.requires.tree.1.shrinks.sound.holds in
    omega (arith, less, c.order_at.ensures.steps, c.take_out-in-Greater.ensures.few)

pub returns-in-Out-take_out-clause-few : goal.returns-in-Out-take_out-clause-few
returns-in-Out-take_out-clause-few t c =
    let less = falls true c.args.nodes.now c.args.link c.requires.tree.0 c.if-link-eq-NONE.false c.requires.tree.1.shrinks.sound.holds in
    omega (arith, less, c.order_at.ensures.steps, c.take_out-in-Greater.ensures.few)

pub returns-in-Stays-clause-out : goal.returns-in-Stays-clause-out
returns-in-Stays-clause-out t c =
    side-stays c.args.nodes.now c.args.frames.now c.args.arena.now.pages c.args.link (order_to c.args.arena.now.pages c.args.frames.now c.args.frame) (is_alone c.args.frames.now c.args.sizes.now c.args.frame) c.if-link-eq-NONE.false false c.take_out.new.nodes (sym c.in-Less.ensures.answered) c.in-Stays.at (rw c.order_at.ensures.pages at c.in-Stays.ensures.out)

pub returns-in-Stays-take_out-clause-out : goal.returns-in-Stays-take_out-clause-out
returns-in-Stays-take_out-clause-out t c =
    side-stays c.args.nodes.now c.args.frames.now c.args.arena.now.pages c.args.link (order_to c.args.arena.now.pages c.args.frames.now c.args.frame) (is_alone c.args.frames.now c.args.sizes.now c.args.frame) c.if-link-eq-NONE.false true c.take_out-in-Greater.new.nodes (sym c.in-Greater.ensures.answered) c.in-Stays-take_out.at (rw c.order_at.ensures.pages at c.in-Stays-take_out.ensures.out)

pub returns-then-not-is_alone-clause-out : goal.returns-then-not-is_alone-clause-out
returns-then-not-is_alone-clause-out t c =
    here-stays c.args.nodes.now c.args.frames.now c.args.arena.now.pages c.args.link (order_to c.args.arena.now.pages c.args.frames.now c.args.frame) (is_alone c.args.frames.now c.args.sizes.now c.args.frame) c.if-link-eq-NONE.false (sym c.in-Equal.ensures.answered) (sym c.is_alone.ensures ∙ c.if-not-is_alone.true)

pub is_alone-requires-clause-inside : goal.is_alone-requires-clause-inside
is_alone-requires-clause-inside t c =
    let o = taker c.args.nodes.now c.args.frames.now c.args.arena.now.pages c.args.link c.if-link-eq-NONE.false c.requires.tree.0 c.requires.tree.1 in
    let s = taking-searched c.args.nodes.now c.args.frames.now c.args.arena.now.pages c.args.link (fork c.args.link o.l o.r) o.is in
    framed-inside c.args.nodes.now c.args.frames.now c.args.arena.now.pages c.args.link o.l o.r s

pub returns-in-Stays-clause-few : goal.returns-in-Stays-clause-few
returns-in-Stays-clause-few t c =
    let less = falls false c.args.nodes.now c.args.link c.requires.tree.0 c.if-link-eq-NONE.false c.requires.tree.1.shrinks.sound.holds in
    omega (arith, less, c.order_at.ensures.steps, c.take_out.ensures.few)

pub returns-in-Stays-take_out-clause-few : goal.returns-in-Stays-take_out-clause-few
returns-in-Stays-take_out-clause-few t c =
    let less = falls true c.args.nodes.now c.args.link c.requires.tree.0 c.if-link-eq-NONE.false c.requires.tree.1.shrinks.sound.holds in
    omega (arith, less, c.order_at.ensures.steps, c.take_out-in-Greater.ensures.few)

pub returns-then-not-is_alone-clause-few : goal.returns-then-not-is_alone-clause-few
returns-then-not-is_alone-clause-few t c =
    let less = falls false c.args.nodes.now c.args.link c.requires.tree.0 c.if-link-eq-NONE.false c.requires.tree.1.shrinks.sound.holds in
    omega (arith, less, c.order_at.ensures.steps)
