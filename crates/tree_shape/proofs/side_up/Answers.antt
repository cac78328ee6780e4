use Rattle.std.proofs.Common.{◌<◌, ◌≤◌, arith}
use Rattle.tree_shape.specs.Shape.{height_at}
use Rattle.tree_shape.proofs.Opening.{height-some}
use Rattle.tree_shape.proofs.Standing.{held-by, higher-by}
use Rattle.tree_shape.proofs.TurningOnce.{once-near, once-far, once-first, once-second, hung-once}
use Rattle.tree_shape.proofs.TurningTwice.{twice-first, twice-second, twice-third, hung-twice}
use Rattle.tree_shape.proofs.side_up.Goals as goal

pub height-requires : goal.height-requires
height-requires c = rw c.near-inner.ensures (once-near c.args.left _ _ _ _ (higher-by c.args.left c.requires.ready c.requires.higher))

pub height-requires-2 : goal.height-requires-2
height-requires-2 c = rw c.far-outer.ensures (once-far c.args.left _ _ _ _ (higher-by c.args.left c.requires.ready c.requires.higher))

pub join_by-requires : goal.join_by-requires
join_by-requires c = rw c.near-inner.ensures (once-first c.args.left _ _ _ _ (higher-by c.args.left c.requires.ready c.requires.higher))

pub join_by-requires-then-height : goal.join_by-requires-then-height
join_by-requires-then-height c = rw (c.join_by.ensures, c.far-outer.ensures, c.near-inner.ensures) (once-second c.args.left _ _ _ _ (higher-by c.args.left c.requires.ready c.requires.higher))

pub returns-then-height : goal.returns-then-height
returns-then-height c = λ t o are.
    let more = c.requires.higher in
    let few : height_at c.args.nodes.now c.near-inner.result ≤ height_at c.args.nodes.now c.far-outer.result = omega arith in
    rw (c.join_by-then-height.ensures, c.join_by.ensures, c.far-outer.ensures, c.near-inner.ensures)
    (hung-once c.args.left _ _ _ _ (height-some c.args.nodes.now c.args.up (omega (arith, more))) (rw (c.far-outer.ensures, c.near-inner.ensures) at few) t o (held-by c.args.left are))

pub join_by-requires-2 : goal.join_by-requires-2
join_by-requires-2 c =
    let more : height_at c.args.nodes.now c.far-outer.result < height_at c.args.nodes.now c.near-inner.result = omega arith in
    rw (c.far.ensures, c.far-outer.ensures, c.near-inner.ensures)
    (twice-first c.args.left _ _ _ _ (higher-by c.args.left c.requires.ready c.requires.higher) (rw (c.far-outer.ensures, c.near-inner.ensures) at more))

pub join_by-requires-3 : goal.join_by-requires-3
join_by-requires-3 c =
    let more : height_at c.args.nodes.now c.far-outer.result < height_at c.args.nodes.now c.near-inner.result = omega arith in
    rw (c.join_by-2.ensures, c.near.ensures, c.far.ensures, c.far-outer.ensures, c.near-inner.ensures)
    (twice-second c.args.left _ _ _ _ (higher-by c.args.left c.requires.ready c.requires.higher) (rw (c.far-outer.ensures, c.near-inner.ensures) at more))

pub join_by-requires-4 : goal.join_by-requires-4
join_by-requires-4 c =
    let more : height_at c.args.nodes.now c.far-outer.result < height_at c.args.nodes.now c.near-inner.result = omega arith in
    rw (c.join_by-3.ensures, c.join_by-2.ensures, c.near.ensures, c.far.ensures, c.far-outer.ensures, c.near-inner.ensures)
    (twice-third c.args.left _ _ _ _ (higher-by c.args.left c.requires.ready c.requires.higher) (rw (c.far-outer.ensures, c.near-inner.ensures) at more))

pub returns : goal.returns
returns c = λ t o are.
    let higher = c.requires.higher in
    let more : height_at c.args.nodes.now c.far-outer.result < height_at c.args.nodes.now c.near-inner.result = omega arith in
    rw (c.join_by-4.ensures, c.join_by-3.ensures, c.join_by-2.ensures, c.near.ensures, c.far.ensures, c.far-outer.ensures, c.near-inner.ensures)
    (hung-twice c.args.left _ _ _ _ (height-some c.args.nodes.now c.args.up (omega (arith, higher))) (rw (c.far-outer.ensures, c.near-inner.ensures) at more) t o (held-by c.args.left are))
