use Rattle.std.proofs.Common.{◌≡◌, arith}
use Rattle.page_table.specs.State.{part}
use Rattle.host_calls.proofs.ShapesRead.{read_more, all_read, shapes_valid}
use Rattle.host_calls.proofs.shapes.host_shapes.Goals as goal

pub loop-map-preserved : goal.loop-map-preserved
loop-map-preserved c =
    read_more c.loop-map.shapes (part c.args.memory.now c.args.tenant).maps c.loop-map.map c.shape.result (omega (arith, c.loop-map-test.true)) c.shape.ensures.shape c.loop-map.invariant

pub returns-clause-shapes : goal.returns-clause-shapes
returns-clause-shapes c =
    let all : c.loop-map.map ≡ 8 = omega (arith, c.loop-map-test.false, c.loop-map.auto.map-end) in
    all_read c.loop-map.shapes (part c.args.memory.now c.args.tenant).maps c.requires (rw all at c.loop-map.invariant)

pub returns-clause-valid : goal.returns-clause-valid
returns-clause-valid c =
    let all : c.loop-map.map ≡ 8 = omega (arith, c.loop-map-test.false, c.loop-map.auto.map-end) in
    rw (all_read c.loop-map.shapes (part c.args.memory.now c.args.tenant).maps c.requires (rw all at c.loop-map.invariant))
    (shapes_valid (part c.args.memory.now c.args.tenant).maps (c.maps_are_flat.ensures.flat c.args.tenant c.requires))
