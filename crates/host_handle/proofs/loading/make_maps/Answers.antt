use Rattle.std.proofs.Common.{◌<◌, ◌+◌, length, None, Some, arith}
use Rattle.std.proofs.lemmas.List.{take_more}
use Rattle.std.proofs.lemmas.Result.{err_from_is_err_and}
use Rattle.host_handle.proofs.InOrder.{up_to_start, maps_next, maps_stopped}
use Rattle.host_handle.proofs.loading.make_maps.Goals as goal

pub loop-number-init : goal.loop-number-init
loop-number-init c = up_to_start c.args.tenant c.args.mergeable c.args.host.now

pub loop-number-preserved : goal.loop-number-preserved
loop-number-preserved c =
    let less : c.loop-number.number < length c.args.maps.now = omega (arith, c.loop-number-test.true, c.loop-number.auto.number-end) in
    maps_next c.args.tenant c.args.mergeable c.args.maps.now c.loop-number.number _ None c.args.host.now c.loop-number.host c.make_map.new.host less (take_more c.args.maps.now c.loop-number.number _ less) c.loop-number.invariant c.in_ok-make_map.ensures.made

pub returns-in_err-make_map-clause-stopped : goal.returns-in_err-make_map-clause-stopped
returns-in_err-make_map-clause-stopped c =
    let less : c.loop-number.number < length c.args.maps.now = omega (arith, c.loop-number-test.true, c.loop-number.auto.number-end) in
    let stopped = maps_next c.args.tenant c.args.mergeable c.args.maps.now c.loop-number.number _ (Some c.in_err-make_map.field-0.0) c.args.host.now c.loop-number.host c.make_map.new.host less (take_more c.args.maps.now c.loop-number.number _ less) c.loop-number.invariant c.in_err-make_map.ensures.stopped in
    let p = err_from_is_err_and c.from_residual.result c.from_residual.ensures.1 in
    rw (p.1, p.2) (maps_stopped c.args.tenant c.args.mergeable c.args.maps.now (c.loop-number.number + 1) c.in_err-make_map.field-0.0 c.args.host.now c.make_map.new.host stopped)
