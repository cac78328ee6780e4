use Rattle.std.proofs.Common.{◌≡◌, ◌<◌, length, slice_get, Some, refl, arith}
use Rattle.std.proofs.lemmas.Option.{slice_get_read}
use Rattle.host_handle.proofs.WrittenMaps.{all_written, one_written}
use Rattle.host_handle.proofs.object.write_maps.Goals as goal

pub loop-number-init : goal.loop-number-init
loop-number-init c = (refl, λ k below. absurd (omega (arith, below)), λ k other past. refl)

pub loop-number-preserved : goal.loop-number-preserved
loop-number-preserved c =
    let found : slice_get c.args.maps.now c.loop-number.number ≡ Some c.index-maps-number.result =
    slice_get_read c.args.maps.now (length c.args.maps.now) c.loop-number.number c.index-maps-number.result refl c.loop-number-test.true c.index-maps-number.is in
    let within : c.loop-number.number < length c.loop-number.written =
    omega (arith, c.loop-number-test.true, c.requires.few, c.told-written, c.loop-number.invariant.0) in
    one_written c.args.maps.now c.args.written.now c.loop-number.written c.loop-number.number c.index-maps-number.result c.write.new.self _ within found c.loop-number.invariant c.write.ensures

pub returns : goal.returns
returns c =
    let all : c.loop-number.number ≡ length c.args.maps.now = omega (arith, c.loop-number.auto.number-end, c.loop-number-test.false) in
    all_written c.args.maps.now c.args.written.now c.loop-number.written c.loop-number.number all c.loop-number.invariant
