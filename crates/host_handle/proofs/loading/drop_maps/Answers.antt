use Rattle.std.proofs.Common.{[], ◌∷◌, ◌++◌}
use Rattle.host_handle.proofs.InOrder.{drops_start, drops_next}
use Rattle.host_handle.proofs.loading.drop_maps.Goals as goal

pub loop-map-init : goal.loop-map-init
loop-map-init c = drops_start c.args.tenant c.args.host.now

pub loop-map-preserved : goal.loop-map-preserved
loop-map-preserved c =
    let (replies, before) = c.loop-map.invariant in (
      replies ++ c.apply-reply.result ∷ [],
      drops_next c.args.tenant c.loop-map.map replies c.apply-reply.result c.args.host.now c.loop-map.host c.apply-reply.new.self before
          (λ x stands. let served = c.apply-reply.ensures x stands in (served.0, served.1, (served.2, served.3, served.4))),
    )
