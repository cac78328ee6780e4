use Rattle.std.proofs.Common.{◌≡◌, [], ◌∷◌, take, Some, refl}
use Rattle.std.proofs.lemmas.Result.{err_from_is_err_and}
use Rattle.host_types.specs.declared.event.Event.TheVariants.{Load}
use Rattle.host_core.specs.declared.reply.Reply.{Reply}
use Rattle.host_core.specs.declared.reply.Reply.TheVariants.{Refused}
use Rattle.host_handle.specs.Answered.{Goes, Serves}
use Rattle.host_handle.specs.Loading.{events_of_maps}
use Rattle.host_handle.proofs.InOrder.{happen_join, one_happens, up_to_join, up_to_more, up_to_refused}
use Rattle.host_handle.proofs.loading.load_whole.Goals as goal
use Rattle.host_handle.proofs.loading.load_whole.Goals.{After-load}

-- the program is loaded, or refused
loaded : (c : After-load) (reply : Reply) → c.load.result ≡ reply
    → Goes (Serves (Load c.args.tenant (take c.args.object.now.text_len c.args.object.now.text) c.args.object.now.context_size) reply) c.make_maps.new.host c.load.new.self
loaded c reply is x stands =
    let served = c.load.ensures x stands in
    rw (← is) (served.0, served.1, (served.2, served.3, served.4))

pub returns-in_err-make_maps-clause-stopped : goal.returns-in_err-make_maps-clause-stopped
returns-in_err-make_maps-clause-stopped c =
    let maps = events_of_maps c.args.tenant c.args.mergeable 0 (take c.args.object.now.maps_len c.args.object.now.maps) in
    let p = err_from_is_err_and c.from_residual.result c.from_residual.ensures.1 in
    rw (p.1, p.2) (up_to_more maps _ c.in_err-make_maps.field-0.0 c.args.host.now c.make_maps.new.host c.in_err-make_maps.ensures.stopped)

pub returns-in-Refused-clause-stopped : goal.returns-in-Refused-clause-stopped
returns-in-Refused-clause-stopped c =
    let maps = events_of_maps c.args.tenant c.args.mergeable 0 (take c.args.object.now.maps_len c.args.object.now.maps) in
    let program = Load c.args.tenant (take c.args.object.now.text_len c.args.object.now.text) c.args.object.now.context_size in
    let at = (goal.at.returns-in-Refused-clause-stopped c).After-load in
    up_to_join maps (program ∷ []) (Some c.in-Refused.fault) c.args.host.now c.make_maps.new.host c.load.new.self c.in_ok-make_maps.ensures.made
    (up_to_refused program [] c.in-Refused.fault c.make_maps.new.host c.load.new.self (loaded at (Refused c.in-Refused.fault) c.in-Refused.is))

pub returns-in_default : goal.returns-in_default
returns-in_default c =
    let maps = events_of_maps c.args.tenant c.args.mergeable 0 (take c.args.object.now.maps_len c.args.object.now.maps) in
    let program = Load c.args.tenant (take c.args.object.now.text_len c.args.object.now.text) c.args.object.now.context_size in
    let at = (goal.at.returns-in_default c).After-load in
    let (replies, accepted, all) = c.in_ok-make_maps.ensures.made in
    record {
      accepted = λ fault is. c.in_default.not-Refused fault is;
      loaded = (
        replies,
        accepted,
        happen_join maps (program ∷ []) replies (c.load.result ∷ []) c.args.host.now c.make_maps.new.host c.load.new.self all
            (one_happens program c.load.result c.make_maps.new.host c.load.new.self (loaded at c.load.result refl)),
      );
      stopped = tt;
    }
