use Rattle.std.proofs.Common.{subst, sym, ap, ◌∙◌, if◌then◌else◌}
use Rattle.host_core.specs.World.{new_system}
use Rattle.host_core.specs.HostView.{StandsForSystem}
use Rattle.engines.specs.Replay.{AreOfAll}
use Rattle.engines.specs.Sessions.{HasPerformed}
use Rattle.engines.proofs.Noting.{byte-status, replayed-performed}
use Rattle.engines.proofs.replay.replay_commands.Goals as goal

pub returns-clause-replayed : goal.returns-clause-replayed
returns-clause-replayed g c =
    let file = c.args.file.now in
    let session = c.in_ok-session.session in
    let was = g.W.Write.contents c.args.writer.now in
    let is = g.W.Write.contents c.perform_all.new.writer in
    let performs = subst (λ commands. HasPerformed (AreOfAll session.pages_to_scan commands) session c.perform_all.new.self was is) c.as_slice.ensures c.in_ok-perform_all.ensures.performs in
    replayed-performed file session c.perform_all.new.self was is c.from.result c.requires.limits
    (subst (λ host. StandsForSystem host (new_system file.frames file.tenants file.options)) (sym c.in_ok-session.ensures.host) c.requires.host)
    c.in_ok-session.ensures.begun c.in_ok-session.ensures.pages c.in_ok-session.ensures.refused performs (c.from.ensures ∙ byte-status c.has_refused.result ∙ ap (λ b. if b then 1 else 0) c.has_refused.ensures)
