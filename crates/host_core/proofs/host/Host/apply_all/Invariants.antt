use Rattle.std.proofs.Common.{◌≡◌, length, take, vec_capacity, vec_len}
use Rattle.host_core.specs.World.{System}
use Rattle.host_core.specs.Happens.{AllHappen}
use Rattle.host_core.specs.HostView.{StandsForSystem}
use Rattle.host_core.proofs.host.Host.apply_all.Given as goal

abbrev pub invariant-loop-event : goal.invariant-loop-event
invariant-loop-event l = record {
  room : vec_capacity l.replies ≡ length l.events;
  given : vec_len l.replies ≡ l.event-index;
  happen : (x : System) → StandsForSystem l.fn.self x → (next : System) × StandsForSystem l.self next × AllHappen x (take l.event-index l.events) l.replies.items next;
}
