-- Calls of one event, of a whole run, of steps, and of visits.
use Rattle.std.proofs.Common.{◌≡◌, inl, inr, Option, Some, None, unwrap_or, refl, ap}
use Rattle.host_types.specs.declared.event.Event.TheVariants.{Begin}
use Rattle.host_core.specs.declared.reply.Reply.{Reply}
use Rattle.host_core.specs.declared.reply.Reply.TheVariants.{Stepped}
use Rattle.host_core.specs.World.{System}
use Rattle.host_core.specs.Happens.{StepsHappen}
use Rattle.library_calls.specs.Isolation.{Call, once, whole, further, scanning, CallHappens}
use Rattle.enough_frames.specs.Frames.{AreEnough, lacks_frames}
use Rattle.enough_frames.specs.Laws.{pages_made_by}
use Rattle.enough_frames.proofs.Systems.{Balances}
use Rattle.enough_frames.proofs.Lacking.{Has, answered, happens, made_steps}

pub calls : (x : System) (call : Call) (reply : Reply) (x' : System) → Balances x → AreEnough x (pages_made_by call) → CallHappens call reply x x' → Has reply
calls x (once event) reply x' is enough h = happens x event reply x' is enough h.0
calls x (whole t k context) reply x' is enough (inl h) = happens x (Begin t k context) reply x' is enough h.1
calls x (whole t k context) reply x' is enough (inr (begun, h, made)) = made_steps begun t 4294967296 reply x' made
calls x (further t limit) reply x' is enough (last, e, made) = by_last last e made
  where
    by_last : (last : Option Reply) → reply ≡ unwrap_or last Stepped → StepsHappen x t limit last x' → Has reply
    by_last None e made = answered Stepped reply refl e
    by_last (Some last) e made = answered last reply (made_steps x t limit last x' made) e
calls x (scanning n) reply x' is enough (between, visited, h) = ap lacks_frames h.0.0
