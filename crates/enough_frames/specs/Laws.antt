-- Which calls aren't refused for lack of frames.
use Rattle.std.specs.Prelude.{◌≡◌, ℕ, false, List, Some}
use Rattle.host_core.specs.declared.reply.Reply.{Reply}
use Rattle.host_core.specs.HostView.{HostView, StandsForSystem}
use Rattle.host_core.specs.Many.{RunsMany}
use Rattle.host_core.specs.World.{System}
use Rattle.library_calls.specs.Isolation.{Call, once, CallHappens}
use Rattle.enough_frames.specs.Frames.{pages_made, AreEnough, lacks_frames}

-- how many pages a call is to make
abbrev pub pages_made_by : Call → ℕ
pages_made_by (once event) = pages_made event
pages_made_by call = 0

-- Where there are enough frames, the next call isn't refused for lack of them: whatever happened before, whichever pages share frames, and
-- whichever runs are open.
abbrev pub NextHasFrames : HostView → Type 0
NextHasFrames view =
    (x x' : System) (call : Call) (reply : Reply) → StandsForSystem view x → AreEnough x (pages_made_by call) → CallHappens call reply x x'
    → lacks_frames reply ≡ false

-- So is a call that makes runs on many contexts, one after the other.
abbrev pub ManyHaveFrames : HostView → Type 0
ManyHaveFrames view =
    (x x' : System) (t k : ℕ) (contexts : List ℕ) (size : ℕ) (rets : List ℕ) (n : ℕ) (reply : Reply) → StandsForSystem view x → AreEnough x 0
    → RunsMany t k contexts size rets n (Some reply) x x' → lacks_frames reply ≡ false
