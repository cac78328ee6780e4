-- Replies to the runs of two seats' tenants.
use Rattle.std.specs.Prelude.{◌≡◌, ◌⊎◌, Bool, true, false, List, [], ◌∷◌, Result, Ok, Err}
use Rattle.host_types.specs.declared.fault.Fault.{Fault}
use Rattle.host_types.specs.declared.fault.Fault.TheVariants.{NoFrames, OutOfMemory}
use Rattle.host_types.specs.Memory.{FlatMaps}
use Rattle.tenant_runs.specs.declared.answers.RunReply.{RunReply}

-- frames or memory were scarce, of which other tenants had their share
abbrev pub is_scarce_run : Result RunReply Fault → Bool
is_scarce_run (Err (NoFrames need have)) = true
is_scarce_run (Err OutOfMemory) = true
is_scarce_run reply = false

-- The replies are the same on both sides up to the first scarce one on either side. Where none is scarce they are all the same,
-- and so are the maps afterwards.
abbrev pub RunsGoAlike : List (Result RunReply Fault) → List (Result RunReply Fault) → FlatMaps → FlatMaps → Type 0
RunsGoAlike [] [] maps others = maps ≡ others
RunsGoAlike (reply ∷ replies) (other ∷ further) maps others =
    (is_scarce_run reply ≡ true) ⊎ ((is_scarce_run other ≡ true) ⊎ ((reply ≡ other) × RunsGoAlike replies further maps others))
RunsGoAlike replies further maps others = ⊥
