-- What a lowered text keeps of the runs of the original.
use Rattle.std.specs.Prelude.{◌≡◌, ℕ, ◌↔◌, List, slice_index, None}
use Rattle.host_types.specs.Memory.{FlatMaps}
use Rattle.interp.specs.Machine.{MachineState, Next, Exits, step}
use Rattle.interp.specs.Runs.{Runs}

-- a run from the beginning comes to a state
abbrev pub ComesTo : List ℕ → List ℕ → FlatMaps → MachineState → Type 0
ComesTo text context maps s = (n : ℕ) × Runs text context maps n (Next s)

-- a run from the beginning ends with a number and the maps
abbrev pub Ends : List ℕ → List ℕ → FlatMaps → ℕ → FlatMaps → Type 0
Ends text context maps number left = (n : ℕ) × Runs text context maps n (Exits number left)

-- a run from the beginning comes to a state at which it fails
abbrev pub Fails : List ℕ → List ℕ → FlatMaps → MachineState → Type 0
Fails text context maps s = ComesTo text context maps s × (step text s ≡ None)

-- two texts end alike with each context and all maps: with the same number and the same maps, or neither ends
abbrev pub EndAlike : List ℕ → List ℕ → Type 0
EndAlike text other =
    (context : List ℕ) (maps : FlatMaps) (number : ℕ) (left : FlatMaps) → Ends text context maps number left ↔ Ends other context maps number left

-- a state of a lowered text, at the slot of the original for which its instruction stands
abbrev pub at_origin : List ℕ → MachineState → MachineState
at_origin origins s = record s { slot = slice_index origins s.slot }

-- what a lowered text is to the original, with the slot of the original for which each of its slots stands
abbrev pub Rewriting : Type 1
Rewriting = List ℕ → List ℕ → List ℕ → Type 0

-- a text that was rewritten ends as the original does
abbrev pub EndsAreKept : Rewriting → Type 0
EndsAreKept rewritten = (text lowered origins : List ℕ) → rewritten text lowered origins → EndAlike text lowered

-- each state to which a lowered text comes is one to which the original comes, at its origin
abbrev pub StatesHaveOrigins : Rewriting → Type 0
StatesHaveOrigins rewritten =
    (text lowered origins context : List ℕ) (maps : FlatMaps) (s : MachineState) → rewritten text lowered origins
    → ComesTo lowered context maps s → ComesTo text context maps (at_origin origins s)

-- where a lowered text fails, the original fails at the origin
abbrev pub FailuresHaveOrigins : Rewriting → Type 0
FailuresHaveOrigins rewritten =
    (text lowered origins context : List ℕ) (maps : FlatMaps) (s : MachineState) → rewritten text lowered origins
    → Fails lowered context maps s → Fails text context maps (at_origin origins s)

-- where the original fails, the lowered text fails at a copy
abbrev pub FailuresAreKept : Rewriting → Type 0
FailuresAreKept rewritten =
    (text lowered origins context : List ℕ) (maps : FlatMaps) (s : MachineState) → rewritten text lowered origins
    → Fails text context maps s → (t : MachineState) × Fails lowered context maps t × (at_origin origins t ≡ s)

-- no run of a text with a context and maps fails
abbrev pub IsFaultless : List ℕ → List ℕ → FlatMaps → Type 0
IsFaultless text context maps = (s : MachineState) → Fails text context maps s → ⊥

-- where no run of another text fails, none of this one fails
abbrev pub KeepsFaultless : List ℕ → List ℕ → Type 0
KeepsFaultless text other = (context : List ℕ) (maps : FlatMaps) → IsFaultless other context maps → IsFaultless text context maps

-- where a lowered text never fails, as the verifier grants of those that it accepts, the original never fails
abbrev pub FaultlessnessIsKept : Rewriting → Type 0
FaultlessnessIsKept rewritten = (text lowered origins : List ℕ) → rewritten text lowered origins → KeepsFaultless text lowered
