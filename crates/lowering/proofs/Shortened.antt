-- Runs of a text without some of the jumps of one that covers the original.
use Rattle.std.specs.Prelude.{◌≡◌, ℕ, List, slice_index}
use Rattle.std.proofs.Common.{sym, ap, subst, ◌∙◌}
use Rattle.host_types.specs.Memory.{FlatMaps}
use Rattle.bpf_decode.specs.Text.{IsInstruction}
use Rattle.interp.specs.Machine.{MachineState}
use Rattle.lowering.specs.Covering.{IsCopy, IsShortening, IsShorterCovering}
use Rattle.lowering.specs.Laws.{ComesTo, Fails, at_origin, EndsAreKept, StatesHaveOrigins, FailuresHaveOrigins, FailuresAreKept, FaultlessnessIsKept}
use Rattle.lowering.proofs.Moved.{moved}
use Rattle.lowering.proofs.Running.{ends_alike, states_have_origins, failures_have_origins, failures_are_kept, fails_as_copy, HasCopy, has_copy, copy_fails, faultless_by}

-- a copy's origin in the original is that of the slot for which it stands
same_origin : (text whole lowered far near origins : List ℕ) (t : MachineState) → IsShortening text whole lowered far near origins
    → IsInstruction whole t.slot → IsCopy lowered whole near t.slot (slice_index near t.slot) → at_origin far t ≡ at_origin origins (at_origin near t)
same_origin text whole lowered far near origins t shortening here copy = ap (λ (slot : ℕ). moved slot t) (sym (shortening.kept t.slot here copy))

-- so is the origin of a state at its copy
state_origin : (text whole lowered far near origins context : List ℕ) (maps : FlatMaps) (s : MachineState) → IsShortening text whole lowered far near origins
    → (found : HasCopy lowered whole near context maps s) → at_origin far found.at ≡ at_origin origins s
state_origin text whole lowered far near origins context maps s shortening found =
    same_origin text whole lowered far near origins found.at shortening found.here found.copy ∙ ap (at_origin origins) found.same

pub shortened_ends_alike : EndsAreKept IsShorterCovering
shortened_ends_alike text lowered origins (whole, far, near, shortening) context maps number left =
    let of_text = ends_alike text whole far shortening.covers context maps number left in
    let of_lowered = ends_alike lowered whole near shortening.shorter context maps number left in
    (λ ends. of_lowered.1 (of_text.0 ends), λ ends. of_text.1 (of_lowered.0 ends))

pub shortened_states_have_origins : StatesHaveOrigins IsShorterCovering
shortened_states_have_origins text lowered origins context maps s (whole, far, near, shortening) comes =
    let found = has_copy lowered whole near context maps shortening.shorter comes.0 s comes.1 in
    subst (ComesTo text context maps) (state_origin text whole lowered far near origins context maps s shortening found)
    (states_have_origins text whole far context maps found.at shortening.covers found.run)

pub shortened_failures_have_origins : FailuresHaveOrigins IsShorterCovering
shortened_failures_have_origins text lowered origins context maps s (whole, far, near, shortening) fails =
    let found = has_copy lowered whole near context maps shortening.shorter fails.0.0 s fails.0.1 in
    subst (Fails text context maps) (state_origin text whole lowered far near origins context maps s shortening found)
    (failures_have_origins text whole far context maps found.at shortening.covers (copy_fails lowered whole near context maps s found fails.1))

pub shortened_failures_are_kept : FailuresAreKept IsShorterCovering
shortened_failures_are_kept text lowered origins context maps s (whole, far, near, shortening) fails =
    let (t, failing, same) = failures_are_kept text whole far context maps s shortening.covers fails in
    let (here, copy) = fails_as_copy lowered whole near context maps t shortening.shorter failing in (
      at_origin near t,
      failures_have_origins lowered whole near context maps t shortening.shorter failing,
      sym (same_origin text whole lowered far near origins t shortening here copy) ∙ same,
    )

pub shortened_keeps_faultless : FaultlessnessIsKept IsShorterCovering
shortened_keeps_faultless = faultless_by IsShorterCovering shortened_failures_are_kept
