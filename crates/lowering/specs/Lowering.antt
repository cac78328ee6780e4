-- What `lower` makes of a text: the text itself, or one that covers it, without some of its jumps.
use Rattle.std.specs.Prelude.{◌≡◌, ℕ, ◌<◌, ◌⊎◌, List, length, slice_index, Option}
use Rattle.host_types.specs.declared.shape.Shape.{Shape}
use Rattle.host_types.specs.declared.fault.Refused.{Refused}
use Rattle.bpf_decode.specs.Text.{slots_of, IsFirstFault, out_of_memory}
use Rattle.verifier.specs.Subject.{Subject, padded}
use Rattle.verifier.specs.Table.{IsRefusal}
use Rattle.verifier.specs.Verified.{Accepted, IsVerified}
use Rattle.lowering.specs.Covering.{IsShorterCovering}

-- what is verified of a text
abbrev pub subject_with : List ℕ → List (Option Shape) → ℕ → Subject
subject_with text shapes context_size = record { text = text; shapes = padded shapes; context_size = context_size }

-- the verifier accepts a subject: it has a tight table that is lawful
abbrev pub VerifierAccepts : Subject → Type 0
VerifierAccepts p = (v : Accepted) × (v.subject ≡ p) × IsVerified v

-- the refusal of a subject, by its text alone or by the verifier, or the one for want of memory
abbrev pub IsRefusedBy : Subject → Refused → Type 0
IsRefusedBy p refused = (refused ≡ out_of_memory) ⊎ (IsFirstFault p.text refused ⊎ IsRefusal p refused)

-- a text that was left as it is: each of its slots stands for itself
pub record IsLeftAsItIs (text lowered origins : List ℕ) : Type 0 where
  pub same : lowered ≡ text
  pub whole : length origins ≡ slots_of text
  pub own : (slot : ℕ) → slot < slots_of text → slice_index origins slot ≡ slot

-- A text was lowered: it is the text itself, of which instructions that no run reaches may lead anywhere, or it came of
-- one that covers the text.
abbrev pub IsLowered : List ℕ → List ℕ → List ℕ → Type 0
IsLowered text lowered origins = IsLeftAsItIs text lowered origins ⊎ IsShorterCovering text lowered origins
