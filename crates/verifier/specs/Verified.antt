-- Verified programs: what is kept of a program that was accepted.
use Rattle.std.specs.Prelude.{◌≡◌, ℕ, ◌≤◌, List, length, All, IfSome, Option, option_and_then}
use Rattle.host_types.specs.declared.shape.Shape.{Shape}
use Rattle.host_types.specs.Shapes.{IsShape}
use Rattle.bpf_decode.specs.Text.{IsWellFormed}
use Rattle.verifier_kinds.specs.declared.kind.Kind.{Kind}
use Rattle.verifier_kinds.specs.Descriptions.{register_of}
use Rattle.verifier.specs.Subject.{Subject, IsContextSize}
use Rattle.verifier.specs.Table.{Table, described, IsTightTable, IsLawful}

-- eight entries for maps, each of a shape within the limits or not there (this project's own limit)
pub record HasShapes (shapes : List (Option Shape)) : Type 0 where
  pub eight : length shapes ≡ 8
  pub each : All (λ shape. IfSome shape IsShape) shapes

-- the shapes of a list by number, at most eight, each within the limits or not there
pub record AreShapes (shapes : List (Option Shape)) : Type 0 where
  pub few : length shapes ≤ 8
  pub each : All (λ shape. IfSome shape IsShape) shapes

-- what is verified has a well-formed text, shapes and a context within the limits
pub record IsSubject (p : Subject) : Type 0 where
  pub text : IsWellFormed p.text
  pub shapes : HasShapes p.shapes
  pub context : IsContextSize p.context_size

-- what was verified, and what is known at each of its slots
pub record Accepted : Type 0 where
  pub subject : Subject
  pub table : Table

-- what holds of each accepted program
pub record IsVerified (v : Accepted) : Type 0 where
  pub subject : IsSubject v.subject
  pub tight : IsTightTable v.subject v.table
  pub lawful : IsLawful v.subject v.table

-- what is known of a register at a slot: nothing where the slot isn't reached
abbrev pub kind_at : Table → ℕ → ℕ → Option Kind
kind_at table slot register = option_and_then (λ d. register_of d register) (described table slot)
