-- What is verified.
use Rattle.std.specs.Prelude.{◌≡◌, ℕ, ◌-◌, ◌≤◌, ◌%◌, List, ◌++◌, length, replicate, Option, None}
use Rattle.host_types.specs.declared.shape.Shape.{Shape}

-- A program's text, the shapes of the maps that it may use by number, and the size of its context. A number
-- without a shape is that of no map.
pub record Subject : Type 0 where
  pub text : List ℕ
  pub shapes : List (Option Shape)
  pub context_size : ℕ

-- The shapes of a list by number: there are eight numbers, and after the list none has a shape.
abbrev pub padded : List (Option Shape) → List (Option Shape)
padded shapes = shapes ++ replicate (8 - length shapes) None

-- a context has 0 to 256 bytes, a multiple of 8 (this project's own limit)
pub record IsContextSize (size : ℕ) : Type 0 where
  pub most : size ≤ 256
  pub words : size % 8 ≡ 0
