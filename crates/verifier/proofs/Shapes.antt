-- Shapes by number.
use Rattle.std.proofs.Common.{◌≡◌, ℕ, ◌-◌, ◌≤◌, List, ◌++◌, drop, length, replicate, All, IfSome, Option, Some, None, option_map, unwrap_or, inl, inr, ap, length-append, arith}
use Rattle.std.proofs.lemmas.Bool.{cases_lt}
use Rattle.std.proofs.lemmas.List.{drop-replicate, get_or_past, length-replicate}
use Rattle.std.proofs.lemmas.List.Elements.{All-append, All-get_or, All-replicate}
use Rattle.host_types.specs.declared.shape.Shape.{Shape}
use Rattle.host_types.specs.Shapes.{IsShape}
use Rattle.verifier_kinds.specs.Kinds.{shape_at}
use Rattle.verifier.specs.Subject.{Subject, padded}
use Rattle.verifier.specs.Flow.{value_size_of}
use Rattle.verifier.specs.Verified.{HasShapes, AreShapes}

-- no shape is there where none is
all_none : (n : ℕ) → All (λ shape. IfSome shape IsShape) (replicate n None)
all_none n = All-replicate (λ shape. IfSome shape IsShape) n None tt

-- a shape that is there is within the limits
pub shape_is_shape : (shapes : List (Option Shape)) (m : ℕ) → HasShapes shapes → IfSome (shape_at shapes m) IsShape
shape_is_shape shapes m h = elim (cases_lt m (length shapes)) [
  | inl within ↦ All-get_or (λ shape. IfSome shape IsShape) shapes m None within h.each
  | inr past ↦ rw (get_or_past shapes m None past) tt
]

-- a value of a map has at most 4096 bytes
pub value_size_small : (p : Subject) (m : ℕ) → HasShapes p.shapes → value_size_of p m ≤ 4096
value_size_small p m h = small (shape_at p.shapes m) (shape_is_shape p.shapes m h)
  where
    small : (shape : Option Shape) → IfSome shape IsShape → unwrap_or (option_map (λ (shape : Shape). shape.value_size) shape) 0 ≤ 4096
    small None h = omega arith
    small (Some shape) h = h.small

-- shapes within the limits are so with the numbers after them
pub padded_shapes : (shapes : List (Option Shape)) → AreShapes shapes → HasShapes (padded shapes)
padded_shapes shapes a = record {
  eight = let few = a.few in simp (length-append, length-replicate) (omega arith);
  each = All-append (λ shape. IfSome shape IsShape) _ _ a.each (all_none (8 - length shapes));
}

-- a list that is written over the first of eight empty elements
pub written_over : (shapes : List (Option Shape)) → shapes ++ drop (length shapes) (replicate 8 None) ≡ padded shapes
written_over shapes = ap (λ none. shapes ++ none) (drop-replicate (length shapes) 8 None)
