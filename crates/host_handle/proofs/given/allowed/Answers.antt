use Rattle.std.proofs.Common.{◌≤◌, All, IfSome, length, sym, subst, arith}
use Rattle.host_types.specs.Shapes.{IsShape}
use Rattle.host_handle.specs.Texts.{shapes_given}
use Rattle.host_handle.proofs.Textual.{eight_shapes}
use Rattle.host_handle.proofs.given.allowed.Goals as goal

pub returns-then-not-are_valid-clause-refused : goal.returns-then-not-are_valid-clause-refused
returns-then-not-are_valid-clause-refused c =
    let few : length c.args.given.now ≤ 8 = omega (arith, c.if-given-gt-MAX_MAPS.false) in (
      few,
      λ shapes.
          let each : All (λ shape. IfSome shape IsShape) c.by_number-shapes.result = subst (All (λ shape. IfSome shape IsShape)) (sym c.by_number-shapes.ensures) shapes.each in
          let yes = c.are_valid.ensures.1 each in cc,
    )

pub returns-then-not-is_context_size-clause-refused : goal.returns-then-not-is_context_size-clause-refused
returns-then-not-is_context_size-clause-refused c =
    let few : length c.args.given.now ≤ 8 = omega (arith, c.if-given-gt-MAX_MAPS.false) in
    let each : All (λ shape. IfSome shape IsShape) (shapes_given c.args.given.now) =
    subst (All (λ shape. IfSome shape IsShape)) c.by_number-shapes.ensures (c.are_valid.ensures.0 c.if-not-are_valid.false) in (
      few,
      eight_shapes c.args.given.now each,
      λ fits. let yes = c.is_context_size.ensures.1 fits in cc,
    )

pub returns-clause-allowed : goal.returns-clause-allowed
returns-clause-allowed c =
    let few : length c.args.given.now ≤ 8 = omega (arith, c.if-given-gt-MAX_MAPS.false) in
    let each : All (λ shape. IfSome shape IsShape) (shapes_given c.args.given.now) =
    subst (All (λ shape. IfSome shape IsShape)) c.by_number-shapes.ensures (c.are_valid.ensures.0 c.if-not-are_valid.false) in
    record { few = few; shapes = eight_shapes c.args.given.now each; context = c.is_context_size.ensures.0 c.if-not-is_context_size.false }
