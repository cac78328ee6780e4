use Rattle.std.proofs.Common.{◌∙◌, sym}
use Rattle.frame_arena.proofs.Vectors.{zeros_by_vectors}
use Rattle.frame_arena.proofs.lanes.is_zero_at.Goals as goal

pub returns : goal.returns
returns c =
    let parts = zeros_by_vectors c.args.bytes.now c.args.at in
    let first = c.lanes_at.ensures in
    let second = c.lanes_at-2.ensures in
    let third = c.lanes_at-3.ensures in
    let fourth = c.lanes_at-4.ensures in (
      λ t. let none = c.are_zeros.ensures.0 t in parts.1 (sym first ∙ none.0, sym second ∙ none.1, sym third ∙ none.2, sym fourth ∙ none.3),
      λ e. let none = parts.0 e in c.are_zeros.ensures.1 (first ∙ none.0, second ∙ none.1, third ∙ none.2, fourth ∙ none.3),
    )
