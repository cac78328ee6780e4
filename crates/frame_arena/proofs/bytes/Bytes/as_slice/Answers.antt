use Rattle.std.proofs.Common.{sym, ◌∙◌}
use Rattle.frame_arena.specs.Offsets.{somes}
use Rattle.frame_arena.proofs.Filling.{same-values, whole-run}
use Rattle.frame_arena.proofs.bytes.Bytes.as_slice.Goals as goal

pub returns : goal.returns
returns c =
    let slots = c.self.inside.cells.slots in
    same-values c.slice.result.now (somes slots) (sym c.slice.ensures ∙ whole-run slots c.self.inside.len c.self.invariant.filled c.self.invariant.sized) ∙ c.self.view_is
