use Rattle.std.proofs.Common.{◌≡◌}
use Rattle.frame_arena.proofs.Filling.{begun}
use Rattle.frame_arena.proofs.bytes.Bytes.zeros.Given as goal

abbrev pub invariant-loop-index : goal.invariant-loop-index
invariant-loop-index l = (l.cells.at ≡ l.base.ptr) × (l.cells.slots ≡ begun 0 l.index l.fn.len)
