use Rattle.std.proofs.Common.{◌≡◌, ◌<◌, ℕ, length}
use Rattle.std.specs.Prelude.{slice_index}
use Rattle.lowering.proofs.rewrite.own_slots.Given as goal

abbrev pub invariant-loop-slot : goal.invariant-loop-slot
invariant-loop-slot l = record {
  count : length l.own.items ≡ l.slot;
  own : (s : ℕ) → s < l.slot → slice_index l.own.items s ≡ s;
}
