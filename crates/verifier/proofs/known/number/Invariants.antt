use Rattle.std.proofs.Common.{◌≡◌, ℕ, ◌<◌, None, length}
use Rattle.std.specs.Prelude.{slice_index, slice_index_or}
use Rattle.verifier.specs.Known.{AreNumbers, KeepsKinds}
use Rattle.verifier.proofs.known.number.Given as goal

abbrev pub invariant-loop-register : goal.invariant-loop-register
invariant-loop-register l = record {
  long : length l.row ≡ 11;
  numbers : AreNumbers l.kinds.items l.row;
  kept : KeepsKinds l.initial.kinds.items l.kinds.items l.register;
  numbered : (r : ℕ) → r < l.register → slice_index_or l.kinds.items (slice_index l.row r) None ≡ slice_index_or l.registers r None;
}
