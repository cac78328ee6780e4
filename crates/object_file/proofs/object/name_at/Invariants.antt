use Rattle.std.proofs.Common.{◌≢◌, ℕ, ◌+◌, ◌<◌, slice_index}
use Rattle.object_file.proofs.object.name_at.Given as goal

abbrev pub invariant-loop-length : goal.invariant-loop-length
invariant-loop-length l = (k : ℕ) → k < l.length → slice_index l.names (l.at + k) ≢ 0
