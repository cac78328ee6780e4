use Rattle.std.proofs.Common.{◌≡◌, ℕ, None, length}
use Rattle.verifier.specs.Pass.{pending_at}
use Rattle.verifier.proofs.table.none_pending.Given as goal

abbrev pub invariant-loop-slot : goal.invariant-loop-slot
invariant-loop-slot l = record {
  len : length l.pending.items ≡ l._slot;
  none : (s : ℕ) → pending_at l.pending.items s ≡ None;
}
