use Rattle.std.proofs.Common.{◌≡◌, ◌≤◌, ℕ, length}
use Rattle.std.specs.Prelude.{slice_index_or}
use Rattle.verifier.specs.Table.{tight_table}
use Rattle.verifier.specs.Reserve.{reserve_from}
use Rattle.verifier.proofs.reserve.reserves.Given as goal

abbrev pub invariant-loop-slot : goal.invariant-loop-slot
invariant-loop-slot l = record {
  whole : length l.reserves.items ≡ l.slots;
  sum : l.reserve ≡ reserve_from (record { subject = l.candidate; table = tight_table l.candidate }) l.slot;
  summed : (s : ℕ) → l.slot ≤ s → slice_index_or l.reserves.items s 0 ≡ reserve_from (record { subject = l.candidate; table = tight_table l.candidate }) s;
}
