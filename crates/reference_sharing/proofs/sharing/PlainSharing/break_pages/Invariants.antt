use Rattle.std.proofs.Common.{◌≡◌, ◌≤◌, ℕ, ◌+◌}
use Rattle.host_types.specs.Sharing.{cost_from}
use Rattle.host_types.specs.Pins.{broken_for_run_from}
use Rattle.reference_sharing.proofs.sharing.PlainSharing.break_pages.Given as goal

abbrev pub invariant-loop-number : goal.invariant-loop-number
invariant-loop-number l = record {
  small : l.cost ≤ l.number;
  broken : (rest : ℕ) → l.number + rest ≡ l.count → broken_for_run_from l.running l.self (l.first + l.number) rest ≡ broken_for_run_from l.running l.initial.self l.first l.count;
  cost : (rest : ℕ) → l.number + rest ≡ l.count → l.cost + cost_from l.self (l.first + l.number) rest ≡ cost_from l.initial.self l.first l.count;
}
