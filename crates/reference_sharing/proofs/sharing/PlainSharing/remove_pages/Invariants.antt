use Rattle.std.proofs.Common.{◌≡◌, ℕ, ◌+◌}
use Rattle.host_types.specs.Sharing.{gone_from}
use Rattle.reference_sharing.proofs.sharing.PlainSharing.remove_pages.Given as goal

abbrev pub invariant-loop-number : goal.invariant-loop-number
invariant-loop-number l = record {
  gone : (rest : ℕ) → l.number + rest ≡ l.count → gone_from l.self (l.first + l.number) rest ≡ gone_from l.initial.self l.first l.count;
  waiting : l.self.waiting ≡ l.initial.self.waiting;
}
