use Rattle.std.proofs.Common.{◌≡◌, ℕ, ◌+◌, length}
use Rattle.host_types.specs.Sharing.{pages_broken}
use Rattle.reference_sharing.proofs.sharing.PlainSharing.break_all.Given as goal

abbrev pub invariant-loop-page_index : goal.invariant-loop-page_index
invariant-loop-page_index l =
    (rest : ℕ) → l.page_index + rest ≡ length l.initial.self.pages → pages_broken l.self l.page_index rest ≡ pages_broken l.initial.self 0 (length l.initial.self.pages)
