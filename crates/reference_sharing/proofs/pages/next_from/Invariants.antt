use Rattle.std.proofs.Common.{◌≡◌, drop}
use Rattle.host_types.specs.Visits.{first_mergeable}
use Rattle.reference_sharing.specs.View.{page_states}
use Rattle.reference_sharing.proofs.pages.next_from.Given as goal

-- no page before the index may be merged
abbrev pub invariant-loop-page_index : goal.invariant-loop-page_index
invariant-loop-page_index l =
    first_mergeable l.page_index (drop l.page_index (page_states l.pages)) ≡ first_mergeable l.from (drop l.from (page_states l.pages))
